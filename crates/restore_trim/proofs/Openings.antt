-- A log's fault as it opens, told as the task's.
use Rattle.std.proofs.Common.{ℕ, ◌≡◌, ◌≢◌, ◌∙◌, List, length, Option, Some, None, sym, subst, ap, refl}
use Rattle.samza_model.specs.declared.messages.Record.{Record}
use Rattle.samza_model.specs.declared.checkpoints.Checkpoint.{Checkpoint}
use Rattle.samza_model.specs.declared.setups.Setup.{Setup}
use Rattle.samza_model.specs.Files.{Image, changelog_file}
use Rattle.samza_model.specs.Logs.{joined, HasFrames}
use Rattle.samza_model.specs.Restored.{EndsAs, HasMark, IsNamed}
use Rattle.topic_log.specs.declared.faults.LogFault.{LogFault}
use Rattle.topic_log.specs.declared.faults.LogFault.TheVariants.{Device, Damaged, Limit, Broken, NoMemory}
use Rattle.topic_log.specs.Growth.{Passes}
use Rattle.topic_log.proofs.Laws.{frames_unique}
use Rattle.restore_trim.specs.declared.faults.OpenFault.{OpenFault}
use Rattle.restore_trim.specs.declared.faults.OpenFault.TheVariants.{Device as OpenDevice, Damaged as OpenDamaged, Shape, Ahead, Limit as OpenLimit, NoMemory as OpenNoMemory}
use Rattle.restore_trim.specs.Refused.{HasChanges, IsMiscount, IsNoLogAt, IsOpeningOf, RevertPasses, StoreOpens, WhyNoFile, WhyNoStore}

pub file_fault : (image : Image) (file : ℕ) (f : LogFault) (e : OpenFault) → IsOpeningOf file f e → f ≢ Limit → ((at : ℕ) → f ≡ Damaged at → IsNoLogAt (image file) at) → WhyNoFile image file e
file_fault image file Device e is room none = subst (λ x. WhyNoFile image file x) (sym is) tt
file_fault image file (Damaged at) e is room none = subst (λ x. WhyNoFile image file x) (sym is) (refl, none at refl)
file_fault image file Limit e is room none = absurd (room refl)
file_fault image file Broken e is room none = absurd is
file_fault image file NoMemory e is room none = subst (λ x. WhyNoFile image file x) (sym is) tt

pub no_store : (image : Image) (store count : ℕ) (e : OpenFault) → WhyNoFile image (changelog_file store) e → WhyNoStore image store count e
no_store image store count OpenDevice why = tt
no_store image store count (OpenDamaged None file at) why = why
no_store image store count (OpenDamaged (Some input) file at) why = absurd why
no_store image store count Shape why = absurd why
no_store image store count (Ahead input s wanted held) why = absurd why
no_store image store count OpenLimit why = absurd why
no_store image store count OpenNoMemory why = tt

-- what takes the last records back isn't written
pub written_fault : (image : Image) (store count : ℕ) (f : LogFault) (e : OpenFault) → IsOpeningOf (changelog_file store) f e → ((at : ℕ) → f ≢ Damaged at) → (f ≡ Limit → RevertPasses image store count) → WhyNoStore image store count e
written_fault image store count Device e is sane passes = subst (λ x. WhyNoStore image store count x) (sym is) tt
written_fault image store count (Damaged at) e is sane passes = absurd (sane at refl)
written_fault image store count Limit e is sane passes = subst (λ x. WhyNoStore image store count x) (sym is) (passes refl)
written_fault image store count Broken e is sane passes = absurd is
written_fault image store count NoMemory e is sane passes = subst (λ x. WhyNoStore image store count x) (sym is) tt

-- the file has fewer records than are counted
pub miscounted : (image : Image) (store count held : ℕ) (e : OpenFault) → IsMiscount store count held e → HasChanges image store held → WhyNoStore image store count e
miscounted image store count have OpenDevice is has = absurd is
miscounted image store count have (OpenDamaged input file at) is has = absurd is
miscounted image store count have Shape is has = absurd is
miscounted image store count have (Ahead None None wanted held) is has = absurd is
miscounted image store count have (Ahead None (Some s) wanted held) is has = (is.0, is.1, subst (λ n. HasChanges image store n) (sym is.2) has, is.3)
miscounted image store count have (Ahead (Some input) s wanted held) is has = absurd is
miscounted image store count have OpenLimit is has = absurd is
miscounted image store count have OpenNoMemory is has = absurd is

-- the checkpoint with which the frames end is the setup's
pub has_mark : (s : Setup) (frames : List (List Record)) (mark : Option Checkpoint) → EndsAs frames mark → ((k : Checkpoint) → mark ≡ Some k → IsNamed s k) → HasMark s frames mark
has_mark s frames None ends named = ends
has_mark s frames (Some k) ends named = (ends, named k refl)

-- what is said of a store's changelog goes by its file alone
module _ (image image' : Image) (store count : ℕ) (same : image (changelog_file store) ≡ image' (changelog_file store)) where
  pub changes_were : (held : ℕ) → HasChanges image store held → HasChanges image' store held
  changes_were held h = record { frames = h.frames; has = subst (λ b. HasFrames b h.frames) same h.has; held_is = h.held_is }

  pub revert_passed : RevertPasses image store count → RevertPasses image' store count
  revert_passed p = record {
    frames = p.frames;
    has = subst (λ b. HasFrames b p.frames) same p.has;
    more = p.more;
    passes = record { frames = p.passes.frames; cut = p.passes.cut; passes = subst (λ b. Passes b p.passes.frames) same p.passes.passes };
  }

  pub no_store_was : (e : OpenFault) → WhyNoStore image store count e → WhyNoStore image' store count e
  no_store_was OpenDevice why = tt
  no_store_was (OpenDamaged None file at) why = subst (λ b. (file ≡ changelog_file store) × IsNoLogAt b at) same why
  no_store_was (OpenDamaged (Some input) file at) why = absurd why
  no_store_was Shape why = absurd why
  no_store_was (Ahead None None wanted held) why = absurd why
  no_store_was (Ahead None (Some s) wanted held) why = (why.0, why.1, changes_were held why.2, why.3)
  no_store_was (Ahead (Some input) s wanted held) why = absurd why
  no_store_was OpenLimit why = revert_passed why
  no_store_was OpenNoMemory why = tt

pub store_opened : (image image' : Image) (store count : ℕ) → image (changelog_file store) ≡ image' (changelog_file store) → StoreOpens image store count → StoreOpens image' store count
store_opened image image' store count same o = record {
  held = o.held;
  has = changes_were image image' store count same o.held o.has;
  enough = o.enough;
  room = λ p. o.room (revert_passed image' image store count (sym same) p);
}

-- images whose file has the same frames
pub frames_like : (image image' : Image) (file : ℕ) (frames : List (List Record)) → HasFrames (image file) frames → HasFrames (image' file) frames
    → (fs : List (List Record)) → HasFrames (image file) fs → HasFrames (image' file) fs
frames_like image image' file frames has has' fs h = subst (λ (gs : List (List Record)). HasFrames (image' file) gs) (frames_unique (image file) frames fs has h) has'

-- and by its frames
module _ (image image' : Image) (store count : ℕ) (frames : List (List Record)) (has : HasFrames (image (changelog_file store)) frames) (has' : HasFrames (image' (changelog_file store)) frames) where
  changes_like : (held : ℕ) → HasChanges image store held → HasChanges image' store held
  changes_like held h = record {
    frames = frames;
    has = has';
    held_is = h.held_is ∙ ap (λ (fs : List (List Record)). length (joined fs)) (frames_unique (image (changelog_file store)) h.frames frames h.has has);
  }

  pub revert_passes_like : RevertPasses image store count → RevertPasses image' store count
  revert_passes_like p =
      let at = frames_like image image' (changelog_file store) frames has has' in
      record {
        frames = p.frames;
        has = at p.frames p.has;
        more = p.more;
        passes = record {
          frames = p.passes.frames;
          cut = p.passes.cut;
          passes = record { had = p.passes.passes.had; has = at p.passes.passes.had p.passes.passes.has; some = p.passes.passes.some; passes = p.passes.passes.passes };
        };
      }

  pub no_store_like : (e : OpenFault) → WhyNoStore image store count e → WhyNoStore image' store count e
  no_store_like OpenDevice why = tt
  no_store_like (OpenDamaged None file at) why = absurd (why.1.1 frames has)
  no_store_like (OpenDamaged (Some input) file at) why = absurd why
  no_store_like Shape why = absurd why
  no_store_like (Ahead None None wanted held) why = absurd why
  no_store_like (Ahead None (Some s) wanted held) why = (why.0, why.1, changes_like held why.2, why.3)
  no_store_like (Ahead (Some input) s wanted held) why = absurd why
  no_store_like OpenLimit why = revert_passes_like why
  no_store_like OpenNoMemory why = tt

pub store_opens_like : (image image' : Image) (store count : ℕ) (frames : List (List Record)) → HasFrames (image (changelog_file store)) frames → HasFrames (image' (changelog_file store)) frames
    → StoreOpens image store count → StoreOpens image' store count
store_opens_like image image' store count frames has has' o = record {
  held = o.held;
  has = changes_like image image' store count frames has has' o.held o.has;
  enough = o.enough;
  room = λ p. o.room (revert_passes_like image' image store count frames has' has p);
}

-- what is said of a file that is no log goes by that file alone
pub no_file_was : (image image' : Image) (file : ℕ) (e : OpenFault) → image file ≡ image' file → WhyNoFile image file e → WhyNoFile image' file e
no_file_was image image' file OpenDevice same why = tt
no_file_was image image' file (OpenDamaged None f at) same why = subst (λ b. (f ≡ file) × IsNoLogAt b at) same why
no_file_was image image' file (OpenDamaged (Some input) f at) same why = absurd why
no_file_was image image' file Shape same why = absurd why
no_file_was image image' file (Ahead input s wanted held) same why = absurd why
no_file_was image image' file OpenLimit same why = absurd why
no_file_was image image' file OpenNoMemory same why = tt
