-- Where a task can be opened there is no cause not to open it.
use Rattle.std.proofs.Common.{ℕ, ◌≡◌, ◌≢◌, List, [], ◌∷◌, length, Option, Some, None, inl, inr, if◌then◌else◌, refl, sym, subst, ap, ◌∙◌, arith}
use Rattle.samza_model.specs.declared.messages.Record.{Record}
use Rattle.samza_model.specs.declared.setups.Setup.{Setup}
use Rattle.samza_model.specs.declared.checkpoints.Checkpoint.{Checkpoint}
use Rattle.samza_model.specs.Files.{Image, checkpoint_file, changelog_file, output_file}
use Rattle.samza_model.specs.Logs.{joined, HasFrames, HasLog}
use Rattle.samza_model.specs.Partition.{partition_of}
use Rattle.samza_model.proofs.Laws.{start_in}
use Rattle.samza_model.specs.Restored.{count_at, next_at, start_of, fallback_start, EndsWith, HasMark, IsMarked, IsNamed}
use Rattle.topic_log.proofs.Laws.{frames_unique, log_unique}
use Rattle.restore_trim.proofs.Shared.{outputs_of, ends_one, none_ends, marked_one}
use Rattle.checkpoint_log.specs.Ends.{IsBadEnd}
use Rattle.restore_trim.specs.declared.faults.OpenFault.{OpenFault}
use Rattle.restore_trim.specs.declared.faults.OpenFault.TheVariants.{Device, Damaged, Shape, Ahead, Limit, NoMemory}
use Rattle.restore_trim.specs.Refused.{FilesHold, HasChanges, OutputsHold, OutputsRefused, StoreOpens, StoresOpen, StoresRefused, WhyNoFile, WhyNoMark, WhyNoStore, WhyRefused}
use Rattle.unit_opening.specs.Inputs.{WhyNoInput, input_of}
use Rattle.unit_opening.specs.Opens.{Opens}
use Rattle.unit_opening.specs.Refused.{IsPastEnd, WhyNotOpened}

not_bad : (s : Setup) (frames : List (List Record)) (at : ℕ) (m : Option Checkpoint) → HasMark s frames m → IsBadEnd frames at → ⊥
not_bad s frames at None none bad = none_ends frames bad.before bad.last none bad.split
not_bad s frames at (Some k) is bad = bad.bad k is.0

not_other : (s : Setup) (frames : List (List Record)) (m : Option Checkpoint) (k : Checkpoint) → HasMark s frames m → EndsWith frames k → (IsNamed s k → ⊥) → ⊥
not_other s frames None k none ends other = none_ends frames ends.before (ends.last ∷ []) none ends.split
not_other s frames (Some k') k is ends other = other (subst (λ (c : Checkpoint). IsNamed s c) (ends_one frames k' k is.0 ends) is.1)

-- two numbers of one changelog's records are one
pub changes_one : (image : Image) (store a b : ℕ) → HasChanges image store a → HasChanges image store b → a ≡ b
changes_one image store a b p q =
    p.held_is ∙ ap (λ (fs : List (List Record)). length (joined fs)) (frames_unique (image (changelog_file store)) p.frames q.frames p.has q.has) ∙ sym q.held_is

module _ (s : Setup) (image : Image) (m : Option Checkpoint) (marked : IsMarked s image m) where
  marked_at : (frames : List (List Record)) → HasFrames (image checkpoint_file) frames → HasMark s frames m
  marked_at frames has = subst (λ (fs : List (List Record)). HasMark s fs m) (frames_unique (image checkpoint_file) marked.frames frames marked.has has) marked.mark_is

  pub has_mark : (e : OpenFault) → e ≢ Device → e ≢ NoMemory → WhyNoMark s image e → ⊥
  has_mark Device device memory why = device refl
  has_mark (Damaged None file at) device memory why =
      elim why.1 [
        | inl none ↦ none.1 marked.frames marked.has
        | inr bad ↦ not_bad s bad.frames at m (marked_at bad.frames bad.has) bad.bad
      ]
  has_mark (Damaged (Some i) file at) device memory why = why
  has_mark Shape device memory why = not_other s why.frames m why.mark (marked_at why.frames why.has) why.ends why.other
  has_mark (Ahead i store wanted held) device memory why = why
  has_mark Limit device memory why = why
  has_mark NoMemory device memory why = memory refl

pub has_store : (image : Image) (store count : ℕ) (e : OpenFault) → e ≢ Device → e ≢ NoMemory → StoreOpens image store count → WhyNoStore image store count e → ⊥
has_store image store count Device device memory opens why = device refl
has_store image store count (Damaged None file at) device memory opens why = why.1.1 opens.has.frames opens.has.has
has_store image store count (Damaged (Some i) file at) device memory opens why = why
has_store image store count Shape device memory opens why = why
has_store image store count (Ahead None None wanted held) device memory opens why = why
has_store image store count (Ahead None (Some n) wanted held) device memory opens why =
    absurd (omega (arith, changes_one image store held opens.held why.2 opens.has, why.1, why.3, opens.enough))
has_store image store count (Ahead (Some i) n wanted held) device memory opens why = why
has_store image store count Limit device memory opens why = opens.room why
has_store image store count NoMemory device memory opens why = memory refl

pub has_file : (image : Image) (file : ℕ) (frames : List (List Record)) (e : OpenFault) → e ≢ Device → e ≢ NoMemory → HasFrames (image file) frames → WhyNoFile image file e → ⊥
has_file image file frames Device device memory has why = device refl
has_file image file frames (Damaged None f at) device memory has why = why.1.1 frames has
has_file image file frames (Damaged (Some i) f at) device memory has why = why
has_file image file frames Shape device memory has why = why
has_file image file frames (Ahead i n wanted held) device memory has why = why
has_file image file frames Limit device memory has why = why
has_file image file frames NoMemory device memory has why = memory refl

module _ (s : Setup) (image : Image) (m : Option Checkpoint) (e : OpenFault) (device : e ≢ Device) (memory : e ≢ NoMemory) where
  pub has_stores : IsMarked s image m → StoresOpen image m (length s.stores) → StoresRefused s image e → ⊥
  has_stores marked stores why =
      let i = why.why.store in
      let same : why.mark ≡ m = marked_one s image why.mark m why.marked marked in
      has_store image i (count_at m i) e device memory (stores i why.why.within)
      (subst (λ (k : Option Checkpoint). WhyNoStore image i (count_at k i) e) same why.why.why)

  has_outputs : OutputsHold image (length s.outputs) → OutputsRefused s image e → ⊥
  has_outputs outputs why =
      let j = why.why.output in
      let log = outputs j why.why.within in
      has_file image (output_file j) log.0 e device memory log.1 why.why.why

  -- files that hold have no cause not to restore
  pub not_refused : FilesHold s image m → WhyRefused s image e → ⊥
  not_refused hold (inl why) = has_mark s image m hold.restores.marked e device memory why
  not_refused hold (inr (inl why)) = has_stores hold.restores.marked hold.stores why
  not_refused hold (inr (inr why)) = has_outputs (outputs_of s image m hold.contents hold.restores) why

pub has_input : (told : Type 0) (bytes : List ℕ) (partition : ℕ) (records : List Record) (e : OpenFault) → told → e ≢ Device → e ≢ NoMemory → HasLog bytes records → WhyNoInput told bytes partition e → ⊥
has_input told bytes partition records Device tells device memory has why = device refl
has_input told bytes partition records (Damaged i file at) tells device memory has why = (why.2 tells).1 has.frames has.has
has_input told bytes partition records Shape tells device memory has why = why
has_input told bytes partition records (Ahead i n wanted held) tells device memory has why = why
has_input told bytes partition records Limit tells device memory has why = why
has_input told bytes partition records NoMemory tells device memory has why = memory refl

not_past : (tells told : Type 0) (s : Setup) (image : Image) (bytes : List ℕ) (e : OpenFault) → tells → told → Opens s image bytes → IsPastEnd tells told s image bytes e → ⊥
not_past tells told s image bytes e is_told input_told opens past =
    let p = partition_of opens.messages in
    let marks : past.mark ≡ opens.mark = marked_one s image past.mark opens.mark (past.hold is_told).restores.marked opens.hold.restores.marked in
    let records : past.records ≡ opens.messages = log_unique bytes past.records opens.messages (past.read input_told) opens.has_messages in
    let kept : next_at opens.mark 0 ≡ Some past.next = ap (λ (m : Option Checkpoint). next_at m 0) (sym marks) ∙ past.kept in
    let begins : start_of (next_at opens.mark 0) (input_of s) p ≡ past.next =
    ap (λ o. start_of o (input_of s) p) kept ∙ start_in past.next (input_of s) opens.messages ∙ ap (λ b. if b then fallback_start (input_of s).fallback p else past.next) past.honoured in
    absurd (omega (arith, opens.within, begins, past.past, ap length records))

-- a task that can be opened has no cause not to be
pub not_kept_shut : (tells told : Type 0) (s : Setup) (image : Image) (bytes : List ℕ) (e : OpenFault) → tells → told → e ≢ Device → e ≢ NoMemory → Opens s image bytes
    → WhyNotOpened tells told s image bytes e → ⊥
not_kept_shut tells told s image bytes e is_told input_told device memory opens (inl why) = not_refused s image opens.mark e device memory opens.hold (why is_told)
not_kept_shut tells told s image bytes e is_told input_told device memory opens (inr (inl why)) = has_input told bytes (input_of s).ssp.partition opens.messages e input_told device memory opens.has_messages why.why
not_kept_shut tells told s image bytes e is_told input_told device memory opens (inr (inr why)) = not_past tells told s image bytes e is_told input_told opens why
