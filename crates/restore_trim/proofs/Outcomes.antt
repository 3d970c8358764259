-- What the files of a task that was opened restore to, before, now, and at a crash.
use Rattle.std.proofs.Common.{ℕ, ◌≡◌, ◌<◌, ◌≤◌, ◌+◌, ◌⊎◌, inl, inr, List, ◌++◌, length, take, get_or, Option, refl, sym, ◌∙◌, ap, subst, arith, length-append}
use Rattle.std.proofs.lemmas.Bool.{cases_eq}
use Rattle.std.proofs.lemmas.List.{take-append-le}
use Rattle.samza_model.specs.declared.messages.Record.{Record}
use Rattle.samza_model.specs.declared.checkpoints.Checkpoint.{Checkpoint}
use Rattle.samza_model.specs.declared.setups.Setup.{Setup}
use Rattle.samza_model.specs.Content.{Content, foldrec, store_at}
use Rattle.samza_model.specs.Files.{Image, checkpoint_file, changelog_file, output_file}
use Rattle.samza_model.specs.Logs.{joined, HasFrames, HasLog, HasNoLog}
use Rattle.samza_model.specs.Restored.{count_at, store_file, HasMark, HoldsContent, IsMarked, Restores}
use Rattle.disk_model.specs.Images.{LeavesOnly}
use Rattle.disk_model.proofs.Laws.{followed, followed_from, weaker}
use Rattle.topic_log.specs.declared.logs.Log.{Log}
use Rattle.topic_log.specs.Opened.{KeepsFrames}
use Rattle.topic_log.proofs.Laws.{frames_unique, joined-append}
use Rattle.restore_trim.specs.Crashes.{IsNoChangelog, KeepsOutputs, OpeningLeaves, TailsGrow, TakesBack, RevertsFiles}
use Rattle.restore_trim.specs.Refused.{OutputsHold}
use Rattle.restore_trim.specs.Standing.{HoldsMark, IsRestored, OthersStay}
use Rattle.restore_trim.proofs.Exact.{mark_one}
use Rattle.restore_trim.proofs.Others.{lies_outside, place_of}
use Rattle.restore_trim.proofs.Tails.{has_frames, same_has}

-- the records of frames are those of the log
pub log_of : (bytes : List ℕ) (frames : List (List Record)) → HasFrames bytes frames → HasLog bytes (joined frames)
log_of bytes frames has = record { frames = frames; has = has; records_are = refl }

-- the first records are the same with more frames behind them
pub first_stay : (count : ℕ) (had more : List (List Record)) → count ≤ length (joined had) → take count (joined (had ++ more)) ≡ take count (joined had)
first_stay count had more enough = ap (λ (l : List Record). take count l) (joined-append had more) ∙ take-append-le count (joined had) (joined more) enough

-- a changelog with these frames and more makes the content at the count
pub holds_more : (bytes : List ℕ) (count : ℕ) (content : Content) (had more : List (List Record)) → count ≤ length (joined had) → content ≡ foldrec (take count (joined had))
    → HasFrames bytes (had ++ more) → HoldsContent bytes count content
holds_more bytes count content had more enough is has = record {
  changes = joined (had ++ more);
  has = log_of bytes (had ++ more) has;
  enough = omega (arith, enough, ap length (joined-append had more), length-append (joined had) (joined more));
  content_is = is ∙ ap foldrec (sym (first_stay count had more enough));
}

module _ (s : Setup) (before reads : Image) (images : Image → Type 0) (mark : Option Checkpoint) (marks : Log) (changelogs outputs : List Log) (stores : List Content)
    (r : IsRestored s before reads images mark marks changelogs outputs stores) where
  -- the files as they were
  pub restored_before : Restores s before mark stores
  restored_before = record {
    marked = record { frames = r.mark_is.frames; has = r.mark_is.had; mark_is = r.mark_is.mark_is };
    as_many = r.stores_are.stores_are;
    each_store = λ i lt.
        let h = r.stores_are.each i marks lt in
        record { changes = joined h.frames; has = log_of (before (changelog_file i)) h.frames h.had; enough = h.enough; content_is = h.content_is };
    each_output = λ j lt.
        let h = r.outputs_are.each j marks lt in
        (joined h.frames, log_of (before (output_file j)) h.frames h.had);
  }

  -- each image now
  pub restored_now : (c : Image) → images c → Restores s c mark stores
  restored_now c now = record {
    marked = record { frames = r.mark_is.frames; has = has_frames reads images checkpoint_file marks r.mark_is.frames r.mark_is.is_open c now; mark_is = r.mark_is.mark_is };
    as_many = r.stores_are.stores_are;
    each_store = λ i lt.
        let h = r.stores_are.each i marks lt in
        holds_more (c (changelog_file i)) (count_at mark i) (store_at stores i) h.frames h.reverts h.enough h.content_is
        (has_frames reads images (changelog_file i) (get_or changelogs i marks) (h.frames ++ h.reverts) h.is_open c now);
    each_output = λ j lt.
        let h = r.outputs_are.each j marks lt in
        (joined h.frames, log_of (c (output_file j)) h.frames (has_frames reads images (output_file j) (get_or outputs j marks) h.frames h.is_open c now));
  }

-- where the files restore, each output's file is a log
pub outputs_of : (s : Setup) (image : Image) (mark : Option Checkpoint) (contents : List Content) → Restores s image mark contents → OutputsHold image (length s.outputs)
outputs_of s image mark contents r j lt = let log = r.each_output j lt in (log.1.frames, log.1.has)

-- a changelog that grew makes the same content at the count
holds_still : (s : Setup) (mark : Option Checkpoint) (i : ℕ) (content : Content) (a b : Image) → TailsGrow s a b → IsMarked s a mark → i < length s.stores
    → HoldsContent (a (store_file mark i)) (count_at mark i) content → HoldsContent (b (store_file mark i)) (count_at mark i) content
holds_still s mark i content a b step marked lt h =
    let file = store_file mark i in
    let count = count_at mark i in
    let enough : count ≤ length (joined h.has.frames) = omega (arith, h.enough, ap length h.has.records_are) in
    let is : content ≡ foldrec (take count (joined h.has.frames)) = h.content_is ∙ ap (λ (l : List Record). foldrec (take count l)) h.has.records_are in
    elim (step.grown mark i h.has.frames marked lt h.has.has) [
      | inl now ↦ record { changes = joined h.has.frames; has = log_of (b file) h.has.frames now; enough = enough; content_is = is }
      | inr more ↦ holds_more (b file) count content h.has.frames more.reverts enough is more.has
    ]

-- the checkpoint file and the outputs are no changelogs
no_changelog_first : (s : Setup) (image : Image) → IsNoChangelog s image checkpoint_file
no_changelog_first s image mark i im lt e = absurd (omega (arith, e))

no_changelog_behind : (s : Setup) (image : Image) (j : ℕ) → length s.stores ≤ 15 → IsNoChangelog s image (output_file j)
no_changelog_behind s image j few mark i im lt e = absurd (omega (arith, e, few, lt))

sends_stay : (s : Setup) (j : ℕ) (had : List Record) (a b : Image) → length s.stores ≤ 15 → TailsGrow s a b → HasLog (a (output_file j)) had → HasLog (b (output_file j)) had
sends_stay s j had a b few step log =
    record { frames = log.frames; has = step.kept (output_file j) log.frames (no_changelog_behind s a j few) log.has; records_are = log.records_are }

-- the files restore as they did
opening_leaves : (s : Setup) (a b : Image) → length s.stores ≤ 15 → TailsGrow s a b → OthersStay (length s.stores) (length s.outputs) a b → OpeningLeaves s a b
opening_leaves s a b few step others = record {
  restores = λ mark contents r. record {
    marked = record { frames = r.marked.frames; has = step.kept checkpoint_file r.marked.frames (no_changelog_first s a) r.marked.has; mark_is = r.marked.mark_is };
    as_many = r.as_many;
    each_store = λ i lt. holds_still s mark i (store_at contents i) a b step r.marked lt (r.each_store i lt);
    each_output = λ j lt. let log = r.each_output j lt in (log.0, sends_stay s j log.0 a b few step log.1);
  };
  files = step;
  sends = λ j had lt log. sends_stay s j had a b few step log;
  others = others;
}

-- the checkpoint file is opened
module _ (a b : Image) (k : KeepsFrames checkpoint_file a b) where
  kept_on : (f : ℕ) (frames : List (List Record)) → HasFrames (a f) frames → HasFrames (b f) frames
  kept_on f frames has = elim (cases_eq f checkpoint_file) [
    | inl e ↦ subst (λ (n : ℕ). HasFrames (b n) frames) (sym e) (k.here frames (subst (λ (n : ℕ). HasFrames (a n) frames) e has))
    | inr ne ↦ same_has f frames a b (k.elsewhere f ne) has
  ]

  lost_on : (f : ℕ) → HasNoLog (a f) → b f ≡ a f
  lost_on f none = elim (cases_eq f checkpoint_file) [
    | inl e ↦
        let here : b checkpoint_file ≡ a checkpoint_file = k.lost (subst (λ (n : ℕ). HasNoLog (a n)) e none) in
        ap b e ∙ here ∙ ap a (sym e)
    | inr ne ↦ k.elsewhere f ne
  ]

  pub marks_leave : (s : Setup) → length s.stores ≤ 15 → OpeningLeaves s a b
  marks_leave s few = opening_leaves s a b few
      (record { kept = λ f frames none has. kept_on f frames has; grown = λ mark i frames im lt has. inl (kept_on (store_file mark i) frames has); lost = lost_on })
      (λ f other. k.elsewhere f other.no_mark)

  -- and ends with this checkpoint; then the stores are opened
  module _ (s : Setup) (few : length s.stores ≤ 15) (frames : List (List Record)) (has : HasFrames (b checkpoint_file) frames) (m : Option Checkpoint) (ends : HasMark s frames m) where
    frames_were : (before : List (List Record)) → HasFrames (a checkpoint_file) before → before ≡ frames
    frames_were before had = frames_unique (b checkpoint_file) before frames (k.here before had) has

    mark_was : (mark : Option Checkpoint) → IsMarked s a mark → mark ≡ m
    mark_was mark im = mark_one s frames mark m (subst (λ (fs : List (List Record)). HasMark s fs mark) (frames_were im.frames im.has) im.mark_is) ends

    -- the image before had no other checkpoint
    was_marked : (IsMarked s a m → ⊥) → ⊥
    was_marked other =
        let none : HasNoLog (a checkpoint_file) =
        λ before had. other (record { frames = before; has = had; mark_is = subst (λ (fs : List (List Record)). HasMark s fs m) (sym (frames_were before had)) ends }) in
        none frames (subst (λ (bytes : List ℕ). HasFrames bytes frames) (k.lost none) has)

    module _ (c : Image) (t : RevertsFiles m (length s.stores) b c) where
      outside_kept : (f : ℕ) (fs : List (List Record)) → (f < changelog_file 0) ⊎ (changelog_file 0 + length s.stores ≤ f) → HasFrames (a f) fs → HasFrames (c f) fs
      outside_kept f fs out had = same_has f fs b c (t.elsewhere f out) (kept_on f fs had)

      stores_lost : (f : ℕ) → HasNoLog (b f) → c f ≡ b f
      stores_lost f none = elim (place_of (changelog_file 0) (length s.stores) f) [
        | inl here ↦ ap c here.2 ∙ (t.each here.0 here.1).lost (subst (λ (n : ℕ). HasNoLog (b n)) here.2 none) ∙ ap b (sym here.2)
        | inr out ↦ t.elsewhere f out
      ]

      pub stores_leave : OpeningLeaves s a c
      stores_leave = opening_leaves s a c few
          (record {
            kept = λ f fs none had. elim (place_of (changelog_file 0) (length s.stores) f) [
              | inl here ↦ absurd (was_marked (λ im. none m here.0 im here.1 here.2))
              | inr out ↦ outside_kept f fs out had
            ];
            grown = λ mark i fs im lt had.
                let Left : Option Checkpoint → Type 0 = λ x. HasFrames (c (changelog_file i)) fs ⊎ TakesBack (count_at x i) fs (c (changelog_file i)) in
                let left : Left m = (t.each i lt).here fs (kept_on (changelog_file i) fs had) in
                subst Left (sym (mark_was mark im)) left;
            lost = λ f none.
                let same : b f ≡ a f = lost_on f none in
                stores_lost f (subst (λ (bytes : List ℕ). HasNoLog bytes) (sym same) none) ∙ same;
          })
          (λ f other. t.elsewhere f (lies_outside (changelog_file 0) (length s.stores) f other.no_changelog) ∙ k.elsewhere f other.no_mark)

-- then the outputs are opened
module _ (s : Setup) (few : length s.stores ≤ 15) (a b c : Image) (o : OpeningLeaves s a b) (t : KeepsOutputs (length s.outputs) b c) where
  outputs_kept : (f : ℕ) (fs : List (List Record)) → HasFrames (b f) fs → HasFrames (c f) fs
  outputs_kept f fs had = elim (place_of (output_file 0) (length s.outputs) f) [
    | inl here ↦ subst (λ (n : ℕ). HasFrames (c n) fs) (sym here.2) ((t.each here.0 here.1).here fs (subst (λ (n : ℕ). HasFrames (b n) fs) here.2 had))
    | inr out ↦ same_has f fs b c (t.elsewhere f out) had
  ]

  outputs_lost : (f : ℕ) → HasNoLog (b f) → c f ≡ b f
  outputs_lost f none = elim (place_of (output_file 0) (length s.outputs) f) [
    | inl here ↦ ap c here.2 ∙ (t.each here.0 here.1).lost (subst (λ (n : ℕ). HasNoLog (b n)) here.2 none) ∙ ap b (sym here.2)
    | inr out ↦ t.elsewhere f out
  ]

  pub outputs_leave : OpeningLeaves s a c
  outputs_leave = opening_leaves s a c few
      (record {
        kept = λ f fs none had. outputs_kept f fs (o.files.kept f fs none had);
        grown = λ mark i fs im lt had. elim (o.files.grown mark i fs im lt had) [
          | inl now ↦ inl (outputs_kept (store_file mark i) fs now)
          | inr more ↦ inr (record { reverts = more.reverts; cut = more.cut; has = outputs_kept (store_file mark i) (fs ++ more.reverts) more.has })
        ];
        lost = λ f none.
            let same : b f ≡ a f = o.files.lost f none in
            outputs_lost f (subst (λ (bytes : List ℕ). HasNoLog bytes) (sym same) none) ∙ same;
      })
      (λ f other. t.elsewhere f (lies_outside (output_file 0) (length s.outputs) f other.no_output) ∙ o.others f other)

-- a crash while the task is opened
module _ {D : Type 0} (reads : D → Image) (number : D → ℕ) (images : D → Image → Type 0) (since : D → ℕ → Image → Type 0) (s : Setup) (few : length s.stores ≤ 15) where
  pub marks_left : (old new : D) → LeavesOnly number images since old new (KeepsFrames checkpoint_file) → LeavesOnly number images since old new (OpeningLeaves s)
  marks_left old new run = weaker number images since old new (KeepsFrames checkpoint_file) (OpeningLeaves s) run (λ a b now k. marks_leave a b k s few)

  pub marks_stores_left : (old mid new : D) (before : Image) (log : Log) (m : Option Checkpoint) → ((k : ℕ) (c : Image) → k ≤ number mid → images mid c → since mid k c)
      → HoldsMark s before (reads mid) (images mid) log m
      → LeavesOnly number images since old mid (KeepsFrames checkpoint_file) → LeavesOnly number images since mid new (RevertsFiles m (length s.stores)) → LeavesOnly number images since old new (OpeningLeaves s)
  marks_stores_left old mid new before log m counts h one two =
      followed_from number images since old mid new (KeepsFrames checkpoint_file) (RevertsFiles m (length s.stores)) (OpeningLeaves s) counts one two
      (λ a b c was now k t. stores_leave a b k s few h.frames (has_frames (reads mid) (images mid) checkpoint_file log h.frames h.is_open b now) m h.mark_is c t)
      (λ a b was k. marks_leave a b k s few)

  pub outputs_left : (old mid new : D) → ((k : ℕ) (c : Image) → k ≤ number mid → images mid c → since mid k c)
      → LeavesOnly number images since old mid (OpeningLeaves s) → LeavesOnly number images since mid new (KeepsOutputs (length s.outputs)) → LeavesOnly number images since old new (OpeningLeaves s)
  outputs_left old mid new counts one two =
      followed number images since old mid new (OpeningLeaves s) (KeepsOutputs (length s.outputs)) (OpeningLeaves s) counts one two (outputs_leave s few) (λ a b o. o)
