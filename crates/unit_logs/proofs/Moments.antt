-- What a crash leaves of logs that are appended to one after another.
use Rattle.std.proofs.Common.{ℕ, ◌≡◌, ◌≤◌, ◌<◌, ◌+◌, ◌⊎◌, inl, inr, List, [], ◌∷◌, ◌++◌, length, get_or, refl, sym, ◌∙◌, subst, arith}
use Rattle.std.proofs.lemmas.Bool.{cases_eq}
use Rattle.samza_model.specs.declared.messages.Record.{Record}
use Rattle.samza_model.specs.Files.{Image, checkpoint_file, changelog_file, output_file}
use Rattle.samza_model.specs.Logs.{HasFrames}
use Rattle.disk_model.specs.Images.{LeavesOnly}
use Rattle.disk_model.proofs.Laws.{started, followed, followed_from, weaker}
use Rattle.log_frame.specs.Frame.{FrameView, AreFrames}
use Rattle.topic_log.specs.declared.logs.Log.{Log}
use Rattle.topic_log.specs.Opened.{file_of, IsOpen, Appends}
use Rattle.unit_logs.specs.Appending.{AreOpen, AreAppended, IsOutside}
use Rattle.unit_logs.specs.Crashes.{HaveFrames, AreFramesOf, AppendsEach, TaskFrames, PlanRecords, StandWith, WriteLeaves}
use Rattle.restore_trim.specs.Standing.{IsOpenAt}
use Rattle.unit_logs.specs.declared.writing.Logs.{Logs}
use Rattle.unit_logs.proofs.Appended.{AppendedSoFar, open_at}
use Rattle.restore_trim.proofs.Shared.{lies_outside, same_has, has_frames}
use Rattle.unit_logs.proofs.Kept.{below_stays, output_stays, mark_stays}

-- some item of a list that has one
item : {A : Type 0} (xs : List A) → 0 < length xs → A
item [] lt = absurd (omega arith)
item (x ∷ xs) lt = x

-- each image has the frames of the i-th of logs that are open
pub have_frames : (reads : Image) (images : Image → Type 0) (first : ℕ) (logs : List Log) (had : ℕ → List (List Record)) → HaveFrames reads images first logs had
    → (i : ℕ) → i < length logs → (c : Image) → images c → HasFrames (c (first + i)) (had i)
have_frames reads images first logs had open' i lt c now =
    let d = item logs (omega (arith, lt)) in
    has_frames reads images (first + i) (get_or logs i d) (had i) (open' i d lt) c now

-- one log more is appended to
appends_more : (first n i : ℕ) (had more : ℕ → List (List Record)) (a b c : Image) → i < n
    → AppendsEach first n had more a b → Appends (first + i) (had i) (more i) b c → AppendsEach first n had more a c
appends_more first n i had more a b c within p q = record {
  each = λ k lt. elim (cases_eq k i) [
    | inl e ↦ subst (λ (m : ℕ). HasFrames (c (first + m)) (had m) ⊎ HasFrames (c (first + m)) (had m ++ more m)) (sym e) q.here
    | inr ne ↦
        let same : c (first + k) ≡ b (first + k) = q.elsewhere (first + k) (λ e. ne (omega (arith, e))) in
        elim (p.each k lt) [
          | inl has ↦ inl (same_has (first + k) (had k) b c same has)
          | inr has ↦ inr (same_has (first + k) (had k ++ more k) b c same has)
        ]
  ];
  elsewhere = λ f out.
      q.elsewhere f (λ e. elim out [ inl low ↦ absurd (omega (arith, low, e)) | inr high ↦ absurd (omega (arith, high, e, within)) ])
      ∙ p.elsewhere f out;
}

module _ {D : Type 0} (tells : Type 0) (reads : D → Image) (number : D → ℕ) (images : D → Image → Type 0) (since : D → ℕ → Image → Type 0) where
  -- at each moment so far a crash leaves of each log the frames that it had, or all of the new ones behind them
  pub record LeftSoFar (old cur : D) (logs : List Log) (frames : List (List FrameView)) : Type 0 where
    pub left : tells → (first : ℕ) (had more : ℕ → List (List Record)) → HaveFrames (reads old) (images old) first logs had → AreFramesOf (length logs) frames more
        → LeavesOnly number images since old cur (AppendsEach first (length logs) had more)

  pub none_left : (old : D) (logs : List Log) (frames : List (List FrameView)) → (tells → (c : Image) → since old (number old) c → images old c) → LeftSoFar old old logs frames
  none_left old logs frames only = record {
    left = λ told first had more opens are.
        started number images since old (AppendsEach first (length logs) had more) (only told)
        (λ c now. (c, now, record { each = λ i lt. inl (have_frames (reads old) (images old) first logs had opens i lt c now); elsewhere = λ f out. refl }));
  }

  pub left_step : (old mid new : D) (logs₀ logs : List Log) (frames : List (List FrameView)) (i : ℕ) (log : Log)
      (h : AppendedSoFar tells reads images old mid logs₀ logs frames i) (lt : i < length logs) (here : (d : Log) → get_or logs i d ≡ log)
      → LeftSoFar old mid logs₀ frames
      → (tells → (k : ℕ) (c : Image) → k ≤ number mid → images mid c → since mid k c)
      → (tells → (before lists : List (List Record)) → IsOpen (reads mid) (images mid) log before → AreFrames (get_or frames i []) lists → LeavesOnly number images since mid new (Appends (file_of log) before lists))
      → LeftSoFar old new logs₀ frames
  left_step old mid new logs₀ logs frames i log h lt here run counts moment = record {
    left = λ told first had more opens are.
        let within : i < length logs₀ = subst (λ n. i < n) h.as_many lt in
        let all : AreOpen (reads old) (images old) first logs₀ = λ k d l. (had k, opens k d l) in
        let at : IsOpenAt (reads mid) (images mid) (first + i) log (had i) =
        open_at tells reads images old mid logs₀ logs frames i log h lt here told first all log (had i) (opens i log within) in
        let two : LeavesOnly number images since mid new (Appends (first + i) (had i) (more i)) =
        subst (λ (f : ℕ). LeavesOnly number images since mid new (Appends f (had i) (more i))) at.file_is (moment told (had i) (more i) at.is_open (are i within)) in
        followed number images since old mid new (AppendsEach first (length logs₀) had more) (Appends (first + i) (had i) (more i)) (AppendsEach first (length logs₀) had more)
        (counts told) (run.left told first had more opens are) two
        (λ a b c p q. appends_more first (length logs₀) i had more a b c within p q) (λ a b p. p);
  }

-- the outputs, then the changelogs, then the checkpoint file are appended to
module _ {D : Type 0} (reads : D → Image) (number : D → ℕ) (images : D → Image → Type 0) (since : D → ℕ → Image → Type 0) (d0 d1 d2 d3 : D)
    (logs : Logs) (sends changes : List (List FrameView)) (had : TaskFrames) (more : PlanRecords) (few : length logs.changelogs.items ≤ 15)
    (stand : StandWith (reads d0) (images d0) logs had)
    (are_sends : AreFramesOf (length logs.outputs.items) sends more.sends)
    (are_changes : AreFramesOf (length logs.changelogs.items) changes more.changes) where
  pub outputs_left : LeavesOnly number images since d0 d1 (AppendsEach (output_file 0) (length logs.outputs.items) had.outputs more.sends)
      → LeavesOnly number images since d0 d1 (WriteLeaves (length logs.changelogs.items) (length logs.outputs.items) had more)
  outputs_left run =
      let n = length logs.changelogs.items in
      let m = length logs.outputs.items in
      weaker number images since d0 d1 (AppendsEach (output_file 0) m had.outputs more.sends) (WriteLeaves n m had more) run
      (λ a b now step. (
        (λ f other. step.elsewhere f (lies_outside (output_file 0) m f other.no_output)),
        inl (record {
          mark = same_has checkpoint_file had.marks a b (step.elsewhere checkpoint_file (inl (omega arith))) (has_frames (reads d0) (images d0) checkpoint_file logs.marks had.marks stand.marks a now);
          changes = λ i lt. inl (same_has (changelog_file i) (had.changelogs i) a b (step.elsewhere (changelog_file i) (inl (omega (arith, few, lt))))
              (have_frames (reads d0) (images d0) (changelog_file 0) logs.changelogs.items had.changelogs stand.changelogs i lt a now));
          sends = step.each;
        }),
      ))

  opens : AreOpen (reads d0) (images d0) (output_file 0) logs.outputs.items
  opens j d lt = (had.outputs j, stand.outputs j d lt)

  module _ (outputs : List Log)
      (others : (first : ℕ) (log : Log) (fs : List (List Record)) → AreOpen (reads d0) (images d0) first logs.outputs.items → IsOutside first (length logs.outputs.items) log
      → IsOpen (reads d0) (images d0) log fs → IsOpen (reads d1) (images d1) log fs)
      (appended : (first : ℕ) → AreOpen (reads d0) (images d0) first logs.outputs.items → AreAppended (reads d0) (images d0) (reads d1) (images d1) first logs.outputs.items outputs sends)
      (counts : (k : ℕ) (c : Image) → k ≤ number d1 → images d1 c → since d1 k c) where
    marks_at : IsOpenAt (reads d1) (images d1) checkpoint_file logs.marks had.marks
    marks_at = below_stays (reads d0) (reads d1) (images d0) (images d1) logs.outputs.items opens others checkpoint_file logs.marks had.marks (omega arith) stand.marks

    pub changelogs_at : HaveFrames (reads d1) (images d1) (changelog_file 0) logs.changelogs.items had.changelogs
    changelogs_at i d lt =
        below_stays (reads d0) (reads d1) (images d0) (images d1) logs.outputs.items opens others (changelog_file 0 + i) (get_or logs.changelogs.items i d) (had.changelogs i) (omega (arith, lt, few)) (stand.changelogs i d lt)

    output_at : (j : ℕ) → j < length logs.outputs.items → IsOpenAt (reads d1) (images d1) (output_file 0 + j) (get_or outputs j logs.marks) (had.outputs j ++ more.sends j)
    output_at j lt = appended (output_file 0) opens j logs.marks (had.outputs j) (more.sends j) lt (stand.outputs j logs.marks lt) (are_sends j lt)

    pub changelogs_left : LeavesOnly number images since d0 d1 (WriteLeaves (length logs.changelogs.items) (length logs.outputs.items) had more)
        → LeavesOnly number images since d1 d2 (AppendsEach (changelog_file 0) (length logs.changelogs.items) had.changelogs more.changes)
        → LeavesOnly number images since d0 d2 (WriteLeaves (length logs.changelogs.items) (length logs.outputs.items) had more)
    changelogs_left one two =
        let n = length logs.changelogs.items in
        let m = length logs.outputs.items in
        followed_from number images since d0 d1 d2 (WriteLeaves n m had more) (AppendsEach (changelog_file 0) n had.changelogs more.changes) (WriteLeaves n m had more) counts one two
        (λ a b c now mid p q. (
          (λ f other. q.elsewhere f (lies_outside (changelog_file 0) n f other.no_changelog) ∙ p.0 f other),
          inl (record {
            mark = same_has checkpoint_file had.marks b c (q.elsewhere checkpoint_file (inl (omega arith))) (has_frames (reads d1) (images d1) checkpoint_file logs.marks had.marks marks_at b mid);
            changes = q.each;
            sends = λ j lt. inr (same_has (output_file j) (had.outputs j ++ more.sends j) b c (q.elsewhere (output_file j) (inr (omega (arith, few))))
                (has_frames (reads d1) (images d1) (output_file 0 + j) (get_or outputs j logs.marks) (had.outputs j ++ more.sends j) (output_at j lt) b mid));
          }),
        ))
        (λ a b now p. p)

    module _ (changelogs : List Log)
        (others' : (first : ℕ) (log : Log) (fs : List (List Record)) → AreOpen (reads d1) (images d1) first logs.changelogs.items → IsOutside first (length logs.changelogs.items) log
        → IsOpen (reads d1) (images d1) log fs → IsOpen (reads d2) (images d2) log fs)
        (appended' : (first : ℕ) → AreOpen (reads d1) (images d1) first logs.changelogs.items → AreAppended (reads d1) (images d1) (reads d2) (images d2) first logs.changelogs.items changelogs changes)
        (counts' : (k : ℕ) (c : Image) → k ≤ number d2 → images d2 c → since d2 k c) where
      opens' : AreOpen (reads d1) (images d1) (changelog_file 0) logs.changelogs.items
      opens' i d lt = (had.changelogs i, changelogs_at i d lt)

      pub marks_still : IsOpenAt (reads d2) (images d2) checkpoint_file logs.marks had.marks
      marks_still = mark_stays (reads d1) (reads d2) (images d1) (images d2) logs.changelogs.items few opens' others' logs.marks had.marks marks_at

      pub mark_left : LeavesOnly number images since d0 d2 (WriteLeaves (length logs.changelogs.items) (length logs.outputs.items) had more)
          → LeavesOnly number images since d2 d3 (Appends checkpoint_file had.marks ((more.mark ∷ []) ∷ []))
          → LeavesOnly number images since d0 d3 (WriteLeaves (length logs.changelogs.items) (length logs.outputs.items) had more)
      mark_left one two =
          let n = length logs.changelogs.items in
          let m = length logs.outputs.items in
          followed_from number images since d0 d2 d3 (WriteLeaves n m had more) (Appends checkpoint_file had.marks ((more.mark ∷ []) ∷ [])) (WriteLeaves n m had more) counts' one two
          (λ a b c now mid p q.
          let all_changes : (i : ℕ) → i < n → HasFrames (c (changelog_file i)) (had.changelogs i ++ more.changes i) =
          λ i lt. same_has (changelog_file i) (had.changelogs i ++ more.changes i) b c (q.elsewhere (changelog_file i) (λ e. absurd (omega (arith, e))))
          (has_frames (reads d2) (images d2) (changelog_file 0 + i) (get_or changelogs i logs.marks) (had.changelogs i ++ more.changes i)
          (appended' (changelog_file 0) opens' i logs.marks (had.changelogs i) (more.changes i) lt (changelogs_at i logs.marks lt) (are_changes i lt)) b mid) in
          let all_sends : (j : ℕ) → j < m → HasFrames (c (output_file j)) (had.outputs j ++ more.sends j) =
          λ j lt. same_has (output_file j) (had.outputs j ++ more.sends j) b c (q.elsewhere (output_file j) (λ e. absurd (omega (arith, e))))
          (has_frames (reads d2) (images d2) (output_file 0 + j) (get_or outputs j logs.marks) (had.outputs j ++ more.sends j)
          (output_stays (reads d1) (reads d2) (images d1) (images d2) logs.changelogs.items few opens' others' j (get_or outputs j logs.marks) (had.outputs j ++ more.sends j) (output_at j lt)) b mid) in (
            (λ f other. q.elsewhere f other.no_mark ∙ p.0 f other),
            elim q.here [
              | inl same ↦ inl (record { mark = same; changes = λ i lt. inr (all_changes i lt); sends = λ j lt. inr (all_sends j lt) })
              | inr made ↦ inr (record { mark = made; changes = all_changes; sends = all_sends })
            ],
          ))
          (λ a b now p. p)
