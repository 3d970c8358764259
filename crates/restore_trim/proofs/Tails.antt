-- What a crash leaves of logs that are opened and read one after another, of which some are appended to.
use Rattle.std.proofs.Common.{ℕ, ◌≡◌, ◌≤◌, ◌+◌, ◌⊎◌, inl, inr, List, Option, refl, sym, ◌∙◌, subst, arith}
use Rattle.std.proofs.lemmas.Bool.{cases_lt}
use Rattle.samza_model.specs.declared.messages.Record.{Record}
use Rattle.samza_model.specs.declared.checkpoints.Checkpoint.{Checkpoint}
use Rattle.samza_model.specs.Files.{Image, changelog_file, output_file}
use Rattle.samza_model.specs.Limits.{frame_batch}
use Rattle.samza_model.specs.Logs.{joined, HasFrames, HasNoLog}
use Rattle.samza_model.specs.Restored.{count_at}
use Rattle.disk_model.specs.Images.{LeavesOnly}
use Rattle.disk_model.proofs.Laws.{started, followed, weaker}
use Rattle.log_frame.specs.Cuts.{IsCut}
use Rattle.changelog.specs.Folds.{reverts_of}
use Rattle.topic_log.specs.declared.logs.Log.{Log}
use Rattle.topic_log.specs.Moves.{Rests, Same}
use Rattle.topic_log.specs.Opened.{Appends, KeepsFrames}
use Rattle.topic_log.proofs.Laws.{open_log_has, frames_unique}
use Rattle.restore_trim.specs.Crashes.{KeepsLog, KeepsOutputs, TakesBack, Reverts, RevertsFile, RevertsFiles}
use Rattle.restore_trim.specs.Standing.{IsOpenAt}

-- a file that is the same has the same frames
pub same_has : (file : ℕ) (frames : List (List Record)) (old new : Image) → new file ≡ old file → HasFrames (old file) frames → HasFrames (new file) frames
same_has file frames old new same has = subst (λ (b : List ℕ). HasFrames b frames) (sym same) has

-- each image has the frames of a log that is open
pub has_frames : (reads : Image) (images : Image → Type 0) (file : ℕ) (log : Log) (frames : List (List Record)) → IsOpenAt reads images file log frames
    → (c : Image) → images c → HasFrames (c file) frames
has_frames reads images file log frames o c now = subst (λ (f : ℕ). HasFrames (c f) frames) o.file_is (open_log_has reads images log frames o.is_open c now)

-- ---- one file
same_kept : (x y : List ℕ) → y ≡ x → KeepsLog x y
same_kept x y same = record { here = λ fs has. subst (λ (b : List ℕ). HasFrames b fs) (sym same) has; lost = λ none. same }

pub log_kept : (file : ℕ) (a b : Image) → KeepsFrames file a b → KeepsLog (a file) (b file)
log_kept file a b k = record { here = k.here; lost = k.lost }

reverts_kept : (count : ℕ) (x y : List ℕ) → KeepsLog x y → Reverts count x y
reverts_kept count x y k = record { here = λ fs has. inl (k.here fs has); lost = k.lost }

kept_reverts : (count : ℕ) (x y z : List ℕ) → KeepsLog x y → Reverts count y z → Reverts count x z
kept_reverts count x y z p q = record {
  here = λ fs has. q.here fs (p.here fs has);
  lost = λ none.
      let same : y ≡ x = p.lost none in
      q.lost (subst (λ (b : List ℕ). HasNoLog b) (sym same) none) ∙ same;
}

-- ---- one store: its changelog is opened, and perhaps appended to
pub keeps_file : (file count : ℕ) (a b : Image) → KeepsFrames file a b → RevertsFile file count a b
keeps_file file count a b k = record { here = reverts_kept count (a file) (b file) (log_kept file a b k); elsewhere = k.elsewhere }

same_file : (file count : ℕ) (a : Image) → RevertsFile file count a a
same_file file count a = record { here = reverts_kept count (a file) (a file) (same_kept (a file) (a file) refl); elsewhere = λ f other. refl }

keeps_then : (file count : ℕ) (a b c : Image) → KeepsFrames file a b → RevertsFile file count b c → RevertsFile file count a c
keeps_then file count a b c k t = record {
  here = kept_reverts count (a file) (b file) (c file) (log_kept file a b k) t.here;
  elsewhere = λ f other. t.elsewhere f other ∙ k.elsewhere f other;
}

appends_file : (file count : ℕ) (had more : List (List Record)) (a b : Image) → IsCut frame_batch (reverts_of count (joined had)) more → HasFrames (a file) had
    → Appends file had more a b → RevertsFile file count a b
appends_file file count had more a b cut was step = record {
  here = record {
    here = λ frames has.
        let same : had ≡ frames = frames_unique (a file) had frames was has in
        let Left : List (List Record) → Type 0 = λ fs. HasFrames (b file) fs ⊎ TakesBack count fs (b file) in
        let here : Left had = elim step.here [
          | inl now ↦ inl now
          | inr now ↦ inr (record { reverts = more; cut = cut; has = now })
        ] in
        subst Left same here;
    lost = λ none. absurd (none had was);
  };
  elsewhere = step.elsewhere;
}

-- ---- several stores
pub no_stores : (mark : Option Checkpoint) (a : Image) → RevertsFiles mark 0 a a
no_stores mark a = record { each = λ i lt. absurd (omega arith); elsewhere = λ f out. refl }

-- the stores that weren't opened are as they were
pub all_stores : (mark : Option Checkpoint) (n m : ℕ) (a b : Image) → n ≤ m → RevertsFiles mark n a b → RevertsFiles mark m a b
all_stores mark n m a b le t = record {
  each = λ i lt. elim (cases_lt i n) [
    | inl low ↦ t.each i low
    | inr high ↦ reverts_kept (count_at mark i) (a (changelog_file i)) (b (changelog_file i)) (same_kept (a (changelog_file i)) (b (changelog_file i)) (t.elsewhere (changelog_file i) (inr (omega (arith, high)))))
  ];
  elsewhere = λ f out. elim out [
    | inl low ↦ t.elsewhere f (inl low)
    | inr high ↦ t.elsewhere f (inr (omega (arith, high, le)))
  ];
}

one_store : (mark : Option Checkpoint) (n : ℕ) (a b c : Image) → RevertsFiles mark n a b → RevertsFile (changelog_file n) (count_at mark n) b c → RevertsFiles mark (n + 1) a c
one_store mark n a b c t one = record {
  each = λ i lt. elim (cases_lt i n) [
    | inl low ↦
        let same : c (changelog_file i) ≡ b (changelog_file i) = one.elsewhere (changelog_file i) (λ e. absurd (omega (arith, e, low))) in
        subst (λ (y : List ℕ). Reverts (count_at mark i) (a (changelog_file i)) y) (sym same) (t.each i low)
    | inr high ↦
        let e : n ≡ i = omega (arith, high, lt) in
        let same : b (changelog_file n) ≡ a (changelog_file n) = t.elsewhere (changelog_file n) (inr (omega arith)) in
        subst (λ (k : ℕ). Reverts (count_at mark k) (a (changelog_file k)) (c (changelog_file k))) e
        (subst (λ (x : List ℕ). Reverts (count_at mark n) x (c (changelog_file n))) same one.here)
  ];
  elsewhere = λ f out. elim out [
    | inl low ↦ one.elsewhere f (λ e. absurd (omega (arith, e, low))) ∙ t.elsewhere f (inl low)
    | inr high ↦ one.elsewhere f (λ e. absurd (omega (arith, e, high))) ∙ t.elsewhere f (inr (omega (arith, high)))
  ];
}

-- ---- several outputs
pub no_outputs : (a : Image) → KeepsOutputs 0 a a
no_outputs a = record { each = λ j lt. absurd (omega arith); elsewhere = λ f out. refl }

pub all_outputs : (n m : ℕ) (a b : Image) → n ≤ m → KeepsOutputs n a b → KeepsOutputs m a b
all_outputs n m a b le t = record {
  each = λ j lt. elim (cases_lt j n) [
    | inl low ↦ t.each j low
    | inr high ↦ same_kept (a (output_file j)) (b (output_file j)) (t.elsewhere (output_file j) (inr (omega (arith, high))))
  ];
  elsewhere = λ f out. elim out [
    | inl low ↦ t.elsewhere f (inl low)
    | inr high ↦ t.elsewhere f (inr (omega (arith, high, le)))
  ];
}

one_output : (n : ℕ) (a b c : Image) → KeepsOutputs n a b → KeepsFrames (output_file n) b c → KeepsOutputs (n + 1) a c
one_output n a b c t one = record {
  each = λ j lt. elim (cases_lt j n) [
    | inl low ↦
        let same : c (output_file j) ≡ b (output_file j) = one.elsewhere (output_file j) (λ e. absurd (omega (arith, e, low))) in
        subst (λ (y : List ℕ). KeepsLog (a (output_file j)) y) (sym same) (t.each j low)
    | inr high ↦
        let e : n ≡ j = omega (arith, high, lt) in
        let same : b (output_file n) ≡ a (output_file n) = t.elsewhere (output_file n) (inr (omega arith)) in
        subst (λ (k : ℕ). KeepsLog (a (output_file k)) (c (output_file k))) e
        (subst (λ (x : List ℕ). KeepsLog x (c (output_file n))) same (log_kept (output_file n) b c one))
  ];
  elsewhere = λ f out. elim out [
    | inl low ↦ one.elsewhere f (λ e. absurd (omega (arith, e, low))) ∙ t.elsewhere f (inl low)
    | inr high ↦ one.elsewhere f (λ e. absurd (omega (arith, e, high))) ∙ t.elsewhere f (inr (omega (arith, high)))
  ];
}

-- ---- the disk
module _ {D : Type 0} (reads : D → Image) (number : D → ℕ) (images : D → Image → Type 0) (since : D → ℕ → Image → Type 0) where
  -- a log that was opened is read
  pub keeps_read : (old mid new : D) (file : ℕ) → ((k : ℕ) (c : Image) → k ≤ number mid → images mid c → since mid k c) → LeavesOnly number images since old mid (KeepsFrames file) → Rests reads number images since mid new
      → LeavesOnly number images since old new (KeepsFrames file)
  keeps_read old mid new file counts one two =
      followed number images since old mid new (KeepsFrames file) Same (KeepsFrames file) counts one two.moves.moment
      (λ a b c p same. subst (λ (d : Image). KeepsFrames file a d) (sym same) p) (λ a b p. p)

  -- a changelog is opened
  pub reverts_open : (old new : D) (file count : ℕ) → LeavesOnly number images since old new (KeepsFrames file) → LeavesOnly number images since old new (RevertsFile file count)
  reverts_open old new file count run = weaker number images since old new (KeepsFrames file) (RevertsFile file count) run (λ a b now k. keeps_file file count a b k)

  -- and then more is done to it
  pub reverts_opened : (old mid new : D) (file count : ℕ) → ((k : ℕ) (c : Image) → k ≤ number mid → images mid c → since mid k c)
      → LeavesOnly number images since old mid (KeepsFrames file) → LeavesOnly number images since mid new (RevertsFile file count) → LeavesOnly number images since old new (RevertsFile file count)
  reverts_opened old mid new file count counts one two =
      followed number images since old mid new (KeepsFrames file) (RevertsFile file count) (RevertsFile file count) counts one two (keeps_then file count) (keeps_file file count)

  -- it is read
  pub reverts_read : (old new : D) (file count : ℕ) → Rests reads number images since old new → LeavesOnly number images since old new (RevertsFile file count)
  reverts_read old new file count run =
      weaker number images since old new Same (RevertsFile file count) run.moves.moment (λ a b now same. subst (λ (c : Image). RevertsFile file count a c) (sym same) (same_file file count a))

  -- it is read, and then appended to
  pub reverts_append : (old mid new : D) (file count : ℕ) (log : Log) (had more : List (List Record)) → ((k : ℕ) (c : Image) → k ≤ number mid → images mid c → since mid k c)
      → IsCut frame_batch (reverts_of count (joined had)) more → IsOpenAt (reads mid) (images mid) file log had
      → Rests reads number images since old mid → LeavesOnly number images since mid new (Appends file had more) → LeavesOnly number images since old new (RevertsFile file count)
  reverts_append old mid new file count log had more counts cut o read run =
      followed number images since old mid new Same (RevertsFile file count) (RevertsFile file count) counts read.moves.moment
      (weaker number images since mid new (Appends file had more) (RevertsFile file count) run
      (λ a b now step. appends_file file count had more a b cut (has_frames (reads mid) (images mid) file log had o a now) step))
      (λ a b c same t. subst (λ (d : Image). RevertsFile file count d c) same t)
      (λ a b same. subst (λ (d : Image). RevertsFile file count a d) (sym same) (same_file file count a))

  -- the stores so far, and one more
  pub stores_left : (old : D) (mark : Option Checkpoint) → ((c : Image) → since old (number old) c → images old c) → LeavesOnly number images since old old (RevertsFiles mark 0)
  stores_left old mark only = started number images since old (RevertsFiles mark 0) only (λ c now. (c, now, no_stores mark c))

  pub stores_then : (old mid new : D) (mark : Option Checkpoint) (n : ℕ) → ((k : ℕ) (c : Image) → k ≤ number mid → images mid c → since mid k c)
      → LeavesOnly number images since old mid (RevertsFiles mark n) → LeavesOnly number images since mid new (RevertsFile (changelog_file n) (count_at mark n))
      → LeavesOnly number images since old new (RevertsFiles mark (n + 1))
  stores_then old mid new mark n counts one two =
      followed number images since old mid new (RevertsFiles mark n) (RevertsFile (changelog_file n) (count_at mark n)) (RevertsFiles mark (n + 1)) counts one two
      (one_store mark n) (λ a b t. all_stores mark n (n + 1) a b (omega arith) t)

  pub stores_done : (old new : D) (mark : Option Checkpoint) (n m : ℕ) → n ≤ m → LeavesOnly number images since old new (RevertsFiles mark n) → LeavesOnly number images since old new (RevertsFiles mark m)
  stores_done old new mark n m le run = weaker number images since old new (RevertsFiles mark n) (RevertsFiles mark m) run (λ a b now t. all_stores mark n m a b le t)

  -- the outputs so far, and one more
  pub outputs_left : (old : D) → ((c : Image) → since old (number old) c → images old c) → LeavesOnly number images since old old (KeepsOutputs 0)
  outputs_left old only = started number images since old (KeepsOutputs 0) only (λ c now. (c, now, no_outputs c))

  pub outputs_then : (old mid new : D) (n : ℕ) → ((k : ℕ) (c : Image) → k ≤ number mid → images mid c → since mid k c)
      → LeavesOnly number images since old mid (KeepsOutputs n) → LeavesOnly number images since mid new (KeepsFrames (output_file n)) → LeavesOnly number images since old new (KeepsOutputs (n + 1))
  outputs_then old mid new n counts one two =
      followed number images since old mid new (KeepsOutputs n) (KeepsFrames (output_file n)) (KeepsOutputs (n + 1)) counts one two
      (one_output n) (λ a b t. all_outputs n (n + 1) a b (omega arith) t)

  pub outputs_done : (old new : D) (n m : ℕ) → n ≤ m → LeavesOnly number images since old new (KeepsOutputs n) → LeavesOnly number images since old new (KeepsOutputs m)
  outputs_done old new n m le run = weaker number images since old new (KeepsOutputs n) (KeepsOutputs m) run (λ a b now t. all_outputs n m a b le t)

  -- what a read gives is an image after the step
  pub read_left : (old new : D) (step : Image → Image → Type 0) → ((k : ℕ) (c : Image) → k ≤ number new → images new c → since new k c) → images new (reads new)
      → LeavesOnly number images since old new step → (d : Image) × images old d × step d (reads new)
  read_left old new step counts now run = run.each (reads new) (counts (number old) (reads new) run.later now)

  -- the logs so far
  pub record LeftSoFar (tells : Type 0) (old cur : D) (step : Image → Image → Type 0) : Type 0 where
    pub moment : tells → LeavesOnly number images since old cur step
