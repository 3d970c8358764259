-- Logs that are open: what an append leaves of them, and of the other logs.
use Rattle.std.proofs.Common.{ℕ, zero, suc, ◌≡◌, ◌≢◌, ◌+◌, ◌-◌, ◌≤◌, ◌⊎◌, inl, inr, List, [], ◌∷◌, ◌++◌, length, take, drop, refl, sym, ◌∙◌, ap, subst, arith, append_assoc, length-append}
use Rattle.std.specs.List.{AllByRecursion}
use Rattle.std.proofs.lemmas.List.{append-nil, take_at}
use Rattle.std.proofs.lemmas.Bool.{cases_eq}
use Rattle.samza_model.specs.declared.messages.Record.{Record}
use Rattle.samza_model.specs.Files.{Image}
use Rattle.samza_model.specs.Frames.{frame_bytes}
use Rattle.samza_model.specs.Limits.{IsFrameable}
use Rattle.samza_model.specs.Logs.{spelled, joined, ReadsAs, HasFrames}
use Rattle.disk_model.specs.Images.{SameElsewhere, Only, LeavesOnly}
use Rattle.disk_model.proofs.Laws.{started}
use Rattle.log_frame.specs.Frame.{FrameView, AreFrames}
use Rattle.topic_log.specs.declared.logs.Log.{Log}
use Rattle.topic_log.specs.Moves.{Moves}
use Rattle.topic_log.specs.Steps.{closed_frames, record_count, open_frames, staged, Opened, Stages}
use Rattle.topic_log.specs.Extents.{IsExtent}
use Rattle.topic_log.specs.Opened.{file_of, IsOpen, Appends}
use Rattle.topic_log.proofs.Moving.{weaken}
use Rattle.topic_log.proofs.Spelling.{spelled-append, all_append, reads_front}

pub are_frameable : (frames : List FrameView) (lists : List (List Record)) → AreFrames frames lists → AllByRecursion IsFrameable lists
are_frameable [] [] are = tt
are_frameable [] (l ∷ lists) are = absurd are
are_frameable (f ∷ frames) [] are = absurd are
are_frameable (f ∷ frames) (l ∷ lists) are = (are.0.frameable, are_frameable frames lists are.1)

-- the frames have as many records as are joined
pub are_counted : (frames : List FrameView) (lists : List (List Record)) → AreFrames frames lists → record_count frames ≡ length (joined lists)
are_counted [] [] are = refl
are_counted [] (l ∷ lists) are = absurd are
are_counted (f ∷ frames) [] are = absurd are
are_counted (f ∷ frames) (l ∷ lists) are = omega (arith, are.0.count_is, are_counted frames lists are.1, length-append l (joined lists))

-- the frames' bytes behind an open gate, with all gates but the last open
staged_to : (k : ℕ) (frames : List FrameView) (lists : List (List Record)) → length frames ≡ k + 1 → AreFrames frames lists
    → 0x4F ∷ (open_frames (take k frames) ++ closed_frames (drop k frames)) ≡ spelled lists ++ 0x43 ∷ []
staged_to k [] lists long are = absurd (omega arith)
staged_to k (f ∷ frames) [] long are = absurd are
staged_to zero (f ∷ g ∷ frames) (l ∷ lists) long are = absurd (omega arith)
staged_to zero (f ∷ []) (l ∷ m ∷ lists) long are = absurd are.1
staged_to zero (f ∷ []) (l ∷ []) long are =
    ap (λ (b : List ℕ). 0x4F ∷ b) (append-nil (f.bytes ++ 0x43 ∷ []) ∙ ap (λ (b : List ℕ). b ++ 0x43 ∷ []) are.0.bytes_are ∙ ap (λ (b : List ℕ). b ++ 0x43 ∷ []) (sym (append-nil (frame_bytes l))))
staged_to (suc k) (f ∷ frames) (l ∷ lists) long are =
    ap (λ (b : List ℕ). 0x4F ∷ b)
    (append_assoc (f.bytes ++ 0x4F ∷ []) (open_frames (take k frames)) (closed_frames (drop k frames))
    ∙ append_assoc f.bytes (0x4F ∷ []) (open_frames (take k frames) ++ closed_frames (drop k frames))
    ∙ ap (λ (b : List ℕ). f.bytes ++ b) (staged_to k frames lists (omega (arith, long)) are.1)
    ∙ ap (λ (b : List ℕ). b ++ (spelled lists ++ 0x43 ∷ [])) are.0.bytes_are
    ∙ sym (append_assoc (frame_bytes l) (spelled lists) (0x43 ∷ [])))

pub staged-spelled : (frames : List FrameView) (lists : List (List Record)) → 1 ≤ length frames → AreFrames frames lists → 0x4F ∷ staged frames ≡ spelled lists ++ 0x43 ∷ []
staged-spelled frames lists some are = staged_to (length frames - 1) frames lists (omega (arith, some)) are

-- the file of an open log has its frames
pub open_reads : (reads : Image) (images : Image → Type 0) (log : Log) (frames : List (List Record)) → IsOpen reads images log frames → ReadsAs (reads log.file) frames
open_reads reads images log frames h = record { gate = h.gate; behind = []; split = h.bytes; closed = h.closed; frameable = h.extent.frameable }

-- each image of an open log has its frames
pub open_log_has : (reads : Image) (images : Image → Type 0) (log : Log) (frames : List (List Record)) → IsOpen reads images log frames → (c : Image) → images c → HasFrames (c (file_of log)) frames
open_log_has reads images log frames h c now = inr (subst (λ (b : List ℕ). ReadsAs b frames) (sym (h.durable c now)) (open_reads reads images log frames h))

pub open_long : (reads : Image) (images : Image → Type 0) (log : Log) (frames : List (List Record)) → IsOpen reads images log frames → length (reads log.file) ≡ log.extent.gate + 1
open_long reads images log frames h = omega (arith, ap length h.bytes, length-append (spelled frames) (h.gate ∷ []), h.extent.gate)

-- a log stays open where its file is as it was in each image
pub open_elsewhere : (old new : Image) (before after : Image → Type 0) (log : Log) (frames : List (List Record))
    → ((c : Image) → after c → (d : Image) × before d × (c (file_of log) ≡ d (file_of log)))
    → after new
    → IsOpen old before log frames → IsOpen new after log frames
open_elsewhere old new before after log frames from now h =
    let same : (c : Image) → after c → c log.file ≡ old log.file = λ c is. let p = from c is in p.2 ∙ h.durable p.0 p.1 in
    record {
      gate = h.gate;
      bytes = same new now ∙ h.bytes;
      closed = h.closed;
      extent = h.extent;
      durable = λ c is. same c is ∙ sym (same new now);
    }

-- an image between the frames before and those after
module _ (reads : Image) (images : Image → Type 0) (log : Log) (before : List (List Record)) (h : IsOpen reads images log before) where
  pub appends_none : (more : List (List Record)) (d : Image) → images d → Appends log.file before more d d
  appends_none more d now = record { here = inl (open_log_has reads images log before h d now); elsewhere = λ f other. refl }

  old_is : (d : Image) → images d → d log.file ≡ spelled before ++ h.gate ∷ []
  old_is d now = h.durable d now ∙ h.bytes

  with_gate : (frames : List FrameView) (lists : List (List Record)) (c : Image) (x : ℕ) → 1 ≤ length frames → AreFrames frames lists → c log.file ≡ spelled before ++ x ∷ staged frames
      → HasFrames (c log.file) before ⊎ HasFrames (c log.file) (before ++ lists)
  with_gate frames lists c x some are is = elim (cases_eq x 0x4F) [
    | inl opened ↦ inr (inr (record {
      gate = 0x43;
      behind = [];
      split =
          is ∙ ap (λ (y : ℕ). spelled before ++ y ∷ staged frames) opened
          ∙ ap (λ (b : List ℕ). spelled before ++ b) (staged-spelled frames lists some are)
          ∙ sym (append_assoc (spelled before) (spelled lists) (0x43 ∷ []))
          ∙ ap (λ (b : List ℕ). b ++ 0x43 ∷ []) (sym (spelled-append before lists));
      closed = λ e. absurd (omega (arith, e));
      frameable = all_append IsFrameable before lists h.extent.frameable (are_frameable frames lists are);
    }))
    | inr shut ↦ inl (inr (record { gate = x; behind = staged frames; split = is; closed = shut; frameable = h.extent.frameable }))
  ]

  pub stages_appends : (frames : List FrameView) (lists : List (List Record)) (d c : Image) → 1 ≤ length frames → AreFrames frames lists → images d → Stages log.file log.extent.gate (staged frames) d c → Appends log.file before lists d c
  stages_appends frames lists d c some are now step = record {
    here = elim step.here [
      | inl front ↦
          let whole : take (log.extent.gate + 1) (d log.file) ≡ spelled before ++ h.gate ∷ [] =
          ap (λ (b : List ℕ). take (log.extent.gate + 1) b) (old_is d now ∙ sym (append-nil (spelled before ++ h.gate ∷ [])))
          ∙ take_at (spelled before ++ h.gate ∷ []) [] (log.extent.gate + 1) (omega (arith, length-append (spelled before) (h.gate ∷ []), h.extent.gate)) in
          inl (inr (reads_front (c log.file) before h.gate (log.extent.gate + 1) h.extent.frameable h.closed (front ∙ whole)))
      | inr p ↦
          let start : take log.extent.gate (d log.file) ≡ spelled before =
          ap (λ (b : List ℕ). take log.extent.gate b) (old_is d now) ∙ take_at (spelled before) (h.gate ∷ []) log.extent.gate (omega (arith, h.extent.gate)) in
          with_gate frames lists c p.0 some are (p.1 ∙ ap (λ (b : List ℕ). b ++ p.0 ∷ staged frames) start)
    ];
    elsewhere = step.elsewhere;
  }

  -- all the frames are there
  pub opened_is : (new : Image) (after : Image → Type 0) (log' : Log) (frames : List FrameView) (lists : List (List Record)) → 1 ≤ length frames → AreFrames frames lists
      → log'.file ≡ log.file → IsExtent log'.extent (before ++ lists) → Opened log.file log.extent.gate (staged frames) reads new → Only log.file new after → IsOpen new after log' (before ++ lists)
  opened_is new after log' frames lists some are same extent opened only = record {
    gate = 0x43;
    bytes =
        ap new same ∙ opened.here
        ∙ ap (λ (b : List ℕ). b ++ 0x4F ∷ staged frames) (ap (λ (b : List ℕ). take log.extent.gate b) h.bytes ∙ take_at (spelled before) (h.gate ∷ []) log.extent.gate (omega (arith, h.extent.gate)))
        ∙ ap (λ (b : List ℕ). spelled before ++ b) (staged-spelled frames lists some are)
        ∙ sym (append_assoc (spelled before) (spelled lists) (0x43 ∷ []))
        ∙ ap (λ (b : List ℕ). b ++ 0x43 ∷ []) (sym (spelled-append before lists));
    closed = λ e. absurd (omega (arith, e));
    extent = extent;
    durable = subst (λ (f : ℕ). Only f new after) (sym same) only;
  }

-- so many frames are some
pub some_frames : (frames : List FrameView) → 1 ≤ length frames → frames ≢ []
some_frames [] some = λ _. absurd (omega arith)
some_frames (f ∷ frames) some = λ is. cc

pub no_frames : (frames : List FrameView) → length frames ≡ 0 → frames ≡ []
no_frames [] none = refl
no_frames (f ∷ frames) none = absurd (omega arith)

-- an empty list of frames is that of no records
pub are_none : (frames : List FrameView) (lists : List (List Record)) → length frames ≡ 0 → AreFrames frames lists → lists ≡ []
are_none [] [] e are = refl
are_none [] (l ∷ lists) e are = absurd are
are_none (f ∷ frames) lists e are = absurd (omega arith)

module _ {D : Type 0} (reads : D → Image) (number : D → ℕ) (images : D → Image → Type 0) (since : D → ℕ → Image → Type 0) where
  -- no device call was made
  pub appends_still : (old : D) (log : Log) (before lists : List (List Record)) → ((c : Image) → since old (number old) c → images old c) → IsOpen (reads old) (images old) log before
      → LeavesOnly number images since old old (Appends (file_of log) before lists)
  appends_still old log before lists only h = started number images since old (Appends log.file before lists) only (λ d now. (d, now, appends_none (reads old) (images old) log before h lists d now))

  pub appends_moves : (old new : D) (log : Log) (before lists : List (List Record)) (frames : List FrameView) → 1 ≤ length frames → Moves reads number images since old new (Stages log.file log.extent.gate (staged frames))
      → IsOpen (reads old) (images old) log before → AreFrames frames lists → LeavesOnly number images since old new (Appends (file_of log) before lists)
  appends_moves old new log before lists frames some run h are =
      (weaken reads number images since old new (Stages log.file log.extent.gate (staged frames)) (Appends log.file before lists) run
      (λ d c now step. stages_appends (reads old) (images old) log before h frames lists d c some are now step)).moment

  -- a run of calls on one file keeps the logs of the others open
  pub others_open : (old new : D) (file : ℕ) (step : Image → Image → Type 0) → Moves reads number images since old new step → ((a b : Image) → step a b → SameElsewhere file a b)
      → (log : Log) (frames : List (List Record)) → file_of log ≢ file → IsOpen (reads old) (images old) log frames → IsOpen (reads new) (images new) log frames
  others_open old new file step run elsewhere log frames other h =
      open_elsewhere (reads old) (reads new) (images old) (images new) log frames (λ c now. let p = run.now c now in (p.0, p.1, elsewhere p.0 c p.2 log.file other)) run.read h
