-- A record that is appended to a file, from its opening on.
use Rattle.std.proofs.Common.{ℕ, ◌≡◌, ◌≤◌, ◌<◌, ◌+◌, ◌⊎◌, inl, inr, List, [], ◌∷◌, ◌++◌, length, ap, sym, ◌∙◌, subst, arith}
use Rattle.std.proofs.lemmas.List.{append-nil}
use Rattle.samza_model.specs.declared.messages.Record.{Record}
use Rattle.samza_model.specs.Files.{Image}
use Rattle.samza_model.specs.Frames.{frame_bytes}
use Rattle.samza_model.specs.Limits.{file_limit}
use Rattle.samza_model.specs.Logs.{spelled, HasFrames}
use Rattle.disk_model.specs.Images.{SameElsewhere, LeavesOnly}
use Rattle.disk_model.proofs.Laws.{followed_from, weaker}
use Rattle.topic_log.specs.declared.logs.Log.{Log}
use Rattle.topic_log.specs.Opened.{file_of, size_of, IsOpen, KeepsFrames, Appends}
use Rattle.topic_log.specs.Producing.{Produces, IsFull}
use Rattle.topic_log.proofs.Logged.{open_reads, open_log_has}
use Rattle.topic_log.proofs.Spelling.{frames_unique}

produces_kept : (file : ℕ) (body : Record) (a b : Image) → KeepsFrames file a b → Produces file body a b
produces_kept file body a b k = record { here = λ frames has. inl (k.here frames has); lost = k.lost; elsewhere = k.elsewhere }

-- a file whose log was opened has the frames that it had
pub keeps_opened : (file : ℕ) (old new : Image) (images : Image → Type 0) (log : Log) (before : List (List Record)) → HasFrames (old file) before → file_of log ≡ file → IsOpen new images log before
    → SameElsewhere file old new → KeepsFrames file old new
keeps_opened file old new images log before had is h elsewhere =
    let has : HasFrames (new file) before = subst (λ (f : ℕ). HasFrames (new f) before) is (inr (open_reads new images log before h)) in
    record {
      here = λ frames was. subst (λ (fs : List (List Record)). HasFrames (new file) fs) (frames_unique (old file) before frames had was) has;
      lost = λ none. absurd (none before had);
      elsewhere = elsewhere;
    }

module _ {D : Type 0} (number : D → ℕ) (images : D → Image → Type 0) (since : D → ℕ → Image → Type 0) where
  -- the file was opened
  pub produces_opened : (old mid : D) (file : ℕ) (body : Record) → LeavesOnly number images since old mid (KeepsFrames file) → LeavesOnly number images since old mid (Produces file body)
  produces_opened old mid file body run = weaker number images since old mid (KeepsFrames file) (Produces file body) run (λ a b now k. produces_kept file body a b k)

  -- and the record appended
  pub produces_appended : (reads : D → Image) (old mid new : D) (file : ℕ) (body : Record) (log : Log) (before : List (List Record))
      → ((k : ℕ) (c : Image) → k ≤ number mid → images mid c → since mid k c)
      → LeavesOnly number images since old mid (KeepsFrames file)
      → file_of log ≡ file → IsOpen (reads mid) (images mid) log before
      → LeavesOnly number images since mid new (Appends (file_of log) before ((body ∷ []) ∷ []))
      → LeavesOnly number images since old new (Produces file body)
  produces_appended reads old mid new file body log before counts one is h two =
      followed_from number images since old mid new (KeepsFrames file) (Appends file before ((body ∷ []) ∷ [])) (Produces file body) counts one
      (subst (λ (f : ℕ). LeavesOnly number images since mid new (Appends f before ((body ∷ []) ∷ []))) is two)
      (λ a b c was now k s.
      let has_before : HasFrames (b file) before = subst (λ (f : ℕ). HasFrames (b f) before) is (open_log_has (reads mid) (images mid) log before h b now) in
      record {
        here = λ frames has.
            let same : before ≡ frames = frames_unique (b file) before frames has_before (k.here frames has) in
            subst (λ (fs : List (List Record)). HasFrames (c file) fs ⊎ HasFrames (c file) (fs ++ (body ∷ []) ∷ [])) same s.here;
        lost = λ none. absurd (none before (subst (λ (bytes : List ℕ). HasFrames bytes before) (k.lost none) has_before));
        elsewhere = λ f other. s.elsewhere f other ∙ k.elsewhere f other;
      })
      (λ a b was k. produces_kept file body a b k)

-- a log with room for the record isn't full of it
pub has_room_for : (bytes : List ℕ) (log : Log) (before : List (List Record)) (body : Record) → HasFrames bytes before → size_of log ≡ length (spelled before) + 1
    → size_of log + length (frame_bytes (body ∷ [])) + 1 ≤ file_limit → IsFull bytes body → ⊥
has_room_for bytes log before body has size room full =
    let same : before ≡ full.had = frames_unique bytes before full.had has full.has in
    let passes : file_limit < length (spelled before) + length (spelled ((body ∷ []) ∷ [])) + 1 =
    subst (λ (fs : List (List Record)). file_limit < length (spelled fs) + length (spelled ((body ∷ []) ∷ [])) + 1) (sym same) full.passes in
    omega (arith, size, room, passes, ap length (append-nil (0x4F ∷ frame_bytes (body ∷ []))))

-- and one without is
pub is_full : (bytes : List ℕ) (log : Log) (before : List (List Record)) (body : Record) → HasFrames bytes before → size_of log ≡ length (spelled before) + 1
    → file_limit < size_of log + length (frame_bytes (body ∷ [])) + 1 → IsFull bytes body
is_full bytes log before body has size lacks =
    record { had = before; has = has; some = λ is. cc; passes = omega (arith, size, lacks, ap length (append-nil (0x4F ∷ frame_bytes (body ∷ [])))) }
