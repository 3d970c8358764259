-- Frames put behind a gate: from bytes to bytes.
use Rattle.std.proofs.Common.{ℕ, ◌≡◌, ◌+◌, ◌≤◌, inl, inr, List, [], ◌∷◌, ◌++◌, length, take, drop, get_or, sym, ◌∙◌, ap, arith, append_assoc, length-append, take-append-drop}
use Rattle.std.proofs.lemmas.Grind.{flat_map-append}
use Rattle.std.proofs.lemmas.List.{drop_more, drop_all, take_at, drop_at, length-take-le}
use Rattle.samza_model.specs.Files.{Image}
use Rattle.disk_model.specs.Images.{Written, TornWrite, Only}
use Rattle.log_frame.specs.Frame.{FrameView}
use Rattle.topic_log.specs.Moves.{Moves, KeepsFront}
use Rattle.topic_log.specs.Steps.{closed_frames, open_frames, Extended, Opened, OpensGates, HasClosed, Stages}
use Rattle.topic_log.proofs.Moving.{then_from, weaken}
use Rattle.topic_log.proofs.Bytes.{written_at, torn_at}

closed-split : (n : ℕ) (frames : List FrameView) → closed_frames frames ≡ closed_frames (take n frames) ++ closed_frames (drop n frames)
closed-split n frames = ap closed_frames (sym (take-append-drop n frames)) ∙ flat_map-append (λ (g : FrameView). g.bytes ++ 0x43 ∷ []) (take n frames) (drop n frames)

module _ (file at n : ℕ) (frames : List FrameView) (old mid : Image) (long : at ≡ length (old file)) (written : Extended file (closed_frames frames) old mid) where
  front : take at (mid file) ≡ old file
  front = ap (λ (l : List ℕ). take at l) written.here ∙ take_at (old file) (closed_frames frames) at (sym long)

  behind : drop (at + length (closed_frames (take n frames))) (mid file) ≡ closed_frames (drop n frames)
  behind =
      let split : mid file ≡ (old file ++ closed_frames (take n frames)) ++ closed_frames (drop n frames) =
      written.here ∙ ap (λ (l : List ℕ). old file ++ l) (closed-split n frames) ∙ sym (append_assoc (old file) (closed_frames (take n frames)) (closed_frames (drop n frames))) in
      ap (λ (l : List ℕ). drop (at + length (closed_frames (take n frames))) l) split
      ∙ drop_at (old file ++ closed_frames (take n frames)) (closed_frames (drop n frames)) (at + length (closed_frames (take n frames))) (omega (arith, long, length-append (old file) (closed_frames (take n frames))))

  pub stage_closed : HasClosed at (take n frames) (mid file)
  stage_closed =
      written.here ∙ ap (λ (l : List ℕ). old file ++ l) (closed-split n frames)
      ∙ ap (λ (l : List ℕ). l ++ (closed_frames (take n frames) ++ closed_frames (drop n frames))) (sym front)
      ∙ ap (λ (l : List ℕ). take at (mid file) ++ (closed_frames (take n frames) ++ l)) (sym behind)

  pub stage_inside : at ≤ length (mid file)
  stage_inside = omega (arith, long, ap length written.here, length-append (old file) (closed_frames frames))

  pub stage_done : (new : Image) → OpensGates file at (take n frames) mid new → Extended file (open_frames (take n frames) ++ closed_frames (drop n frames)) old new
  stage_done new opens = record {
    here =
        opens.here
        ∙ ap (λ (l : List ℕ). l ++ (open_frames (take n frames) ++ drop (at + length (closed_frames (take n frames))) (mid file))) front
        ∙ ap (λ (l : List ℕ). old file ++ (open_frames (take n frames) ++ l)) behind;
    elsewhere = λ f other. opens.elsewhere f other ∙ written.elsewhere f other;
  }

pub closed_fewer : (n : ℕ) (frames : List FrameView) → length (closed_frames (take n frames)) ≤ length (closed_frames frames)
closed_fewer n frames = omega (arith, ap length (closed-split n frames), length-append (closed_frames (take n frames)) (closed_frames (drop n frames)))

-- a file's last byte
pub last_byte : (gate : ℕ) (bytes : List ℕ) → length bytes ≡ gate + 1 → bytes ≡ take gate bytes ++ get_or bytes gate 0 ∷ []
last_byte gate bytes long =
    let rest : drop gate bytes ≡ get_or bytes gate 0 ∷ [] =
    drop_more bytes gate 0 (omega (arith, long)) ∙ ap (λ (l : List ℕ). get_or bytes gate 0 ∷ l) (drop_all (gate + 1) bytes (omega (arith, long))) in
    sym (take-append-drop gate bytes) ∙ ap (λ (l : List ℕ). take gate bytes ++ l) rest

module _ (file gate : ℕ) (behind : List ℕ) (old mid : Image) (long : length (old file) ≡ gate + 1) (written : Extended file behind old mid) where
  before_gate : length (take gate (old file)) ≡ gate
  before_gate = length-take-le gate (old file) (omega (arith, long))

  whole : mid file ≡ take gate (old file) ++ get_or (old file) gate 0 ∷ behind
  whole =
      written.here ∙ ap (λ (l : List ℕ). l ++ behind) (last_byte gate (old file) long)
      ∙ append_assoc (take gate (old file)) (get_or (old file) gate 0 ∷ []) behind

  pub gate_within : gate ≤ length (mid file)
  gate_within = omega (arith, long, ap length written.here, length-append (old file) behind)

  pub put_opened : (new : Image) → Written file gate (0x4F ∷ []) mid new → Opened file gate behind old new
  put_opened new made = record {
    here = written_at (take gate (old file)) behind (mid file) (new file) (get_or (old file) gate 0) 0x4F gate before_gate whole made.here;
    elsewhere = λ f other. made.elsewhere f other ∙ written.elsewhere f other;
  }

  pub put_torn : (a b c : Image) → a file ≡ old file → b file ≡ mid file → KeepsFront file (gate + 1) a b → TornWrite file gate 1 b c → Stages file gate behind a c
  put_torn a b c was is kept torn =
      let made = torn_at (take gate (old file)) behind (mid file) (c file) (get_or (old file) gate 0) gate before_gate whole
      (torn.before ∙ ap (λ (l : List ℕ). take gate l) is) (torn.behind ∙ ap (λ (l : List ℕ). drop (gate + 1) l) is) (omega (arith, torn.no_shorter, ap length is)) in
      record {
        here = inr (made.0, made.1 ∙ ap (λ (l : List ℕ). take gate l ++ made.0 ∷ behind) (sym was));
        elsewhere = λ f other. torn.elsewhere f other ∙ kept.elsewhere f other;
      }

pub kept_stages : (file gate : ℕ) (behind : List ℕ) (a b : Image) → KeepsFront file (gate + 1) a b → Stages file gate behind a b
kept_stages file gate bytes a b kept = record { here = inl kept.front; elsewhere = kept.elsewhere }

module _ {D : Type 0} (reads : D → Image) (number : D → ℕ) (images : D → Image → Type 0) (since : D → ℕ → Image → Type 0) where
  -- the gate is opened over staged frames
  pub put_moves : (old mid new : D) (file gate : ℕ) (behind : List ℕ)
      → length (reads old file) ≡ gate + 1
      → Only file (reads old) (images old)
      → Only file (reads mid) (images mid)
      → Extended file behind (reads old) (reads mid)
      → Moves reads number images since old mid (KeepsFront file (gate + 1))
      → Moves reads number images since mid new (TornWrite file gate 1)
      → Moves reads number images since old new (Stages file gate behind)
  put_moves old mid new file gate behind long only only' written one two =
      then_from reads number images since old mid new (KeepsFront file (gate + 1)) (TornWrite file gate 1) (Stages file gate behind) one two
      (λ a b c was is p q. put_torn file gate behind (reads old) (reads mid) long written a b c (only a was) (only' b is) p q)
      (λ a b was p. kept_stages file gate behind a b p)

  pub kept_moves : (old new : D) (file gate : ℕ) (behind : List ℕ) → Moves reads number images since old new (KeepsFront file (gate + 1)) → Moves reads number images since old new (Stages file gate behind)
  kept_moves old new file gate behind one = weaken reads number images since old new (KeepsFront file (gate + 1)) (Stages file gate behind) one (λ a b was p. kept_stages file gate behind a b p)
