-- The loops that write frames and open their gates.
use Rattle.std.proofs.Common.{ℕ, ◌≡◌, ◌+◌, ◌<◌, ◌≤◌, List, [], ◌∷◌, ◌++◌, length, take, drop, get_or, refl, sym, ◌∙◌, ap, arith, append_assoc, length-append, take-append-drop}
use Rattle.std.proofs.lemmas.Grind.{flat_map-append}
use Rattle.std.proofs.lemmas.List.{take_more, drop_more, take_all, drop_all, append-nil, length-take-le}
use Rattle.samza_model.specs.Files.{Image}
use Rattle.disk_model.specs.Images.{Written, TornWrite}
use Rattle.log_frame.specs.Frame.{FrameView}
use Rattle.topic_log.specs.Moves.{Moves, KeepsFront}
use Rattle.topic_log.specs.Steps.{closed_frames, record_count, open_frames, Extended, OpensGates, HasClosed}
use Rattle.topic_log.proofs.Moving.{then}
use Rattle.topic_log.proofs.Bytes.{front_then, front_torn, written_end, written_at}

-- the first frames are opened, and the rest are closed
pub record OpensFirst (file at i : ℕ) (frames : List FrameView) (old new : Image) : Type 0 where
  pub here : new file ≡ take at (old file) ++ (open_frames (take i frames) ++ (closed_frames (drop i frames) ++ drop (at + length (closed_frames frames)) (old file)))
  pub elsewhere : (f : ℕ) → (f ≡ file → ⊥) → new f ≡ old f

module _ {D N : Type 0} (tells : Type 0) (reads : D → Image) (number : D → ℕ) (images : D → Image → Type 0) (since : D → ℕ → Image → Type 0) (faults : D → ℕ) (name : D → N) where
  -- what holds while frames are written
  pub record Writing (old new : D) (file at end : ℕ) (bytes : List ℕ) : Type 0 where
    pub ends : end ≡ at + length bytes
    pub written : tells → Extended file bytes (reads old) (reads new)
    pub moves : tells → Moves reads number images since old new (KeepsFront file at)
    pub later : faults old ≤ faults new
    pub same_name : name new ≡ name old

  pub writing_none : (old : D) (file at : ℕ) → (tells → Moves reads number images since old old (KeepsFront file at)) → Writing old old file at at []
  writing_none old file at moves = record {
    ends = omega arith;
    written = λ told. record { here = sym (append-nil (reads old file)); elsewhere = λ f other. refl };
    moves = moves;
    later = omega arith;
    same_name = refl;
  }

  pub writing_more : (old mid new : D) (file at end : ℕ) (bytes more total : List ℕ)
      → Writing old mid file at end bytes
      → (tells → at ≡ length (reads old file))
      → (tells → Written file end more (reads mid) (reads new))
      → (tells → Moves reads number images since mid new (TornWrite file end (length more)))
      → faults mid ≤ faults new
      → name new ≡ name mid
      → total ≡ bytes ++ more
      → Writing old new file at (end + length more) total
  writing_more old mid new file at end bytes more total so_far start written moves later same is =
      let le : at ≤ end = omega (arith, so_far.ends) in
      record {
        ends = omega (arith, so_far.ends, ap length is, length-append bytes more);
        written = λ told. record {
          here =
              let was : reads mid file ≡ reads old file ++ bytes = (so_far.written told).here in
              let long : end ≡ length (reads mid file) = omega (arith, so_far.ends, start told, ap length was, length-append (reads old file) bytes) in
              written_end end (reads mid file) (reads new file) more long (written told).here
              ∙ ap (λ (l : List ℕ). l ++ more) was
              ∙ append_assoc (reads old file) bytes more
              ∙ ap (λ (l : List ℕ). reads old file ++ l) (sym is);
          elsewhere = λ f other. (written told).elsewhere f other ∙ (so_far.written told).elsewhere f other;
        };
        moves = λ told. then reads number images since old mid new (KeepsFront file at) (TornWrite file end (length more)) (KeepsFront file at) (so_far.moves told) (moves told)
            (λ a b c p q. front_then file at a b c p (front_torn file at end (length more) b c le q)) (λ a b p. p);
        later = omega (arith, so_far.later, later);
        same_name = same ∙ so_far.same_name;
      }

  pub writing_stops : (old mid new : D) (file at end len : ℕ) (bytes : List ℕ)
      → Writing old mid file at end bytes
      → (tells → Moves reads number images since mid new (TornWrite file end len))
      → tells → Moves reads number images since old new (KeepsFront file at)
  writing_stops old mid new file at end len bytes so_far moves told =
      let le : at ≤ end = omega (arith, so_far.ends) in
      then reads number images since old mid new (KeepsFront file at) (TornWrite file end len) (KeepsFront file at) (so_far.moves told) (moves told)
      (λ a b c p q. front_then file at a b c p (front_torn file at end len b c le q)) (λ a b p. p)

  -- what holds while gates are opened
  pub record Opening (old new : D) (file at end i : ℕ) (frames : List FrameView) : Type 0 where
    pub ends : end ≡ at + length (closed_frames (take i frames))
    pub opened : tells → OpensFirst file at i frames (reads old) (reads new)
    pub moves : tells → Moves reads number images since old new (KeepsFront file at)
    pub later : faults old ≤ faults new
    pub same_name : name new ≡ name old

pub closed-more : (frames : List FrameView) (i : ℕ) (f : FrameView) → i < length frames → f ≡ get_or frames i f → closed_frames (take (i + 1) frames) ≡ closed_frames (take i frames) ++ (f.bytes ++ 0x43 ∷ [])
closed-more frames i f lt item =
    ap closed_frames (take_more frames i f lt ∙ ap (λ (g : FrameView). take i frames ++ g ∷ []) (sym item))
    ∙ flat_map-append (λ (g : FrameView). g.bytes ++ 0x43 ∷ []) (take i frames) (f ∷ [])
    ∙ ap (λ (l : List ℕ). closed_frames (take i frames) ++ l) (append-nil (f.bytes ++ 0x43 ∷ []))

record_count-append : (a b : List FrameView) → record_count (a ++ b) ≡ record_count a + record_count b
record_count-append [] b = omega arith
record_count-append (f ∷ a) b = omega (arith, record_count-append a b)

pub count-more : (frames : List FrameView) (i : ℕ) (f : FrameView) → i < length frames → f ≡ get_or frames i f → record_count (take (i + 1) frames) ≡ record_count (take i frames) + f.count
count-more frames i f lt item =
    let one : record_count (f ∷ []) ≡ f.count = omega arith in
    ap record_count (take_more frames i f lt ∙ ap (λ (g : FrameView). take i frames ++ g ∷ []) (sym item))
    ∙ record_count-append (take i frames) (f ∷ [])
    ∙ ap (λ (n : ℕ). record_count (take i frames) + n) one

pub open-more : (frames : List FrameView) (i : ℕ) (f : FrameView) → i < length frames → f ≡ get_or frames i f → open_frames (take (i + 1) frames) ≡ open_frames (take i frames) ++ (f.bytes ++ 0x4F ∷ [])
open-more frames i f lt item =
    ap open_frames (take_more frames i f lt ∙ ap (λ (g : FrameView). take i frames ++ g ∷ []) (sym item))
    ∙ flat_map-append (λ (g : FrameView). g.bytes ++ 0x4F ∷ []) (take i frames) (f ∷ [])
    ∙ ap (λ (l : List ℕ). open_frames (take i frames) ++ l) (append-nil (f.bytes ++ 0x4F ∷ []))

pub length-open : (frames : List FrameView) → length (open_frames frames) ≡ length (closed_frames frames)
length-open [] = refl
length-open (f ∷ frames) =
    omega (arith, length-open frames, length-append (f.bytes ++ 0x4F ∷ []) (open_frames frames), length-append (f.bytes ++ 0x43 ∷ []) (closed_frames frames), length-append f.bytes (0x4F ∷ []), length-append f.bytes (0x43 ∷ []))

-- a frame and its gate are a part of the whole
pub closed_part : (frames : List FrameView) (i : ℕ) (f : FrameView) → i < length frames → f ≡ get_or frames i f
    → length (closed_frames (take i frames)) + length f.bytes + 1 + length (closed_frames (drop (i + 1) frames)) ≡ length (closed_frames frames)
closed_part frames i f lt item =
    let all : closed_frames frames ≡ closed_frames (take (i + 1) frames) ++ closed_frames (drop (i + 1) frames) =
    ap closed_frames (sym (take-append-drop (i + 1) frames)) ∙ flat_map-append (λ (g : FrameView). g.bytes ++ 0x43 ∷ []) (take (i + 1) frames) (drop (i + 1) frames) in
    omega (
      arith,
      ap length all,
      length-append (closed_frames (take (i + 1) frames)) (closed_frames (drop (i + 1) frames)),
      ap length (closed-more frames i f lt item),
      length-append (closed_frames (take i frames)) (f.bytes ++ 0x43 ∷ []),
      length-append f.bytes (0x43 ∷ []),
    )

-- the next gate
module _ (old now : List ℕ) (frames : List FrameView) (at i : ℕ) (f : FrameView) (inside : at ≤ length old) (lt : i < length frames) (item : f ≡ get_or frames i f)
    (so_far : now ≡ take at old ++ (open_frames (take i frames) ++ (closed_frames (drop i frames) ++ drop (at + length (closed_frames frames)) old))) where
  pub gate_front : List ℕ
  gate_front = take at old ++ (open_frames (take i frames) ++ f.bytes)

  pub gate_behind : List ℕ
  gate_behind = closed_frames (drop (i + 1) frames) ++ drop (at + length (closed_frames frames)) old

  pub length-gate_front : length gate_front ≡ at + length (closed_frames (take i frames)) + length f.bytes
  unfolding gate_front
  length-gate_front =
      omega (arith, length-append (take at old) (open_frames (take i frames) ++ f.bytes), length-append (open_frames (take i frames)) f.bytes, length-open (take i frames), length-take-le at old inside)

  pub gate_stands : now ≡ gate_front ++ 0x43 ∷ gate_behind
  unfolding gate_front gate_behind
  gate_stands =
      let next : closed_frames (drop i frames) ≡ (f.bytes ++ 0x43 ∷ []) ++ closed_frames (drop (i + 1) frames) =
      ap closed_frames (drop_more frames i f lt ∙ ap (λ (g : FrameView). g ∷ drop (i + 1) frames) (sym item)) in
      so_far
      ∙ ap (λ (l : List ℕ). take at old ++ (open_frames (take i frames) ++ (l ++ drop (at + length (closed_frames frames)) old))) next
      ∙ simp append_assoc

  pub gate_opens : gate_front ++ 0x4F ∷ gate_behind ≡ take at old ++ (open_frames (take (i + 1) frames) ++ (closed_frames (drop (i + 1) frames) ++ drop (at + length (closed_frames frames)) old))
  unfolding gate_front gate_behind
  gate_opens =
      sym (ap (λ (l : List ℕ). take at old ++ (l ++ (closed_frames (drop (i + 1) frames) ++ drop (at + length (closed_frames frames)) old))) (open-more frames i f lt item)
      ∙ simp append_assoc)

  pub gate_inside : at + length (closed_frames (take i frames)) + length f.bytes < length now
  gate_inside = omega (arith, ap length gate_stands, length-append gate_front (0x43 ∷ gate_behind), length-gate_front)

module _ {D N : Type 0} (tells : Type 0) (reads : D → Image) (number : D → ℕ) (images : D → Image → Type 0) (since : D → ℕ → Image → Type 0) (faults : D → ℕ) (name : D → N) where
  pub opening_none : (old : D) (file at : ℕ) (frames : List FrameView) → (tells → HasClosed at frames (reads old file)) → (tells → Moves reads number images since old old (KeepsFront file at))
      → Opening tells reads number images since faults name old old file at at 0 frames
  opening_none old file at frames closed moves = record {
    ends = omega arith;
    opened = λ told. record { here = closed told; elsewhere = λ f other. refl };
    moves = moves;
    later = omega arith;
    same_name = refl;
  }

  pub opening_more : (old mid new : D) (file at end i : ℕ) (frames : List FrameView) (f : FrameView) (gate : ℕ)
      → Opening tells reads number images since faults name old mid file at end i frames
      → i < length frames → f ≡ get_or frames i f
      → gate ≡ end + length f.bytes
      → (tells → at ≤ length (reads old file))
      → (tells → Written file gate (0x4F ∷ []) (reads mid) (reads new))
      → (tells → Moves reads number images since mid new (TornWrite file gate 1))
      → faults mid ≤ faults new
      → name new ≡ name mid
      → Opening tells reads number images since faults name old new file at (gate + 1) (i + 1) frames
  opening_more old mid new file at end i frames f gate so_far lt item gate_is inside written moves later same =
      let le : at ≤ gate = omega (arith, so_far.ends, gate_is) in
      record {
        ends = omega (arith, so_far.ends, gate_is, ap length (closed-more frames i f lt item), length-append (closed_frames (take i frames)) (f.bytes ++ 0x43 ∷ []), length-append f.bytes (0x43 ∷ []));
        opened = λ told.
            let was = (so_far.opened told).here in
            let front = gate_front (reads old file) (reads mid file) frames at i f (inside told) lt item was in
            let behind = gate_behind (reads old file) (reads mid file) frames at i f (inside told) lt item was in
            let long : length front ≡ gate = length-gate_front (reads old file) (reads mid file) frames at i f (inside told) lt item was ∙ omega (arith, so_far.ends, gate_is) in
            record {
              here = written_at front behind (reads mid file) (reads new file) 0x43 0x4F gate long (gate_stands (reads old file) (reads mid file) frames at i f (inside told) lt item was) (written told).here
                  ∙ gate_opens (reads old file) (reads mid file) frames at i f (inside told) lt item was;
              elsewhere = λ g other. (written told).elsewhere g other ∙ (so_far.opened told).elsewhere g other;
            };
        moves = λ told. then reads number images since old mid new (KeepsFront file at) (TornWrite file gate 1) (KeepsFront file at) (so_far.moves told) (moves told)
            (λ a b c p q. front_then file at a b c p (front_torn file at gate 1 b c le q)) (λ a b p. p);
        later = omega (arith, so_far.later, later);
        same_name = same ∙ so_far.same_name;
      }

  pub opening_stops : (old mid new : D) (file at end i gate : ℕ) (frames : List FrameView)
      → Opening tells reads number images since faults name old mid file at end i frames
      → end ≤ gate
      → (tells → Moves reads number images since mid new (TornWrite file gate 1))
      → tells → Moves reads number images since old new (KeepsFront file at)
  opening_stops old mid new file at end i gate frames so_far up moves told =
      let le : at ≤ gate = omega (arith, so_far.ends, up) in
      then reads number images since old mid new (KeepsFront file at) (TornWrite file gate 1) (KeepsFront file at) (so_far.moves told) (moves told)
      (λ a b c p q. front_then file at a b c p (front_torn file at gate 1 b c le q)) (λ a b p. p)

-- all gates are opened
pub opening_done : (file at i : ℕ) (frames : List FrameView) (old new : Image) → length frames ≤ i → OpensFirst file at i frames old new → OpensGates file at frames old new
opening_done file at i frames old new le so_far = record {
  here =
      so_far.here
      ∙ ap (λ (l : List FrameView). take at (old file) ++ (open_frames l ++ (closed_frames (drop i frames) ++ drop (at + length (closed_frames frames)) (old file)))) (take_all i frames le)
      ∙ ap (λ (l : List FrameView). take at (old file) ++ (open_frames frames ++ (closed_frames l ++ drop (at + length (closed_frames frames)) (old file)))) (drop_all i frames le);
  elsewhere = so_far.elsewhere;
}
