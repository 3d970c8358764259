-- The extent of more and more frames.
use Rattle.std.proofs.Common.{ℕ, ◌≡◌, ◌+◌, ◌<◌, ◌≤◌, List, [], ◌∷◌, ◌++◌, length, take, get_or, Option, Some, refl, sym, ◌∙◌, ap, subst, arith, append_assoc, length-append, suc, zero}
use Rattle.std.proofs.lemmas.List.{append-nil, take_all, take_more}
use Rattle.samza_model.specs.declared.messages.Record.{Record}
use Rattle.samza_model.specs.Frames.{frame_bytes}
use Rattle.samza_model.specs.Limits.{IsFrameable}
use Rattle.samza_model.specs.Logs.{spelled, joined}
use Rattle.log_frame.specs.Frame.{FrameView, IsFrame, AreFrames}
use Rattle.topic_log.specs.declared.extents.Place.{Place}
use Rattle.topic_log.specs.declared.extents.Extent.{Extent}
use Rattle.topic_log.specs.Extents.{IsExtent, IsLastOf}
use Rattle.topic_log.specs.Steps.{closed_frames, record_count}
use Rattle.topic_log.proofs.Spelling.{spelled-push, joined-push, all_append}
use Rattle.topic_log.proofs.Writing.{closed-more, count-more}

-- what holds after the first i frames
pub record Extending (start now : Extent) (frames : List FrameView) (i : ℕ) : Type 0 where
  pub gate : now.gate ≡ start.gate + length (closed_frames (take i frames))
  pub count : now.count ≡ start.count + record_count (take i frames)
  pub extent : (before lists : List (List Record)) → IsExtent start before → AreFrames frames lists → IsExtent now (before ++ take i lists)

pub extending_none : (start : Extent) (frames : List FrameView) → Extending start start frames 0
extending_none start frames = record {
  gate = omega arith;
  count = omega arith;
  extent = λ before lists is are. subst (λ (l : List (List Record)). IsExtent start l) (sym (append-nil before)) is;
}

-- one frame more
pub record Grows (old new : Extent) (len count : ℕ) : Type 0 where
  pub gate : new.gate ≡ old.gate + 1 + len
  pub count_is : new.count ≡ old.count + count
  pub last : new.last ≡ Some (record { byte = old.gate; index = old.count })

pub extent_grown : (old new : Extent) (len count : ℕ) (before : List (List Record)) (records : List Record) → Grows old new len count → IsExtent old before
    → IsFrameable records → len ≡ length (frame_bytes records) → count ≡ length records → IsExtent new (before ++ records ∷ [])
extent_grown old new len count before records grows is fits long many = record {
  frameable = all_append IsFrameable before (records ∷ []) is.frameable (fits, tt);
  gate = omega (arith, grows.gate, is.gate, ap length (spelled-push before records), length-append (spelled before) (0x4F ∷ frame_bytes records));
  count = omega (arith, grows.count_is, is.count, ap length (joined-push before records), length-append (joined before) records);
  last = subst (λ (o : Option Place). IsLastOf o (before ++ records ∷ [])) (sym grows.last) (record { before = before; batch = records; front = refl; stands = record { behind = records ∷ []; front = refl; byte = is.gate; index = is.count } });
}

-- the frame at a place is that of the list there
pub are_at : (frames : List FrameView) (lists : List (List Record)) (i : ℕ) (f : FrameView) → AreFrames frames lists → i < length frames → IsFrame (get_or frames i f) (get_or lists i [])
are_at [] lists i f are lt = absurd (omega arith)
are_at (g ∷ frames) [] i f are lt = absurd are
are_at (g ∷ frames) (l ∷ lists) zero f are lt = are.0
are_at (g ∷ frames) (l ∷ lists) (suc i) f are lt = are_at frames lists i f are.1 (omega arith)

pub are_many : (frames : List FrameView) (lists : List (List Record)) → AreFrames frames lists → length lists ≡ length frames
are_many [] [] are = refl
are_many [] (l ∷ lists) are = absurd are
are_many (g ∷ frames) [] are = absurd are
are_many (g ∷ frames) (l ∷ lists) are = ap suc (are_many frames lists are.1)

pub extending_more : (start old new : Extent) (frames : List FrameView) (i : ℕ) (f : FrameView) (len count : ℕ) → Extending start old frames i → i < length frames → f ≡ get_or frames i f
    → Grows old new len count → len ≡ length f.bytes → count ≡ f.count → Extending start new frames (i + 1)
extending_more start old new frames i f len count so_far lt item grows long many = record {
  gate = omega (arith, grows.gate, so_far.gate, ap length (closed-more frames i f lt item), length-append (closed_frames (take i frames)) (f.bytes ++ 0x43 ∷ []), length-append f.bytes (0x43 ∷ []), long);
  count = omega (arith, grows.count_is, so_far.count, count-more frames i f lt item, many);
  extent = λ before lists is are.
      let here : IsFrame f (get_or lists i []) = subst (λ (g : FrameView). IsFrame g (get_or lists i [])) (sym item) (are_at frames lists i f are lt) in
      let within : i < length lists = omega (arith, are_many frames lists are, lt) in
      let next = extent_grown old new len count (before ++ take i lists) (get_or lists i []) grows (so_far.extent before lists is are) here.frameable (long ∙ ap length here.bytes_are) (many ∙ here.count_is) in
      subst (λ (l : List (List Record)). IsExtent new l) (append_assoc before (take i lists) (get_or lists i [] ∷ []) ∙ ap (λ (l : List (List Record)). before ++ l) (sym (take_more lists i [] within))) next;
}

pub extending_done : (start now : Extent) (frames : List FrameView) (i : ℕ) → length frames ≤ i → Extending start now frames i → (before lists : List (List Record)) → IsExtent start before → AreFrames frames lists → IsExtent now (before ++ lists)
extending_done start now frames i le so_far before lists is are =
    subst (λ (l : List (List Record)). IsExtent now (before ++ l)) (take_all i lists (omega (arith, are_many frames lists are, le))) (so_far.extent before lists is are)
