-- A frame that is read from its place.
use Rattle.std.proofs.Common.{ℕ, ◌≡◌, ◌^◌, ◌+◌, ◌-◌, ◌<◌, ◌≤◌, List, [], ◌∷◌, ◌++◌, length, take, drop, Result, Ok, Err, refl, sym, ◌∙◌, ap, subst, arith, append_assoc, length-append}
use Rattle.std.specs.List.{AllByRecursion}
use Rattle.std.proofs.lemmas.List.{take_at, drop_at, append-nil}
use Rattle.samza_model.specs.declared.messages.Record.{Record}
use Rattle.samza_model.specs.Files.{Image}
use Rattle.samza_model.specs.Frames.{frame_bytes}
use Rattle.samza_model.specs.Logs.{spelled, joined}
use Rattle.topic_log.specs.declared.extents.Place.{Place}
use Rattle.topic_log.specs.declared.extents.Extent.{Extent}
use Rattle.topic_log.specs.declared.logs.Log.{Log}
use Rattle.topic_log.specs.declared.windows.Window.{Window}
use Rattle.topic_log.specs.Batches.{HasPlace, IsOn}
use Rattle.topic_log.specs.Damage.{StopsAt}
use Rattle.topic_log.specs.Walks.{seen}
use Rattle.topic_log.specs.Extents.{StandsBehind, IsExtent}
use Rattle.topic_log.specs.Opened.{IsOpen}
use Rattle.topic_log.proofs.Spelling.{spelled-append, joined-append, spelled-push, joined-push, some_bytes, no_frames, all_back}
use Rattle.samza_model.specs.Limits.{IsFrameable}
use Rattle.log_frame.specs.Reading.{frame_at}
use Rattle.log_frame.proofs.Laws.{frame_again}

-- a frame that is there isn't refused, and its size is within the room
module _ (bytes : List ℕ) (records : List Record) (rest : List ℕ) (fits : IsFrameable records) (split : bytes ≡ frame_bytes records ++ rest) where
  pub whole_read : frame_at bytes ≡ Ok (records, length (frame_bytes records))
  whole_read = ap frame_at split ∙ frame_again records rest fits

  pub whole_stays : (place : ℕ) → frame_at bytes ≡ Err place → ⊥
  whole_stays place bad = let both : ◌≡◌ {A = Result (List Record × ℕ) ℕ} (Err place) (Ok (records, length (frame_bytes records))) = sym bad ∙ whole_read in absurd cc

-- the frame is read from its own bytes
module _ (file : List ℕ) (size at : ℕ) (records : List Record) (rest : List ℕ) (fits : IsFrameable records) (split : seen size at file ≡ frame_bytes records ++ rest) where
  pub seen_stays : (from place : ℕ) → StopsAt (seen size at file) from place → ⊥
  seen_stays from place s = whole_stays (seen size at file) records rest fits split s.place s.stops

  pub frame_is : (n : ℕ) (view : List ℕ) → view ≡ take n (drop at file) → frame_at (take n (drop at file)) ≡ frame_at (seen size at file) → frame_at view ≡ Ok (records, length (frame_bytes records))
  frame_is n view is same = ap frame_at is ∙ same ∙ whole_read (seen size at file) records rest fits split

-- what a window on a log sees
pub seen_is : (reads : Image) (log : Log) (window : Window) → IsOn log window → (at : ℕ) → seen window.size at (reads window.file) ≡ seen log.extent.gate at (reads log.file)
seen_is reads log window on at = ap (λ (n : ℕ). seen n at (reads window.file)) on.size ∙ ap (λ (f : ℕ). seen log.extent.gate at (reads f)) on.file

-- the frame at a place
pub record NextFrame (file : List ℕ) (frames before : List (List Record)) (at room : ℕ) : Type 0 where
  pub records : List Record
  pub more : List (List Record)
  pub frames_are : frames ≡ before ++ records ∷ more
  pub fits : IsFrameable records
  pub split : take room (drop at file) ≡ frame_bytes records ++ spelled more

module _ (reads : Image) (images : Image → Type 0) (log : Log) (place : Place) (frames before : List (List Record)) (h : HasPlace reads images log place frames before) where
  lengths : log.extent.gate ≡ place.byte + length (spelled h.stands.behind)
  lengths =
      omega (arith, h.opened.extent.gate, h.stands.byte, ap (λ (fs : List (List Record)). length (spelled fs)) h.stands.front, ap length (spelled-append before h.stands.behind), length-append (spelled before) (spelled h.stands.behind))

  -- nothing stands behind the end
  pub at_end : log.extent.gate ≤ place.byte → before ≡ frames
  at_end le =
      let none : h.stands.behind ≡ [] = no_frames h.stands.behind (omega (arith, lengths, some_bytes h.stands.behind)) in
      sym (h.stands.front ∙ ap (λ (l : List (List Record)). before ++ l) none ∙ append-nil before)

  pub next_frame : place.byte < log.extent.gate → NextFrame (reads log.file) frames before (place.byte + 1) (log.extent.gate - (place.byte + 1))
  next_frame lt = chosen h.stands.behind refl
    where
      chosen : (behind : List (List Record)) → h.stands.behind ≡ behind → NextFrame (reads log.file) frames before (place.byte + 1) (log.extent.gate - (place.byte + 1))
      chosen [] is = absurd (omega (arith, lengths, ap (λ (fs : List (List Record)). length (spelled fs)) is, lt))
      chosen (f ∷ more) is =
          let are : frames ≡ before ++ f ∷ more = h.stands.front ∙ ap (λ (l : List (List Record)). before ++ l) is in
          let whole : reads log.file ≡ (spelled before ++ 0x4F ∷ []) ++ ((frame_bytes f ++ spelled more) ++ h.opened.gate ∷ []) =
          h.opened.bytes ∙ ap (λ (fs : List (List Record)). spelled fs ++ h.opened.gate ∷ []) are
          ∙ ap (λ (l : List ℕ). l ++ h.opened.gate ∷ []) (spelled-append before (f ∷ more))
          ∙ append_assoc (spelled before) (0x4F ∷ (frame_bytes f ++ spelled more)) (h.opened.gate ∷ [])
          ∙ sym (append_assoc (spelled before) (0x4F ∷ []) ((frame_bytes f ++ spelled more) ++ h.opened.gate ∷ [])) in
          let behind : drop (place.byte + 1) (reads log.file) ≡ (frame_bytes f ++ spelled more) ++ h.opened.gate ∷ [] =
          ap (λ (l : List ℕ). drop (place.byte + 1) l) whole
          ∙ drop_at (spelled before ++ 0x4F ∷ []) ((frame_bytes f ++ spelled more) ++ h.opened.gate ∷ []) (place.byte + 1) (omega (arith, h.stands.byte, length-append (spelled before) (0x4F ∷ []))) in
          let size : length (frame_bytes f ++ spelled more) ≡ log.extent.gate - (place.byte + 1) = omega (arith, lengths, ap (λ (fs : List (List Record)). length (spelled fs)) is) in
          record {
            records = f;
            more = more;
            frames_are = are;
            fits = (all_back IsFrameable before (f ∷ more) (subst (λ (fs : List (List Record)). AllByRecursion IsFrameable fs) are h.opened.extent.frameable)).0;
            split = ap (λ (l : List ℕ). take (log.extent.gate - (place.byte + 1)) l) behind ∙ take_at (frame_bytes f ++ spelled more) (h.opened.gate ∷ []) (log.extent.gate - (place.byte + 1)) size;
          }

  -- the place behind it
  pub next_is : (f : NextFrame (reads log.file) frames before (place.byte + 1) (log.extent.gate - (place.byte + 1))) (records : List Record) (used : ℕ) (next : Place) → records ≡ f.records → used ≡ length (frame_bytes f.records)
      → next.byte ≡ place.byte + 1 + used → (place.index + length records < 2 ^ 64 → next.index ≡ place.index + length records) → StandsBehind frames (before ++ records ∷ []) next
  next_is f records used next same long byte index =
      let joined_are : length (joined frames) ≡ length (joined before) + (length f.records + length (joined f.more)) =
      omega (arith, ap (λ (fs : List (List Record)). length (joined fs)) f.frames_are, ap length (joined-append before (f.records ∷ f.more)), length-append (joined before) (joined (f.records ∷ f.more)), length-append f.records (joined f.more)) in
      let counted : log.extent.count ≤ log.extent.gate = log.extent.counted in
      let small : log.extent.gate < 2 ^ 62 = log.extent.small in
      let fits : place.index + length records < 2 ^ 64 = omega (arith, joined_are, h.stands.index, h.opened.extent.count, ap length same) in
      record {
        behind = f.more;
        front = f.frames_are ∙ ap (λ (rs : List Record). before ++ rs ∷ f.more) (sym same) ∙ sym (append_assoc before (records ∷ []) f.more);
        byte = omega (arith, byte, long, h.stands.byte, ap length (spelled-push before records), length-append (spelled before) (0x4F ∷ frame_bytes records), ap (λ (rs : List Record). length (frame_bytes rs)) same);
        index = omega (arith, index fits, h.stands.index, ap length (joined-push before records), length-append (joined before) records);
      }

-- a log stays open where nothing was written
pub open_still : (old new : Image) (before after : Image → Type 0) (log log' : Log) (frames : List (List Record)) → new ≡ old → ((c : Image) → after c → before c) → log'.file ≡ log.file → log'.extent ≡ log.extent → IsOpen old before log frames → IsOpen new after log' frames
open_still old new before after log log' frames same keeps file extent h = record {
  gate = h.gate;
  bytes = ap new file ∙ ap (λ (i : Image). i log.file) same ∙ h.bytes;
  closed = h.closed;
  extent = subst (λ (e : Extent). IsExtent e frames) (sym extent) h.extent;
  durable = λ c now. ap c file ∙ h.durable c (keeps c now) ∙ sym (ap new file ∙ ap (λ (i : Image). i log.file) same);
}
