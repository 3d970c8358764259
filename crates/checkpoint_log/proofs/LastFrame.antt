-- The last frame of a log.
use Rattle.std.proofs.Common.{ℕ, ◌≡◌, ◌+◌, ◌<◌, ◌^◌, inl, inr, List, [], ◌∷◌, ◌++◌, length, drop, Some, None, refl, sym, ◌∙◌, ap, arith, append_assoc, length-append}
use Rattle.std.proofs.lemmas.List.{drop_at}
use Rattle.samza_model.specs.declared.messages.Record.{Record}
use Rattle.samza_model.specs.declared.checkpoints.Checkpoint.{Checkpoint}
use Rattle.samza_model.specs.Files.{Image}
use Rattle.samza_model.specs.Logs.{spelled}
use Rattle.samza_model.specs.Restored.{EndsWith}
use Rattle.topic_log.specs.declared.extents.Place.{Place}
use Rattle.topic_log.specs.declared.logs.Log.{Log}
use Rattle.topic_log.specs.Batches.{HasPlace, IsNext}
use Rattle.topic_log.specs.Extents.{IsLast, StandsBehind}
use Rattle.topic_log.specs.Opened.{IsOpen, count_of}
use Rattle.topic_log.proofs.Laws.{spelled-append}
use Rattle.checkpoint_log.specs.Ends.{IsAlone, IsEnd, IsBadEnd}

-- two lists that begin with the same one
same_back : {X : Type 0} (front xs ys : List X) → front ++ xs ≡ front ++ ys → xs ≡ ys
same_back front xs ys e = sym (drop_at front xs (length front) refl) ∙ ap (λ l. drop (length front) l) e ∙ drop_at front ys (length front) refl

-- the last element of two ways to split a list
same_last : {X : Type 0} (xs ys : List X) (x y : X) → xs ++ x ∷ [] ≡ ys ++ y ∷ [] → x ≡ y
same_last xs ys x y e =
    let long : length xs ≡ length ys = omega (arith, ap length e, length-append xs (x ∷ []), length-append ys (y ∷ [])) in
    let same : x ∷ [] ≡ y ∷ [] = sym (drop_at xs (x ∷ []) (length xs) refl) ∙ ap (λ l. drop (length xs) l) e ∙ drop_at ys (y ∷ []) (length xs) (sym long) in
    cc

module _ (reads : Image) (images : Image → Type 0) (log : Log) (frames : List (List Record)) (h : IsOpen reads images log frames) (place : Place) (is : IsLast frames place) where
  some_next : IsNext frames is.before None → ⊥
  some_next none = absurd (omega (arith, ap length none, ap length is.front, length-append is.before (is.batch ∷ [])))

  pub byte_small : place.byte + 1 < 2 ^ 62 + 1
  byte_small =
      let small : log.extent.gate < 2 ^ 62 = log.extent.small in
      omega (arith, h.extent.gate, is.stands.byte, ap (λ (fs : List (List Record)). length (spelled fs)) is.front, ap length (spelled-append is.before (is.batch ∷ [])), length-append (spelled is.before) (spelled (is.batch ∷ [])))

  batch_is : (records : List Record) (next : Place) → IsNext frames is.before (Some (records, next)) → records ≡ is.batch
  batch_is records next n =
      let same : records ∷ n.behind ≡ is.batch ∷ [] = same_back is.before (records ∷ n.behind) (is.batch ∷ []) (sym (append_assoc is.before (records ∷ []) n.behind) ∙ sym n.front ∙ is.front) in
      cc

  pub ends_with : (records : List Record) (next : Place) (k : Checkpoint) → IsNext frames is.before (Some (records, next)) → IsAlone records (count_of log) k → EndsWith frames k
  ends_with records next k n a = record {
    before = is.before;
    last = a.alone;
    split = is.front ∙ ap (λ (l : List Record). is.before ++ l ∷ []) (sym (batch_is records next n) ∙ a.records_are);
    spells = a.stands_for;
    id = a.id ∙ h.extent.count;
  }

  pub bad_end : (records : List Record) (next : Place) (at : ℕ) → IsNext frames is.before (Some (records, next)) → at ≡ place.byte + 1 → ((k : Checkpoint) → IsAlone records (count_of log) k → ⊥) → IsBadEnd frames at
  bad_end records next at n at_is bad = record {
    before = is.before;
    last = is.batch;
    split = is.front;
    at_is = at_is ∙ ap (λ b. b + 1) is.stands.byte;
    bad = λ k e. bad k (record {
      alone = e.last;
      records_are = batch_is records next n ∙ same_last is.before e.before is.batch (e.last ∷ []) (sym is.front ∙ e.split);
      stands_for = e.spells;
      id = e.id ∙ sym h.extent.count;
    });
  }

-- the frames before the end
abbrev pub before_of : (frames : List (List Record)) (place : Place) → IsEnd frames place → List (List Record)
before_of frames place (inl is) = is.before
before_of frames place (inr none) = []

before_end : (frames : List (List Record)) (place : Place) (end : IsEnd frames place) → StandsBehind frames (before_of frames place end) place
before_end frames place (inl is) = is.stands
before_end frames place (inr none) = none.1

pub has_place : (reads : Image) (images : Image → Type 0) (log : Log) (frames : List (List Record)) → IsOpen reads images log frames → (place : Place) (end : IsEnd frames place) → HasPlace reads images log place frames (before_of frames place end)
has_place reads images log frames h place end = record { opened = h; stands = before_end frames place end }

-- where nothing stands at the end there is no frame
pub none_at_end : (reads : Image) (images : Image → Type 0) (log : Log) (frames : List (List Record)) → IsOpen reads images log frames → (place : Place) (end : IsEnd frames place) → IsNext frames (before_of frames place end) None → frames ≡ []
none_at_end reads images log frames h place (inl is) next = absurd (some_next reads images log frames h place is next)
none_at_end reads images log frames h place (inr none) next = none.0

-- what stands at the end is the last frame
pub last_at_end : (frames : List (List Record)) (place : Place) (end : IsEnd frames place) (records : List Record) (next : Place) → IsNext frames (before_of frames place end) (Some (records, next)) → (is : IsLast frames place) × IsNext frames is.before (Some (records, next))
last_at_end frames place (inl is) records next n = (is, n)
last_at_end frames place (inr none) records next n = absurd (omega (arith, ap length none.0, ap length n.front, length-append (records ∷ []) n.behind))

-- the same records and the same number
pub alone_is : (shown records : List Record) (n count : ℕ) (k : Checkpoint) → shown ≡ records → n ≡ count → IsAlone shown n k → IsAlone records count k
alone_is shown records n count k same counted a = record { alone = a.alone; records_are = sym same ∙ a.records_are; stands_for = a.stands_for; id = a.id ∙ counted }
