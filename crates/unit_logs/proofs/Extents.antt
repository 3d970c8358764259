-- How far the first logs reach once their frames are appended.
use Rattle.std.proofs.Common.{ℕ, ◌≡◌, ◌<◌, ◌≤◌, ◌+◌, List, [], ◌∷◌, ◌++◌, length, get_or, sym, subst, arith, ⊎_elim}
use Rattle.std.proofs.lemmas.Bool.{cases_lt}
use Rattle.std.proofs.lemmas.List.{get_or_append_left, get_or_push, length_push}
use Rattle.log_frame.specs.Frame.{FrameView}
use Rattle.topic_log.specs.declared.extents.Extent.{Extent}
use Rattle.topic_log.specs.declared.logs.Log.{Log}
use Rattle.topic_log.specs.Planning.{ReachesBy}
use Rattle.unit_logs.specs.Room.{HaveRoom, EachReaches}

-- of the first n logs it is known
pub record ReachSoFar (logs : List Log) (frames : List (List FrameView)) (n : ℕ) (extents : List Extent) : Type 0 where
  pub as_many : length extents ≡ n
  pub each : (i : ℕ) (d : Log) (e : Extent) → i < n → ReachesBy (get_or logs i d) (get_or frames i []) (get_or extents i e)

-- of one log more
pub reach_more : (logs : List Log) (frames : List (List FrameView)) (n : ℕ) (extents : List Extent) (extent : Extent) → ReachSoFar logs frames n extents
    → ((d : Log) → ReachesBy (get_or logs n d) (get_or frames n []) extent) → ReachSoFar logs frames (n + 1) (extents ++ extent ∷ [])
reach_more logs frames n extents extent h here = record {
  as_many = omega (arith, length_push extents extent, h.as_many);
  each = λ i d e lt. ⊎_elim
      (λ (l : i < n).
      subst (λ (x : Extent). ReachesBy (get_or logs i d) (get_or frames i []) x) (sym (get_or_append_left extents (extent ∷ []) e i (subst (λ k. i < k) (sym h.as_many) l))) (h.each i d e l))
      (λ (ge : n ≤ i).
      let is : n ≡ i = omega arith in
      subst (λ (k : ℕ). ReachesBy (get_or logs k d) (get_or frames k []) (get_or (extents ++ extent ∷ []) k e)) is
      (subst (λ (x : Extent). ReachesBy (get_or logs n d) (get_or frames n []) x) (sym (get_or_push extents extent e n h.as_many)) (here d)))
      (cases_lt i n);
}

-- logs that reach so far have room
pub have_room : (logs : List Log) (frames : List (List FrameView)) (extents : List Extent) → EachReaches logs frames extents → HaveRoom logs frames
have_room logs frames extents h i d lt = (h.each i d d.extent lt).room
