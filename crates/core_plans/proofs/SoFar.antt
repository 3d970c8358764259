-- What a commit is going to append, made for the first so many stores, outputs or inputs.
use Rattle.std.proofs.Common.{ℕ, ◌≡◌, ◌<◌, ◌≤◌, ◌+◌, List, [], ◌∷◌, ◌++◌, length, get_or, take, map, sym, ap, subst, arith, ⊎_elim, ◌∙◌}
use Rattle.std.proofs.lemmas.Bool.{cases_lt}
use Rattle.std.proofs.lemmas.List.{get_or_append_left, get_or_push, length_push, map-append, take_more}
use Rattle.samza_model.specs.declared.messages.Record.{Record}
use Rattle.samza_model.specs.declared.checkpoints.InputMark.{InputMark}
use Rattle.samza_model.specs.declared.checkpoints.StoreMark.{StoreMark}
use Rattle.samza_model.specs.declared.setups.InputSetup.{InputSetup}
use Rattle.samza_model.specs.declared.setups.StoreSetup.{StoreSetup}
use Rattle.samza_model.specs.Content.{sent_at}
use Rattle.samza_model.specs.Restored.{mark_names, marked_place, setup_names, setup_place}
use Rattle.kv_store.specs.Tracked.{Tracked}
use Rattle.log_frame.specs.Frame.{FrameView}
use Rattle.core_steps.specs.Held.{tracked_at}
use Rattle.core_plans.specs.Plans.{batch_at, mark_at, next_of_mark, LogsSends, PlansStore}

-- the frames of the first n outputs are made
pub record SendsSoFar (unsent : List (List Record)) (n : ℕ) (frames : List (List FrameView)) : Type 0 where
  pub frames_are : length frames ≡ n
  pub each : (j : ℕ) → j < n → LogsSends (sent_at unsent j) (get_or frames j [])

-- the frames and marks of the first n stores are made
pub record StoresSoFar (setups : List StoreSetup) (lens : List ℕ) (stores : List Tracked) (n : ℕ) (frames : List (List FrameView)) (marks : List StoreMark) : Type 0 where
  pub frames_are : length frames ≡ n
  pub marks_are : length marks ≡ n
  pub names_are : mark_names marks ≡ setup_names (take n setups)
  pub each : (i : ℕ) → i < n → PlansStore (batch_at setups i) (tracked_at stores i) (get_or lens i 0) (get_or frames i []) (mark_at marks i)

-- the marks of the first n inputs are made
pub record InputsSoFar (inputs : List InputSetup) (nexts : List ℕ) (n : ℕ) (marks : List InputMark) : Type 0 where
  pub marks_are : length marks ≡ n
  pub places_are : map marked_place marks ≡ map setup_place (take n inputs)
  pub each : (p : ℕ) → p < n → next_of_mark marks p ≡ get_or nexts p 0

abbrev pub no_store : StoreSetup
no_store = record { name = []; cache = 1; batch = 1 }

module _ (setups : List StoreSetup) (lens : List ℕ) (stores : List Tracked) (n : ℕ) (frames : List (List FrameView)) (marks : List StoreMark) (more : List FrameView) (mark : StoreMark)
    (h : StoresSoFar setups lens stores n frames marks) where
  each_more : PlansStore (batch_at setups n) (tracked_at stores n) (get_or lens n 0) more mark.count
      → (i : ℕ) → i < n + 1 → PlansStore (batch_at setups i) (tracked_at stores i) (get_or lens i 0) (get_or (frames ++ more ∷ []) i []) (mark_at (marks ++ mark ∷ []) i)
  each_more here i lt =
      let plans : ℕ → List FrameView → StoreMark → Type 0 = λ (k : ℕ) (fs : List FrameView) (m : StoreMark). PlansStore (batch_at setups k) (tracked_at stores k) (get_or lens k 0) fs m.count in
      ⊎_elim
      (λ (l : i < n).
      subst (λ (fs : List FrameView). plans i fs (get_or (marks ++ mark ∷ []) i (record { name = []; count = 0 }))) (sym (get_or_append_left frames (more ∷ []) [] i (subst (λ k. i < k) (sym h.frames_are) l)))
      (subst (λ (m : StoreMark). plans i (get_or frames i []) m) (sym (get_or_append_left marks (mark ∷ []) (record { name = []; count = 0 }) i (subst (λ k. i < k) (sym h.marks_are) l))) (h.each i l)))
      (λ (ge : n ≤ i).
      let e : n ≡ i = omega arith in
      subst (λ (k : ℕ). plans k (get_or (frames ++ more ∷ []) k []) (get_or (marks ++ mark ∷ []) k (record { name = []; count = 0 }))) e
      (subst (λ (fs : List FrameView). plans n fs (get_or (marks ++ mark ∷ []) n (record { name = []; count = 0 }))) (sym (get_or_push frames more [] n h.frames_are))
      (subst (λ (m : StoreMark). plans n more m) (sym (get_or_push marks mark (record { name = []; count = 0 }) n h.marks_are)) here)))
      (cases_lt i n)

  -- one store more
  pub store_more : n < length setups → mark.name ≡ (get_or setups n no_store).name
      → PlansStore (batch_at setups n) (tracked_at stores n) (get_or lens n 0) more mark.count
      → StoresSoFar setups lens stores (n + 1) (frames ++ more ∷ []) (marks ++ mark ∷ [])
  store_more lt name here = record {
    frames_are = length_push frames more ∙ ap (λ k. k + 1) h.frames_are;
    marks_are = length_push marks mark ∙ ap (λ k. k + 1) h.marks_are;
    names_are =
        map-append (λ (m : StoreMark). m.name) marks (mark ∷ [])
        ∙ ap (λ (l : List (List ℕ)). l ++ mark.name ∷ []) h.names_are
        ∙ ap (λ (x : List ℕ). setup_names (take n setups) ++ x ∷ []) name
        ∙ sym (map-append (λ (t : StoreSetup). t.name) (take n setups) (get_or setups n no_store ∷ []))
        ∙ sym (ap setup_names (take_more setups n no_store lt));
    each = each_more here;
  }
