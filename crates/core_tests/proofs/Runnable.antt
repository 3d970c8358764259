-- A core of one input, one store and one output can be made.
use Rattle.std.proofs.Common.{ℕ, zero, suc, ◌≡◌, ◌<◌, ◌≤◌, ◌∙◌, List, [], ◌∷◌, length, map, true, refl, is_some, cond, ap, sym, subst, arith, get_or, slice_index_or}
use Rattle.std.specs.List.{AllByRecursion}
use Rattle.std.specs.Ordering.{nat_cmp}
use Rattle.std.specs.Cmp.Lexicographic.{slice_cmp}
use Rattle.std.specs.FinMap as fin
use Rattle.samza_model.specs.declared.checkpoints.Checkpoint.{Checkpoint}
use Rattle.samza_model.specs.declared.checkpoints.InputMark.{InputMark}
use Rattle.samza_model.specs.declared.checkpoints.StoreMark.{StoreMark}
use Rattle.samza_model.specs.declared.setups.Setup.{Setup}
use Rattle.samza_model.specs.declared.setups.InputSetup.{InputSetup}
use Rattle.samza_model.specs.declared.setups.StoreSetup.{StoreSetup}
use Rattle.samza_model.specs.Checkpoint.{IsWellFormed, FitsInput, are_distinct, inputs_rise, stores_rise}
use Rattle.samza_model.specs.Content.{Content, nothing_stored}
use Rattle.samza_model.specs.Names.{is_system, is_topic, topic_of}
use Rattle.samza_model.specs.Restored.{IsNamed, marked_place, setup_names, setup_place}
use Rattle.kv_store.specs.Tracked.{AreWithinLimits}

-- a list of which a map makes one item
one_of : {X Y : Type 0} (f : X → Y) (xs : List X) (y : Y) → map f xs ≡ y ∷ [] → (x : X) × (xs ≡ x ∷ []) × (f x ≡ y)
one_of f [] y e = absurd (omega (arith, ap length e))
one_of f (x ∷ []) y e = (x, refl, ap (λ ys. get_or ys 0 y) e)
one_of f (x ∷ x' ∷ xs) y e = absurd (omega (arith, ap length e))

formed : (k : Checkpoint) (i : InputMark) (t : StoreMark) (o : List ℕ)
    → k.inputs ≡ i ∷ [] → k.stores ≡ t ∷ [] → k.outputs ≡ o ∷ []
    → is_topic i.stream ≡ true → i.partition < 256 → is_system t.name ≡ true → is_topic o ≡ true → IsWellFormed k
formed k i t o is ts os topic small name output = record {
  few_inputs = omega (arith, ap length is);
  few_stores = omega (arith, ap length ts);
  few_outputs = omega (arith, ap length os);
  each_input = subst (λ xs. AllByRecursion FitsInput xs) (sym is) (record { name = topic; partition = small }, tt);
  each_store = subst (λ (xs : List StoreMark). AllByRecursion (λ s. is_system s.name ≡ true) xs) (sym ts) (name, tt);
  each_output = subst (λ xs. AllByRecursion (λ x. is_topic x ≡ true) xs) (sym os) (output, tt);
  inputs_rise = ap inputs_rise is;
  stores_rise = ap stores_rise ts;
  outputs_distinct = ap are_distinct os;
}

module _ (s : Setup) (i : InputSetup) (t : StoreSetup) (o : List ℕ) (is : s.inputs ≡ i ∷ []) (ts : s.stores ≡ t ∷ []) (os : s.outputs ≡ o ∷ [])
    (topic : is_topic (topic_of i.ssp) ≡ true) (small : i.ssp.partition ≡ 0) (name : is_system t.name ≡ true) (output : is_topic o ≡ true) where
  pub spelled : (k : Checkpoint) → IsNamed s k → IsWellFormed k
  spelled k named =
      let input = one_of marked_place k.inputs (setup_place i) (named.inputs ∙ ap (λ xs. map setup_place xs) is) in
      let store = one_of (λ (m : StoreMark). m.name) k.stores t.name (named.stores ∙ ap setup_names ts) in
      formed k input.0 store.0 o input.1 store.1 (named.outputs ∙ os)
      (ap (λ (p : List ℕ × ℕ). is_topic p.0) input.2 ∙ topic)
      (omega (arith, ap (λ (p : List ℕ × ℕ). p.1) input.2, small))
      (ap is_system store.2 ∙ name) output

pub batches : (stores : List StoreSetup) (t : StoreSetup) → stores ≡ t ∷ [] → t.batch ≡ 16 → AllByRecursion (λ (x : StoreSetup). (1 ≤ x.batch) × (x.batch ≤ 4096)) stores
batches stores t e batch = subst (λ (xs : List StoreSetup). AllByRecursion (λ x. (1 ≤ x.batch) × (x.batch ≤ 4096)) xs) (sym e) ((omega (arith, batch), omega (arith, batch)), tt)

nothing_within : AreWithinLimits nothing_stored
nothing_within q v e = absurd (subst (λ o. cond (is_some o) (Unit {0}) ⊥) (sym e ∙ fin.get-empty (slice_cmp nat_cmp) q) tt)

nothing_at : (d : Content) (j : ℕ) → j < length (nothing_stored ∷ []) → AreWithinLimits (slice_index_or (nothing_stored ∷ []) j d)
nothing_at d zero l = nothing_within
nothing_at d (suc j) l = absurd (omega (arith, l))

-- each store of one in which nothing is stored
pub blank : (tables : List Content) (t : Content) → tables ≡ t ∷ [] → t ≡ nothing_stored
    → (k : ℕ) (d : Content) → k < length tables → AreWithinLimits (slice_index_or tables k d)
blank tables t e none k d lt =
    subst (λ (ts : List Content). k < length ts → AreWithinLimits (slice_index_or ts k d)) (sym (e ∙ ap (λ x. x ∷ []) none)) (nothing_at d k) lt
