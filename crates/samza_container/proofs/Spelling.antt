-- A configuration of which all is built sets up a task that is opened.
use Rattle.std.proofs.Common.{ℕ, ◌≡◌, ◌≢◌, ◌<◌, ◌≤◌, ◌^◌, Bool, true, false, is_some, true≢false, codes, cond, nat_lt, List, [], ◌∷◌, length, map, Option, Some, None, Result, Ok, Err, IfOk, Ordering, sym, subst, ap, ◌∙◌, refl, arith}
use Rattle.std.proofs.lemmas.Bool.Decides.{nat_tests}
use Rattle.std.proofs.lemmas.List.{length-map}
use Rattle.std.proofs.lemmas.Option.{same_Some}
use Rattle.std.specs.List.{AllByRecursion}
use Rattle.std.specs.List.Sorted.{IsStrictlySortedBy}
use Rattle.std.specs.Ordering.{nat_cmp, is_lt, ordering_then}
use Rattle.samza_model.specs.declared.checkpoints.Checkpoint.{Checkpoint}
use Rattle.samza_model.specs.declared.checkpoints.InputMark.{InputMark}
use Rattle.samza_model.specs.declared.checkpoints.StoreMark.{StoreMark}
use Rattle.samza_model.specs.declared.setups.Setup.{Setup}
use Rattle.samza_model.specs.declared.setups.StoreSetup.{StoreSetup}
use Rattle.samza_model.specs.Checkpoint.{FitsInput, IsWellFormed, inputs_rise, inputs_rise_behind, stores_rise, stores_rise_behind, are_distinct}
use Rattle.samza_model.specs.Names.{is_topic, is_system}
use Rattle.samza_model.specs.Restored.{IsNamed, marked_place, setup_place}
use Rattle.job_config.specs.declared.config.InputConfig.{InputConfig}
use Rattle.job_config.specs.declared.config.JobConfig.{JobConfig}
use Rattle.job_config.specs.Bounds.{AreRising, IsBounded, IsInterval, IsStore, input_name, store_name}
use Rattle.core_steps.specs.Setups.{IsRunnable}
use Rattle.unit_logs.specs.Standing.{IsSetUp}
use Rattle.samza_container.specs.NotBuilt.{first_not_built, is_other_job}
use Rattle.samza_container.specs.SetUp.{input_setup, setup_of}

abbrev IsTopic : List ℕ → Type 0
IsTopic n = is_topic n ≡ true

abbrev IsSystem : List ℕ → Type 0
IsSystem n = is_system n ≡ true

-- an input by its name and partition, and its name
abbrev Place : Type 0
Place = List ℕ × ℕ

abbrev name_of : Place → List ℕ
name_of p = p.0

abbrev FitsPlace : Place → Type 0
FitsPlace p = IsTopic p.0 × (p.1 < 256)

-- the places of inputs, and of marks that have them
places_fit : (inputs : List InputConfig) → AllByRecursion IsTopic (map input_name inputs) → AllByRecursion FitsPlace (map setup_place (map input_setup inputs))
places_fit [] all = tt
places_fit (i ∷ more) all = ((all.0, omega arith), places_fit more all.1)

marks_fit : (marks : List InputMark) → AllByRecursion FitsPlace (map marked_place marks) → AllByRecursion FitsInput marks
marks_fit [] all = tt
marks_fit (i ∷ more) all = (record { name = all.0.0; partition = all.0.1 }, marks_fit more all.1)

named_places : (inputs : List InputConfig) → map name_of (map setup_place (map input_setup inputs)) ≡ map input_name inputs
named_places [] = refl
named_places (i ∷ more) = ap (λ (names : List (List ℕ)). input_name i ∷ names) (named_places more)

-- marks whose names rise
inputs_rise_from : (last : InputMark) (marks : List InputMark) → AreRising (map name_of (map marked_place (last ∷ marks))) → inputs_rise_behind last marks ≡ true
unfolding IsStrictlySortedBy
inputs_rise_from last [] rise = refl
inputs_rise_from last (x ∷ xs) rise =
    ap (λ (o : Ordering). cond (is_lt (ordering_then o (nat_cmp last.partition x.partition))) (inputs_rise_behind x xs) false) rise.0.0 ∙ inputs_rise_from x xs rise.1

inputs_rise_by : (marks : List InputMark) → AreRising (map name_of (map marked_place marks)) → inputs_rise marks ≡ true
inputs_rise_by [] rise = refl
inputs_rise_by (x ∷ xs) rise = inputs_rise_from x xs rise

abbrev mark_name : StoreMark → List ℕ
mark_name m = m.name

stores_rise_from : (last : StoreMark) (marks : List StoreMark) → AreRising (map mark_name (last ∷ marks)) → stores_rise_behind last marks ≡ true
unfolding IsStrictlySortedBy
stores_rise_from last [] rise = refl
stores_rise_from last (x ∷ xs) rise = ap (λ (o : Ordering). cond (is_lt o) (stores_rise_behind x xs) false) rise.0.0 ∙ stores_rise_from x xs rise.1

stores_rise_by : (marks : List StoreMark) → AreRising (map mark_name marks) → stores_rise marks ≡ true
stores_rise_by [] rise = refl
stores_rise_by (x ∷ xs) rise = stores_rise_from x xs rise

-- stores' names, and marks that have them
names_spelled : (stores : List StoreSetup) → AllByRecursion IsStore stores → AllByRecursion IsSystem (map store_name stores)
names_spelled [] all = tt
names_spelled (t ∷ more) all = (all.0.name, names_spelled more all.1)

marks_spelled : (marks : List StoreMark) → AllByRecursion IsSystem (map mark_name marks) → AllByRecursion (λ m. IsSystem m.name) marks
marks_spelled [] all = tt
marks_spelled (m ∷ more) all = (all.0, marks_spelled more all.1)

batched : (stores : List StoreSetup) → AllByRecursion IsStore stores → AllByRecursion (λ t. (1 ≤ t.batch) × (t.batch ≤ 4096)) stores
batched [] all = tt
batched (t ∷ more) all = (all.0.batch, batched more all.1)

-- a checkpoint with a configuration's names has a spelling
module _ (c : JobConfig) (bounded : IsBounded c) (k : Checkpoint) (named : IsNamed (setup_of c) k) where
  as_many_inputs : length k.inputs ≡ length (map input_name c.inputs)
  as_many_inputs = omega (arith, length-map k.inputs marked_place, ap length named.inputs, length-map (map input_setup c.inputs) setup_place, length-map c.inputs input_setup, length-map c.inputs input_name)

  as_many_stores : length k.stores ≡ length c.stores
  as_many_stores = omega (arith, length-map k.stores mark_name, ap length named.stores, length-map c.stores store_name)

  input_names : map name_of (map marked_place k.inputs) ≡ map input_name c.inputs
  input_names = ap (map name_of) named.inputs ∙ named_places c.inputs

  named_well : IsWellFormed k
  named_well = record {
    few_inputs = omega (arith, as_many_inputs, bounded.inputs.few);
    few_stores = omega (arith, as_many_stores, bounded.stores.few);
    few_outputs = omega (arith, ap length named.outputs, bounded.outputs.few);
    each_input = marks_fit k.inputs (subst (AllByRecursion FitsPlace) (sym named.inputs) (places_fit c.inputs bounded.inputs.each));
    each_store = marks_spelled k.stores (subst (AllByRecursion IsSystem) (sym named.stores) (names_spelled c.stores bounded.stores.each));
    each_output = subst (AllByRecursion IsTopic) (sym named.outputs) bounded.outputs.each;
    inputs_rise = inputs_rise_by k.inputs (subst AreRising (sym input_names) bounded.inputs_rise);
    stores_rise = stores_rise_by k.stores (subst AreRising (sym named.stores) bounded.stores_rise);
    outputs_distinct = ap are_distinct named.outputs ∙ bounded.outputs_distinct;
  }

-- no row holds, so the first one doesn't
unheld : (b : Bool) (key : List ℕ) (rest : Option (List ℕ)) → cond b (Some key) rest ≡ None → (b ≡ false) × (rest ≡ None)
unheld true key rest none = absurd cc
unheld false key rest none = (refl, none)

at_most_one : (n : ℕ) → nat_lt 1 n ≡ false → n ≤ 1
at_most_one n h = grind (arith, nat_tests, h)

few_inputs : (c : JobConfig) → first_not_built c ≡ None → length c.inputs ≤ 1
unfolding first_not_built
few_inputs c none =
    let past_class = unheld _ _ _ none in
    let inputs = unheld _ _ _ past_class.1 in
    at_most_one (length c.inputs) inputs.0

pub set_up : (c : JobConfig) → IsBounded c → first_not_built c ≡ None → IsSetUp (setup_of c)
set_up c bounded built = record {
  one_input = omega (arith, few_inputs c built, bounded.inputs.some, length-map c.inputs input_name, length-map c.inputs input_setup);
  committable = record { spelled = named_well c bounded; batches = batched c.stores bounded.stores.each };
}

-- such a configuration has no interval of windows
windowless : (c : JobConfig) → first_not_built c ≡ None → c.window_ms ≡ None
unfolding first_not_built
windowless c none =
    let past_class = unheld (is_other_job c.class) (codes "task.class") _ none in
    let past_inputs = unheld (nat_lt 1 (length c.inputs)) (codes "task.inputs") _ past_class.1 in
    let past_containers = unheld (nat_lt 1 c.containers) (codes "job.container.count") _ past_inputs.1 in
    let past_workers = unheld (nat_lt 0 c.workers) (codes "job.container.thread.pool.size") _ past_containers.1 in
    let window = unheld (is_some c.window_ms) (codes "task.window.ms") _ past_workers.1 in
    none_there c.window_ms window.0
  where
    none_there : (o : Option ℕ) → is_some o ≡ false → o ≡ None
    none_there None is = refl
    none_there (Some x) is = absurd (true≢false is)

never_zero : (t : Option ℕ) → IsInterval t → t ≢ Some 0
never_zero None bound is = absurd cc
never_zero (Some n) bound is = by n bound (same_Some n 0 is)
  where
    by : (n : ℕ) → (1 ≤ n) × (n < 2 ^ 63) → n ≡ 0 → ⊥
    by n bound is = omega (arith, bound.0, is)

pub runnable : (c : JobConfig) → IsBounded c → first_not_built c ≡ None → IsRunnable (setup_of c)
runnable c bounded built = record {
  committable = (set_up c bounded built).committable;
  concurrency = bounded.concurrency.0;
  span = omega arith;
  commits = never_zero c.commit_ms bounded.commit;
  windows = never_zero c.window_ms bounded.window;
}

module _ {E : Type 0} (made : Result Setup E) (c : JobConfig) (bounded : IsBounded c) (built : first_not_built c ≡ None) where
  if_made : (r : Result Setup E) (P : Setup → Type 0) → P (setup_of c) → IfOk r (λ s. s ≡ setup_of c) → IfOk r P
  if_made (Ok s) P p is = subst P (sym is) p
  if_made (Err e) P p is = tt

  pub if_set_up : IfOk made (λ s. s ≡ setup_of c) → IfOk made IsSetUp
  if_set_up = if_made made IsSetUp (set_up c bounded built)

  pub if_runnable : IfOk made (λ s. s ≡ setup_of c) → IfOk made IsRunnable
  if_runnable = if_made made IsRunnable (runnable c bounded built)

  pub if_windowless : IfOk made (λ s. s ≡ setup_of c) → IfOk made (λ s. s.window_ms ≡ None)
  if_windowless = if_made made (λ s. s.window_ms ≡ None) (windowless c built)
