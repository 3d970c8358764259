-- A setup for which a checkpoint with its names has a spelling has no more stores and outputs than a checkpoint.
use Rattle.std.proofs.Common.{◌≡◌, ◌≤◌, List, [], ◌∷◌, length, map, refl, ap, arith}
use Rattle.std.proofs.lemmas.List.{length-map}
use Rattle.samza_model.specs.declared.setups.Setup.{Setup}
use Rattle.samza_model.specs.declared.setups.InputSetup.{InputSetup}
use Rattle.samza_model.specs.declared.setups.StoreSetup.{StoreSetup}
use Rattle.samza_model.specs.declared.checkpoints.InputMark.{InputMark}
use Rattle.samza_model.specs.declared.checkpoints.StoreMark.{StoreMark}
use Rattle.samza_model.specs.declared.checkpoints.Checkpoint.{Checkpoint}
use Rattle.samza_model.specs.Checkpoint.{IsWellFormed}
use Rattle.samza_model.specs.Limits.{store_limit, output_limit}
use Rattle.samza_model.specs.Names.{topic_of}
use Rattle.samza_model.specs.Restored.{mark_names, marked_place, setup_names, setup_place}
use Rattle.core_steps.specs.Setups.{IsCommittable}

-- a checkpoint with the setup's names, that covers and counts nothing
abbrev input_mark : InputSetup → InputMark
input_mark i = record { stream = topic_of i.ssp; partition = i.ssp.partition; next = 0 }

abbrev store_mark : StoreSetup → StoreMark
store_mark t = record { name = t.name; count = 0 }

abbrev named_mark : Setup → Checkpoint
named_mark s = record { id = 0; inputs = map input_mark s.inputs; stores = map store_mark s.stores; outputs = s.outputs }

inputs_named : (inputs : List InputSetup) → map marked_place (map input_mark inputs) ≡ map setup_place inputs
inputs_named [] = refl
inputs_named (i ∷ is) = ap (λ rest. setup_place i ∷ rest) (inputs_named is)

stores_named : (stores : List StoreSetup) → mark_names (map store_mark stores) ≡ setup_names stores
stores_named [] = refl
stores_named (t ∷ ts) = ap (λ rest. t.name ∷ rest) (stores_named ts)

formed : (s : Setup) → IsCommittable s → IsWellFormed (named_mark s)
formed s committable = committable.spelled (named_mark s) (record { inputs = inputs_named s.inputs; stores = stores_named s.stores; outputs = refl })

pub few_stores : (s : Setup) → IsCommittable s → length s.stores ≤ store_limit
few_stores s committable = omega (arith, (formed s committable).few_stores, length-map s.stores store_mark)

pub few_outputs : (s : Setup) → IsCommittable s → length s.outputs ≤ output_limit
few_outputs s committable = (formed s committable).few_outputs
