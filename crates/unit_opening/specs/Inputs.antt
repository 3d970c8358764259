-- A task's input, and why it isn't read.
use Rattle.std.specs.Prelude.{ℕ, ◌≡◌, ◌<◌, false, List, [], Some, None, slice_index_or}
use Rattle.samza_model.specs.declared.setups.Setup.{Setup}
use Rattle.samza_model.specs.declared.setups.InputSetup.{InputSetup}
use Rattle.samza_model.specs.declared.setups.OffsetDefault.TheVariants.{Oldest}
use Rattle.restore_trim.specs.declared.faults.OpenFault.{OpenFault}
use Rattle.restore_trim.specs.declared.faults.OpenFault.TheVariants.{Device, Damaged, Ahead, NoMemory}
use Rattle.restore_trim.specs.Refused.{IsNoLogAt}

-- the setup's one input
abbrev pub input_of : Setup → InputSetup
input_of s = slice_index_or s.inputs 0 (record { ssp = record { system = []; stream = []; partition = 0 }; fallback = Oldest; reset = false })

-- what a refusal tells of the input, on every outside: its partition's file, or that it ends before the kept offset;
-- beside these the device or want of memory alone
abbrev pub TellsInput : ℕ → OpenFault → Type 0
TellsInput partition Device = Unit {0}
TellsInput partition (Damaged input file at) = (input ≡ Some 0) × (file ≡ partition)
TellsInput partition (Ahead input store wanted held) = (input ≡ Some 0) × (store ≡ None) × (held < wanted)
TellsInput partition NoMemory = Unit {0}
TellsInput partition e = ⊥

-- the input isn't read: the device, want of memory, or its partition's file is no log
abbrev pub WhyNoInput : Type 0 → List ℕ → ℕ → OpenFault → Type 0
WhyNoInput tells bytes partition Device = Unit {0}
WhyNoInput tells bytes partition (Damaged input file at) = (input ≡ Some 0) × (file ≡ partition) × (tells → IsNoLogAt bytes at)
WhyNoInput tells bytes partition NoMemory = Unit {0}
WhyNoInput tells bytes partition e = ⊥
