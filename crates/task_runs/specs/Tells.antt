-- What a task's fault tells on every outside, also on one that doesn't tell its bytes.
use Rattle.std.specs.Prelude.{ℕ, ◌≡◌, Some}
use Rattle.samza_model.specs.declared.setups.Setup.{Setup}
use Rattle.history_laws.specs.Fails.{IsNotExpired}
use Rattle.unit_opening.specs.Refused.{TellsTask}
use Rattle.container_texts.specs.declared.faults.RunFault.{RunFault}
use Rattle.container_texts.specs.declared.faults.RunFault.TheVariants.{Device, NotOpened, Failed, Limit, NoMemory}

-- A fault of a task with this setup, once its disk and its input are at hand: a file or a store that it has, or an offset of its input,
-- of which no time ran out.
abbrev pub TellsOf : Setup → RunFault → Type 0
TellsOf s Device = Unit {0}
TellsOf s (NotOpened e) = TellsTask s e
TellsOf s (Failed f) = ((offset : ℕ) × (f.place ≡ Some (0, offset))) × IsNotExpired f.why
TellsOf s Limit = Unit {0}
TellsOf s NoMemory = Unit {0}
TellsOf s e = ⊥
