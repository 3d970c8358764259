-- The status of a command before anything is printed.
use Rattle.std.specs.Prelude.{ℕ, Result, Ok, Err}
use Rattle.container_texts.specs.declared.faults.RunFault.{RunFault}
use Rattle.container_texts.specs.declared.faults.Stopped.{Stopped}
use Rattle.container_texts.specs.Statuses.{status_of}

abbrev pub stops_with : {A : Type 0} → Result A Stopped → ℕ
stops_with (Ok x) = 0
stops_with (Err s) = status_of s.fault

-- what a command answers of its task
abbrev pub answered : {A : Type 0} → Result A Stopped → Result A RunFault
answered (Ok x) = Ok x
answered (Err s) = Err s.fault
