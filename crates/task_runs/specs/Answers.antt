-- What a run answers of its unit, by how it stopped.
use Rattle.std.specs.Prelude.{ℕ, ◌≡◌, Some, Result, Ok, Err}
use Rattle.unit_steps.specs.Units.{UnitValue}
use Rattle.run_loop.specs.declared.stops.Stop.{Stop}
use Rattle.run_loop.specs.declared.stops.Stop.TheVariants.{Ended, Asked, Failed, Device, Limit, NoMemory}
use Rattle.container_texts.specs.UnitReports.{ReportsUnit}
use Rattle.container_texts.specs.declared.faults.RunFault.{RunFault}
use Rattle.container_texts.specs.declared.faults.RunFault.TheVariants.{Failed as FailedFault, Device as DeviceFault, Limit as LimitFault, NoMemory as NoRoom}
use Rattle.container_texts.specs.declared.reports.TaskReport.{TaskReport}

abbrev pub IsEnd : Stop → Type 0
IsEnd Ended = Unit {0}
IsEnd Asked = Unit {0}
IsEnd stop = ⊥

-- memory was refused, to the run or to its report
abbrev pub IsRefused : Stop → Type 0
IsRefused Ended = Unit {0}
IsRefused Asked = Unit {0}
IsRefused NoMemory = Unit {0}
IsRefused stop = ⊥

abbrev pub IsFailure : Stop → Type 0
IsFailure (Failed unit) = Unit {0}
IsFailure stop = ⊥

abbrev pub Says : {P D S : Type 0} → UnitValue P D S → Stop → Result TaskReport RunFault → Type 0
Says u stop (Ok report) = IsEnd stop × ReportsUnit u report
Says u stop (Err (FailedFault f)) = IsFailure stop × (u.core.failed ≡ Some f)
Says u stop (Err DeviceFault) = stop ≡ Device
Says u stop (Err LimitFault) = stop ≡ Limit
Says u stop (Err NoRoom) = IsRefused stop
Says u stop (Err e) = ⊥
