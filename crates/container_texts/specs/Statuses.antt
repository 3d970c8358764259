-- The status with which the program ends, by its fault.
use Rattle.std.specs.Prelude.{ℕ}
use Rattle.samza_model.specs.declared.turns.Why.{Why}
use Rattle.samza_model.specs.declared.turns.Why.TheVariants.{Code, TooMany, Limits, Expired}
use Rattle.restore_trim.specs.declared.faults.OpenFault.{OpenFault}
use Rattle.restore_trim.specs.declared.faults.OpenFault.TheVariants.{Device as OpenDevice, Damaged, Shape, Ahead, Limit as OpenLimit, NoMemory as OpenNoMemory}
use Rattle.container_texts.specs.declared.faults.RunFault.{RunFault}
use Rattle.container_texts.specs.declared.faults.RunFault.TheVariants.{Words, NoText, TextLimit, BadEscape, BadKey, NotBuilt, NoPartition, Device, NotOpened, Failed, Limit, NoMemory}

-- the status of a task that isn't opened
abbrev pub open_status : OpenFault → ℕ
open_status OpenDevice = 4
open_status (Damaged input file at) = 6
open_status Shape = 6
open_status (Ahead input store wanted held) = 6
open_status OpenLimit = 9
open_status OpenNoMemory = 8

-- the status of a turn that failed
abbrev pub failure_status : Why → ℕ
failure_status (Code code) = 5
failure_status TooMany = 5
failure_status Limits = 5
failure_status (Expired delivered now) = 11

-- the status with which the program ends
abbrev pub status_of : RunFault → ℕ
status_of (Words place) = 2
status_of NoText = 3
status_of TextLimit = 9
status_of (BadEscape line) = 3
status_of (BadKey key what) = 3
status_of (NotBuilt key) = 3
status_of NoPartition = 3
status_of Device = 4
status_of (NotOpened e) = open_status e
status_of (Failed f) = failure_status f.why
status_of Limit = 9
status_of NoMemory = 8
