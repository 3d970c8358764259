-- The line that tells why a run ended otherwise than well.
use Rattle.std.specs.Prelude.{ℕ, List, ◌++◌, Option, None, Some, codes, decimal, slice_get}
use Rattle.samza_model.specs.declared.messages.Ssp.{Ssp}
use Rattle.samza_model.specs.declared.messages.TaskName.{TaskName}
use Rattle.samza_model.specs.declared.turns.Failure.{Failure}
use Rattle.samza_model.specs.declared.turns.Why.{Why}
use Rattle.samza_model.specs.declared.turns.Why.TheVariants.{Code, TooMany, Limits, Expired}
use Rattle.samza_model.specs.Files.{checkpoint_file, changelog_file}
use Rattle.samza_model.specs.Names.{topic_of}
use Rattle.config_values.specs.declared.faults.What.{What}
use Rattle.config_values.specs.declared.faults.What.TheVariants.{Missing, NotNumber, OutOfRange, BadName, Unknown}
use Rattle.restore_trim.specs.declared.faults.OpenFault.{OpenFault}
use Rattle.restore_trim.specs.declared.faults.OpenFault.TheVariants.{Device as OpenDevice, Damaged, Shape, Ahead, Limit as OpenLimit, NoMemory as OpenNoMemory}
use Rattle.container_texts.specs.declared.faults.RunFault.{RunFault}
use Rattle.container_texts.specs.declared.faults.RunFault.TheVariants.{Words, NoText, TextLimit, BadEscape, BadKey, NotBuilt, NoPartition, Device, NotOpened, Failed, Limit, NoMemory}
use Rattle.container_texts.specs.Texts.{task_text, partition_text, input_text}

-- a key of the configuration, and what is wrong with it
abbrev pub config_text : List ℕ → List ℕ → List ℕ
config_text key what = codes "config: " ++ key ++ codes ": " ++ what

-- what is wrong with a key
abbrev pub what_text : What → List ℕ
what_text Missing = codes "Missing"
what_text NotNumber = codes "NotNumber"
what_text OutOfRange = codes "OutOfRange"
what_text BadName = codes "BadName"
what_text Unknown = codes "Unknown"

-- why a job's turn failed
abbrev pub why_text : Why → List ℕ
why_text (Code code) = codes "code " ++ decimal code
why_text TooMany = codes "too many acts"
why_text Limits = codes "act outside the limits"
why_text (Expired delivered now) = codes "delivered " ++ decimal delivered ++ codes " now " ++ decimal now

-- the turn that failed: a message by its offset and its input's stream, or the window
abbrev pub turn_text : List Ssp → Option (ℕ × ℕ) → List ℕ
turn_text inputs None = codes "window"
turn_text inputs (Some place) = codes "offset " ++ decimal place.1 ++ codes " of " ++ input_text topic_of (slice_get inputs place.0)

-- whether the turn's time ran out
abbrev pub failure_head : Why → List ℕ
failure_head (Code code) = codes "task "
failure_head TooMany = codes "task "
failure_head Limits = codes "task "
failure_head (Expired delivered now) = codes "expired: "

abbrev pub failure_text : TaskName → List Ssp → Failure → List ℕ
failure_text task inputs f = failure_head f.why ++ task_text task ++ codes ": " ++ turn_text inputs f.place ++ codes ": " ++ why_text f.why

-- the file of an input, or with no input a file of the task
abbrev pub file_text : TaskName → List Ssp → Option ℕ → ℕ → List ℕ
file_text task inputs None file = task_text task ++ codes " file " ++ decimal file
file_text task inputs (Some input) file = input_text partition_text (slice_get inputs input)

-- the file of a task of which more is wanted than is there: a store's changelog, or the checkpoints' file
abbrev pub file_ahead : Option ℕ → ℕ
file_ahead None = checkpoint_file
file_ahead (Some store) = changelog_file store

-- why a task isn't opened
abbrev pub open_text : TaskName → List Ssp → OpenFault → List ℕ
open_text task inputs OpenDevice = codes "device failed"
open_text task inputs (Damaged input file at) = codes "damaged: " ++ file_text task inputs input file ++ codes ": byte " ++ decimal at
open_text task inputs Shape = codes "shape: " ++ task_text task
open_text task inputs (Ahead input store wanted held) = codes "ahead: " ++ file_text task inputs input (file_ahead store) ++ codes ": " ++ decimal wanted ++ codes " above " ++ decimal held
open_text task inputs OpenLimit = codes "limit: file"
open_text task inputs OpenNoMemory = codes "no memory"

-- a run's fault, of a task with these inputs
abbrev pub fault_text : TaskName → List Ssp → RunFault → List ℕ
fault_text task inputs (Words place) = codes "usage: word " ++ decimal place
fault_text task inputs NoText = config_text (codes "job.properties") (codes "Missing")
fault_text task inputs TextLimit = codes "limit: text"
fault_text task inputs (BadEscape line) = codes "config: line " ++ decimal line ++ codes ": BadEscape"
fault_text task inputs (BadKey key what) = config_text key (what_text what)
fault_text task inputs (NotBuilt key) = config_text key (codes "NotBuilt")
fault_text task inputs NoPartition = config_text (codes "task.inputs") (codes "Unknown")
fault_text task inputs Device = codes "device failed"
fault_text task inputs (NotOpened e) = open_text task inputs e
fault_text task inputs (Failed f) = failure_text task inputs f
fault_text task inputs Limit = codes "limit: file"
fault_text task inputs NoMemory = codes "no memory"
