-- The words of which the program's lines are made. Numbers are decimal.
use Rattle.std.specs.Prelude.{ℕ, List, [], ◌++◌, Option, None, Some, codes, decimal}
use Rattle.samza_model.specs.declared.messages.Ssp.{Ssp}
use Rattle.samza_model.specs.declared.messages.TaskName.{TaskName}
use Rattle.samza_model.specs.Names.{topic_of}

-- a task's name
abbrev pub task_text : TaskName → List ℕ
task_text task = codes "Partition " ++ decimal task.0

-- a partition of a stream
abbrev pub partition_text : Ssp → List ℕ
partition_text ssp = topic_of ssp ++ codes " " ++ decimal ssp.partition

-- with an input, what this says of it; nothing where there is none
abbrev pub input_text : (Ssp → List ℕ) → Option Ssp → List ℕ
input_text text None = []
input_text text (Some ssp) = text ssp
