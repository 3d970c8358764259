-- The report of a run that ended well. Each line ends with 0A (in hex).
use Rattle.std.specs.Prelude.{ℕ, List, [], ◌∷◌, ◌++◌, length, codes, decimal}
use Rattle.std.specs.List.{flat_map, sum_by}
use Rattle.container_texts.specs.declared.reports.InputReport.{InputReport}
use Rattle.container_texts.specs.declared.reports.StoreReport.{StoreReport}
use Rattle.container_texts.specs.declared.reports.OutputReport.{OutputReport}
use Rattle.container_texts.specs.declared.reports.TaskReport.{TaskReport}
use Rattle.container_texts.specs.Texts.{task_text, partition_text}

abbrev pub input_line : InputReport → List ℕ
input_line r = codes "  input " ++ partition_text r.ssp ++ codes " next " ++ decimal r.next ++ codes " end " ++ decimal r.end ++ 10 ∷ []

abbrev pub store_line : StoreReport → List ℕ
store_line r = codes "  store " ++ r.name ++ codes " keys " ++ decimal r.keys ++ 10 ∷ []

abbrev pub output_line : OutputReport → List ℕ
output_line r = codes "  output " ++ r.name ++ codes " sent " ++ decimal r.sent ++ 10 ∷ []

-- a task's line, and behind it those of its inputs, stores and outputs
abbrev pub task_lines : TaskReport → List ℕ
task_lines r = task_text r.task ++ codes " checkpoint " ++ decimal r.checkpoint ++ codes " new " ++ decimal r.completed ++ 10 ∷ []
    ++ flat_map input_line r.inputs ++ flat_map store_line r.stores ++ flat_map output_line r.outputs

-- the messages that the tasks completed
abbrev pub total_of : List TaskReport → ℕ
total_of tasks = sum_by (λ r. r.completed) tasks

-- of a container, by its number, and its tasks
abbrev pub report_text : ℕ → List TaskReport → List ℕ
report_text container tasks = codes "container " ++ decimal container ++ codes " tasks " ++ decimal (length tasks) ++ 10 ∷ []
    ++ flat_map task_lines tasks ++ codes "total new " ++ decimal (total_of tasks) ++ 10 ∷ []
