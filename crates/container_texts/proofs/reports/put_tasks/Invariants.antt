use Rattle.std.proofs.Common.{◌≡◌, ◌++◌, drop}
use Rattle.std.specs.List.{flat_map}
use Rattle.container_texts.specs.ReportText.{task_lines}
use Rattle.container_texts.proofs.reports.put_tasks.Given as goal

abbrev pub invariant-loop-task : goal.invariant-loop-task
invariant-loop-task l = l.text ++ flat_map task_lines (drop l.task-index l.tasks) ≡ l.fn.text ++ flat_map task_lines l.tasks
