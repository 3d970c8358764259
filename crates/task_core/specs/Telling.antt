-- What a core tells of itself.
use Rattle.std.specs.Prelude.{length, is_some}
use Rattle.core_steps.specs.Cores.{CoreValue}
use Rattle.core_steps.specs.Times.{is_due, is_window_due}
use Rattle.task_core.specs.declared.telling.Status.{Status}

abbrev pub status_of : CoreValue → Status
status_of u = record {
  in_flight = length u.callbacks.flights;
  due = is_due u.since u.times;
  window_due = is_window_due u.times;
  in_window = is_some u.window;
  failed = u.failed;
  asked = u.asked;
}
