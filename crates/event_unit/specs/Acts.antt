-- The event of a job's next act.
use Rattle.std.specs.Prelude.{List, length}
use Rattle.samza_model.specs.declared.acts.Answer.{Answer}
use Rattle.samza_model.specs.declared.events.Event.{Event}
use Rattle.samza_model.specs.declared.flights.Flight.{Flight}
use Rattle.samza_model.specs.Lawful.{call_event, window_event}
use Rattle.samza_model.specs.Meaning.{Meaning}
use Rattle.core_steps.specs.Cores.{CoreValue}
use Rattle.core_steps.specs.Held.{state_of}
use Rattle.task_core.specs.Acting.{course_of, next_act, next_in_window, window_course}

-- what the job's next act on a callback makes of it
abbrev pub act_event : Meaning → CoreValue → Flight → Event
act_event job u f = call_event f (state_of u.held) (next_act job f) (course_of u f (next_act job f))

-- what the job's next act in a window makes of it
abbrev pub window_act_event : Meaning → CoreValue → List Answer → Event
window_act_event job u answers =
    window_event answers (state_of u.held) (next_in_window job answers) (window_course u answers (next_in_window job answers))
