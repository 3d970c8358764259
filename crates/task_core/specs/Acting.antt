-- A callback's next act, and what it does to the turn.
use Rattle.std.specs.Prelude.{ℕ, ◌≡◌, List, length, Option, Some, None, true, false}
use Rattle.samza_model.specs.declared.acts.Act.{Act}
use Rattle.samza_model.specs.declared.acts.Act.TheVariants.{AskCommit, AskShutdown}
use Rattle.samza_model.specs.declared.acts.Answer.{Answer}
use Rattle.samza_model.specs.declared.flights.Flight.{Flight}
use Rattle.samza_model.specs.Events.{flight_of}
use Rattle.samza_model.specs.Lawful.{call_event, window_event, course}
use Rattle.samza_model.specs.Meaning.{Meaning}
use Rattle.samza_model.specs.Runs.{End}
use Rattle.core_steps.specs.Cores.{CoreValue, Adds, IsCallAct, IsWinAct}
use Rattle.core_steps.specs.Held.{state_of}
use Rattle.task_core.specs.declared.applied.Applied.{Applied}
use Rattle.task_core.specs.declared.applied.Ask.{Ask}
use Rattle.task_core.specs.declared.applied.Ask.TheVariants.{Commit, Shutdown}

-- what an act asks the container for
abbrev pub ask_of : Act → Option Ask
ask_of (AskCommit scope) = Some (Commit scope)
ask_of (AskShutdown scope) = Some (Shutdown scope)
ask_of _ = None

-- what an act does to its turn: it goes on, perhaps with a request, or it ends, perhaps by a failure
abbrev pub applied : Act → Option End → Applied
applied act None = record { ended = false; failed = false; ask = ask_of act }
applied act (Some None) = record { ended = true; failed = false; ask = None }
applied act (Some (Some why)) = record { ended = true; failed = true; ask = None }

-- how a callback's turn goes on behind an act
abbrev pub course_of : CoreValue → Flight → Act → Option End
course_of u f act = course u.setup (length f.answers) act

-- the act was made on the callback: it was answered, or it ended the turn
abbrev pub ActsOn : CoreValue → CoreValue → Flight → Act → Type 0
ActsOn old new f act = Adds (IsCallAct f act) old new (call_event f (state_of old.held) act (course_of old f act))

-- how a window goes on behind an act
abbrev pub window_course : CoreValue → List Answer → Act → Option End
window_course u answers act = course u.setup (length answers) act

-- the act was made in the window that is open: it was answered, or it ended the window
abbrev pub ActsInWindow : CoreValue → CoreValue → List Answer → Act → Type 0
ActsInWindow old new answers act = Adds (IsWinAct answers act) old new (window_event answers (state_of old.held) act (window_course old answers act))

-- the job's next act on a callback
abbrev pub next_act : Meaning → Flight → Act
next_act job f = job.act f.envelope f.answers

-- what the job's next act on a callback does to its turn
abbrev pub applied_now : Meaning → CoreValue → Flight → Applied
applied_now job u f = applied (next_act job f) (course_of u f (next_act job f))

-- the act is the job's next one on the callback in flight with this number, which has so many answers
pub record IsAsked (job : Meaning) (u : CoreValue) (n : ℕ) (act : Act) (made : ℕ) : Type 0 where
  pub flight : Flight
  pub flies : flight_of n u.callbacks.flights ≡ Some flight
  pub act_is : act ≡ next_act job flight
  pub made_is : made ≡ length flight.answers

-- the job's next act in a window
abbrev pub next_in_window : Meaning → List Answer → Act
next_in_window job answers = job.window answers

-- what the job's next act in a window does to it
abbrev pub applied_in_window : Meaning → CoreValue → List Answer → Applied
applied_in_window job u answers = applied (next_in_window job answers) (window_course u answers (next_in_window job answers))
