-- What the next act of a turn is a function of.
use Rattle.std.specs.Prelude.{ℕ, List, Option, Some, None}
use Rattle.std.specs.Option.{option_map}
use Rattle.samza_model.specs.declared.acts.Answer.{Answer}
use Rattle.samza_model.specs.declared.flights.Flight.{Flight}
use Rattle.samza_model.specs.declared.turns.Turn.{Turn}
use Rattle.samza_model.specs.declared.turns.Turn.TheVariants.{Call, Window}
use Rattle.samza_model.specs.Events.{flight_of}
use Rattle.core_steps.specs.Cores.{CoreValue}
use Rattle.task_core.specs.declared.questions.Question.{Question}

-- a callback's, by its number
abbrev pub call_question : ℕ → Flight → Question
call_question n f = record { turn = Call n; envelope = Some f.envelope; answers = f.answers }

-- a window's
abbrev pub window_question : List Answer → Question
window_question answers = record { turn = Window; envelope = None; answers = answers }

-- a turn's question: none where the callback isn't in flight, or where no window is open
abbrev pub question_of : CoreValue → Turn → Option Question
question_of u (Call n) = option_map (call_question n) (flight_of n u.callbacks.flights)
question_of u Window = option_map window_question u.window
