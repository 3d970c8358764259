-- Whether a question is still what its turn asks.
use Rattle.std.specs.Prelude.{List, Option, Some, None, ◌≡◌, ◌≢◌}
use Rattle.samza_model.specs.declared.acts.Answer.{Answer}
use Rattle.samza_model.specs.declared.messages.Envelope.{Envelope}
use Rattle.samza_model.specs.declared.turns.Turn.{Turn}
use Rattle.samza_model.specs.declared.turns.Turn.TheVariants.{Call, Window}
use Rattle.core_steps.specs.Cores.{CoreValue}
use Rattle.task_core.specs.declared.questions.Question.{Question}
use Rattle.task_core.specs.Questions.{question_of}

-- a window's question has no envelope, whatever it was given
abbrev pub envelope_in : Turn → Option Envelope → Option Envelope
envelope_in (Call n) envelope = envelope
envelope_in Window envelope = None

-- the question with these answers
abbrev pub asked_with : Question → List Answer → Question
asked_with q answers = record { turn = q.turn; envelope = envelope_in q.turn q.envelope; answers = answers }

-- these are the true answers: the question's callback is in flight with the question's envelope, or a window is open, and so it was
-- answered
abbrev pub IsAnswered : CoreValue → Question → List Answer → Type 0
IsAnswered u q answers = question_of u q.turn ≡ Some (asked_with q answers)

-- no callback with the question's number and envelope is in flight, or no window is open
abbrev pub IsUnknown : CoreValue → Question → Type 0
IsUnknown u q = (answers : List Answer) → question_of u q.turn ≢ Some (asked_with q answers)

-- the true answers are these, and not the question's
pub record IsStale (u : CoreValue) (q : Question) (answers : List Answer) : Type 0 where
  pub answered : IsAnswered u q answers
  pub differ : answers ≢ q.answers
