-- The job's next act on a question.
use Rattle.std.specs.Prelude.{List, Option, Some, None, ◌≡◌}
use Rattle.samza_model.specs.declared.acts.Act.{Act}
use Rattle.samza_model.specs.declared.acts.Answer.{Answer}
use Rattle.samza_model.specs.declared.messages.Envelope.{Envelope}
use Rattle.samza_model.specs.declared.turns.Turn.{Turn}
use Rattle.samza_model.specs.declared.turns.Turn.TheVariants.{Call, Window}
use Rattle.samza_model.specs.Meaning.{Meaning}
use Rattle.task_core.specs.declared.questions.Question.{Question}

-- a question with the job's next act on it
pub record SteppedValue (P : Type 0) : Type 0 where
  pub job : P
  pub question : Question
  pub act : Act

-- what the job does next in a turn with this envelope and these answers; nothing in a callback without an envelope
abbrev pub next_in : Meaning → Turn → Option Envelope → List Answer → Option Act
next_in job (Call n) (Some envelope) answers = Some (job.act envelope answers)
next_in job (Call n) None answers = None
next_in job Window envelope answers = Some (job.window answers)

-- the act is the job's next one on the question
abbrev pub IsNext : Meaning → Question → Act → Type 0
IsNext job q act = next_in job q.turn q.envelope q.answers ≡ Some act
