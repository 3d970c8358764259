-- What a job does: its next act, on a message and in a window.
use Rattle.std.specs.Prelude.{List}
use Rattle.samza_model.specs.declared.messages.Envelope.{Envelope}
use Rattle.samza_model.specs.declared.acts.Act.{Act}
use Rattle.samza_model.specs.declared.acts.Answer.{Answer}

-- the next act is a function of the message and the answers so far, or of a window's answers so far
pub record Meaning : Type 0 where
  pub act : Envelope → List Answer → Act
  pub window : List Answer → Act
