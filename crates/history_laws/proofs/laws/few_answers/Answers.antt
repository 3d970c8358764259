use Rattle.history_laws.proofs.Answering.{few_answers}
use Rattle.history_laws.proofs.laws.few_answers.Goals as goal

pub returns : goal.returns
returns c = few_answers
