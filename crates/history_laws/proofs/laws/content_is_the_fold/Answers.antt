use Rattle.history_laws.proofs.Folding.{folded}
use Rattle.history_laws.proofs.laws.content_is_the_fold.Goals as goal

pub returns : goal.returns
returns c = λ job k h told alone quiet lawful idle sound. folded job k told alone h quiet lawful idle sound
