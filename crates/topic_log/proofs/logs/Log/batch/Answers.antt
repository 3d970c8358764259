use Rattle.topic_log.proofs.Moving.{images_kept}
use Rattle.topic_log.proofs.logs.Log.batch.Goals as goal

pub returns-clause-images : goal.returns-clause-images
returns-clause-images g c = λ told. images_kept _ _ _ _ _ _ (c.batch_in.ensures.rests told)

pub returns-clause-none_lost : goal.returns-clause-none_lost
returns-clause-none_lost g c = λ told. (c.batch_in.ensures.rests told).none_lost

pub returns-clause-any_moment : goal.returns-clause-any_moment
returns-clause-any_moment g c = λ told. (c.batch_in.ensures.rests told).moves.moment
