use Rattle.std.proofs.Common.{List, Option, subst}
use Rattle.samza_model.specs.declared.messages.Record.{Record}
use Rattle.topic_log.specs.declared.extents.Place.{Place}
use Rattle.topic_log.specs.Batches.{IsNext}
use Rattle.topic_log.proofs.batches.Batches.next.Goals as goal

pub batch_in-requires-clause-shows : goal.batch_in-requires-clause-shows
batch_in-requires-clause-shows g c κs within = λ told whole. (c.requires.place told whole).1.1.shows

pub returns-in-Ok-None-clause-batch : goal.returns-in-Ok-None-clause-batch
returns-in-Ok-None-clause-batch g c = λ told frames before h.
    subst (λ (o : Option (List Record × Place)). IsNext frames before o) c.in-Ok-None.field-0-is (c.in-Ok-None.ensures.batch told frames before h.place)
