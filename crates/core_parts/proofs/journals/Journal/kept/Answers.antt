use Rattle.samza_model.specs.Journals.{belongs}
use Rattle.core_parts.proofs.Trimming.{kept_reversed}
use Rattle.core_parts.proofs.journals.Journal.kept.Goals as goal

pub returns : goal.returns
returns c = kept_reversed (belongs c.args.uncovered.now) c.self.inside.events c.in_ok-kept.kept c.self.inside.cut c.args.self.now c.self.view_is c.in_ok-kept.ensures
