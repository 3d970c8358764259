use Rattle.std.proofs.Common.{List, ◌∙◌, ap}
use Rattle.samza_model.specs.declared.events.Event.{Event}
use Rattle.samza_model.specs.Journals.{uncovered_by}
use Rattle.core_steps.specs.Lanes.{lane_at}
use Rattle.core_parts.proofs.Trimming.{all_events}
use Rattle.core_parts.proofs.journals.Journal.uncovered.Goals as goal

pub returns : goal.returns
returns c =
    c.reverse.ensures.items ∙ c.in_ok-numbers.ensures
    ∙ ap (λ (l : List Event). uncovered_by (λ p. (lane_at c.args.lanes.now p).low) l) (all_events c.self.inside.events c.self.inside.cut c.args.self.now c.self.view_is)
