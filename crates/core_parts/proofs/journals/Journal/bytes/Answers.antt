use Rattle.std.proofs.Common.{◌∙◌, ◌-◌, ap, arith}
use Rattle.samza_model.specs.Journals.{Trimmed}
use Rattle.samza_model.specs.Requests.{size_of}
use Rattle.packed_events.proofs.Sizes.{fewer_bytes, bytes_behind}
use Rattle.core_parts.proofs.journals.Journal.bytes.Goals as goal

pub overflow_sub-result : goal.overflow_sub-result
overflow_sub-result c = omega (arith, c.self.invariant.2, c.lens.ensures.bytes, fewer_bytes c.self.inside.cut c.self.inside.events)

pub returns : goal.returns
returns c =
    (λ i. c.lens.ensures.bytes i - c.self.invariant.2 i) ∙ bytes_behind c.self.inside.cut c.self.inside.events
    ∙ ap (λ (t : Trimmed). size_of t.since) c.self.view_is
