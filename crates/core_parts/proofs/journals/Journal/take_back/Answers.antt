use Rattle.std.proofs.Common.{◌∙◌, length, sym, ap, arith}
use Rattle.samza_model.specs.Requests.{is_asked}
use Rattle.packed_events.specs.Packed.{bytes_of}
use Rattle.core_parts.proofs.Trimming.{taken_back}
use Rattle.core_parts.proofs.journals.Journal.take_back.Goals as goal

pub invariant_of-self : goal.invariant_of-self
invariant_of-self c =
    let t = taken_back c.self.inside.events c.pop.new.self c.self.inside.cut c.args.self.now c.self.view_is (omega (arith, c.if-self-lens.true, c.lens.ensures.events)) c.pop.ensures in
    (t.within, c.requires ∙ ap is_asked (sym t.since), c.self.invariant.2 ∙ ap (λ l. length (bytes_of l)) (sym t.ahead))

pub returns-then-self-lens : goal.returns-then-self-lens
returns-then-self-lens c =
    let t = taken_back c.self.inside.events c.pop.new.self c.self.inside.cut c.args.self.now c.self.view_is (omega (arith, c.if-self-lens.true, c.lens.ensures.events)) c.pop.ensures in
    λ i. record { since = t.since i; kept = t.kept i }
