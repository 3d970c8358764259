use Rattle.std.proofs.Common.{◌≡◌, ◌∙◌, sym, append-nil}
use Rattle.samza_model.specs.declared.events.Event.TheVariants.{WindowEnded}
use Rattle.packed_events.proofs.Again.{pushed}
use Rattle.packed_events.proofs.packed.Packed.push_window_ended.Goals as goal

pub invariant_of-self-2 : goal.invariant_of-self-2
invariant_of-self-2 c = (pushed c.self.inside.heads.items _ c.self.inside.bytes.items _ c.args.self.now WindowEnded c.self.invariant c.self.view_is c.in_ok-push.ensures.items (sym (append-nil c.self.inside.bytes.items))).packed

pub returns-clause-ok : goal.returns-clause-ok
returns-clause-ok c = (pushed c.self.inside.heads.items _ c.self.inside.bytes.items _ c.args.self.now WindowEnded c.self.invariant c.self.view_is c.in_ok-push.ensures.items (sym (append-nil c.self.inside.bytes.items))).value
