use Rattle.std.proofs.Common.{◌≡◌, ◌∙◌, ◌++◌, ◌∷◌, [], sym, ap, length, rules}
use Rattle.samza_model.specs.declared.events.Event.TheVariants.{WindowDid}
use Rattle.packed_events.specs.Packed.{event_head, event_bytes}
use Rattle.packed_events.proofs.Again.{pushed}
use Rattle.packed_events.proofs.packed.Packed.push_window_did.Goals as goal

pub invariant_of-self-2 : goal.invariant_of-self-2
invariant_of-self-2 c =
    let hs : c.push_reserved.new.self.items ≡ c.self.inside.heads.items ++ event_head (WindowDid c.args.place c.args.act.now c.args.answer.now) ∷ [] = search rules in
    let bs : c.put_four.new.bytes.items ≡ c.self.inside.bytes.items ++ event_bytes (WindowDid c.args.place c.args.act.now c.args.answer.now) = search rules in
    (pushed c.self.inside.heads.items _ c.self.inside.bytes.items _ c.args.self.now (WindowDid c.args.place c.args.act.now c.args.answer.now) c.self.invariant c.self.view_is hs bs).packed

pub returns-clause-ok : goal.returns-clause-ok
returns-clause-ok c =
    let hs : c.push_reserved.new.self.items ≡ c.self.inside.heads.items ++ event_head (WindowDid c.args.place c.args.act.now c.args.answer.now) ∷ [] = search rules in
    let bs : c.put_four.new.bytes.items ≡ c.self.inside.bytes.items ++ event_bytes (WindowDid c.args.place c.args.act.now c.args.answer.now) = search rules in
    (pushed c.self.inside.heads.items _ c.self.inside.bytes.items _ c.args.self.now (WindowDid c.args.place c.args.act.now c.args.answer.now) c.self.invariant c.self.view_is hs bs).value
