use Rattle.std.proofs.Common.{◌∙◌, sym, arith}
use Rattle.disk_model.proofs.Replays.{bound_grown, state_still, still_end, still_kept, still_reach, still_used}
use Rattle.disk_model.specs.Traces.{file_end, reach_of, used_by}
use Rattle.disk_model.proofs.traces.Trace.note.Goals as goal

pub invariant_of-self-clause-kept : goal.invariant_of-self-clause-kept
invariant_of-self-clause-kept c =
    let t = c.args.self.now in
    λ f. t.kept f ∙ sym (still_kept t.start.items t.noted.items c.add_entry.new.noted.items c.args.entry t.written.items c.add_entry.ensures.items c.requires f)

pub invariant_of-self-clause-used : goal.invariant_of-self-clause-used
invariant_of-self-clause-used c =
    let t = c.args.self.now in
    bound_grown used_by t.noted.items c.add_entry.new.noted.items c.args.entry _ _ c.add_entry.ensures.items t.used (omega arith) (still_used c.args.entry _ c.requires)

pub invariant_of-self-clause-reach : goal.invariant_of-self-clause-reach
invariant_of-self-clause-reach c =
    let t = c.args.self.now in
    bound_grown reach_of t.noted.items c.add_entry.new.noted.items c.args.entry _ _ c.add_entry.ensures.items t.reach (omega arith) (still_reach c.args.entry _ c.requires)

pub returns-clause-noted : goal.returns-clause-noted
returns-clause-noted c =
    let t = c.args.self.now in
    λ _. state_still t.start.items t.noted.items c.add_entry.new.noted.items c.args.entry t.written.items c.add_entry.ensures.items c.requires

pub invariant_of-self-clause-known : goal.invariant_of-self-clause-known
invariant_of-self-clause-known c =
    let t = c.args.self.now in
    bound_grown file_end t.noted.items c.add_entry.new.noted.items c.args.entry _ _ c.add_entry.ensures.items t.known (omega arith) (still_end c.args.entry _ c.requires)
