use Rattle.std.proofs.Common.{◌∙◌, ℕ, ◌≡◌, ap, arith, List, length, length-append, refl, ◌+◌, ◌∷◌, [], ◌++◌}
use Rattle.disk_model.proofs.Replays.{bound_grown, kept_at, rooms_set, state_wrote, unwritten_set, wrote_past}
use Rattle.disk_model.specs.Cells.{put_at}
use Rattle.disk_model.specs.FileStates.{with_written}
use Rattle.disk_model.specs.Traces.{file_end, reach_of, file_state, used_by}
use Rattle.disk_model.specs.declared.traces.Entry.TheVariants.{Wrote}
use Rattle.disk_model.proofs.traces.Trace.put.Goals as goal
use Rattle.disk_model.proofs.traces.Trace.put.Goals.{After-put_in}

noted_is : (c : After-put_in) → c.add_entry.new.noted.items ≡ c.args.self.now.noted.items ++ Wrote c.args.file c.args.at (length c.args.self.now.written.items) (length c.args.bytes.now) ∷ []
noted_is c =
    let t = c.args.self.now in
    let from : c.len-from.result ≡ length t.written.items = omega (arith, t.written.ok.0) in
    c.add_entry.ensures.items ∙ ap (λ n. t.noted.items ++ Wrote c.args.file c.args.at n (length c.args.bytes.now) ∷ []) from

pub invariant_of-self-clause-kept : goal.invariant_of-self-clause-kept
invariant_of-self-clause-kept c =
    let t = c.args.self.now in
    let file = c.args.file in
    let b = c.args.bytes.now in
    let states = file_state t.start.items t.noted.items t.written.items in
    let step = state_wrote t.start.items t.noted.items c.add_entry.new.noted.items file c.args.at t.written.items c.add_bytes.new.written.items b (noted_is (goal.at.invariant_of-self-clause-kept c).After-put_in) c.add_bytes.ensures.items t.used in
    kept_at t.files.items c.put_in.new.files.items file _ (with_written c.args.at b) states _ c.put_in.ensures t.kept step
    (λ _. ap (λ (l : List ℕ). put_at c.args.at b l) (t.kept file))
    (λ past. absurd (omega arith))

pub invariant_of-self-clause-used : goal.invariant_of-self-clause-used
invariant_of-self-clause-used c =
    let t = c.args.self.now in
    let more : length c.add_bytes.new.written.items ≡ length t.written.items + length c.args.bytes.now =
    ap length c.add_bytes.ensures.items ∙ length-append t.written.items c.args.bytes.now in
    bound_grown used_by t.noted.items c.add_entry.new.noted.items _ _ _ c.add_entry.ensures.items t.used (omega arith) (omega arith)

pub invariant_of-self-clause-reach : goal.invariant_of-self-clause-reach
invariant_of-self-clause-reach c =
    let t = c.args.self.now in
    bound_grown reach_of t.noted.items c.add_entry.new.noted.items _ _ _ c.add_entry.ensures.items t.reach (omega arith) (omega arith)

pub invariant_of-self-clause-file_rooms : goal.invariant_of-self-clause-file_rooms
invariant_of-self-clause-file_rooms c =
    let t = c.args.self.now in
    rooms_set t.files.items c.put_in.new.files.items c.args.file t.room _ c.put_in.ensures t.file_rooms refl

pub returns-clause-made : goal.returns-clause-made
returns-clause-made c =
    let t = c.args.self.now in
    state_wrote t.start.items t.noted.items c.add_entry.new.noted.items c.args.file c.args.at t.written.items c.add_bytes.new.written.items c.args.bytes.now (noted_is (goal.at.returns-clause-made c).After-put_in) c.add_bytes.ensures.items t.used

pub returns-clause-past : goal.returns-clause-past
returns-clause-past c =
    let t = c.args.self.now in
    wrote_past t.start.items t.noted.items c.add_entry.new.noted.items c.args.file c.args.at t.written.items c.add_bytes.new.written.items c.args.bytes.now (noted_is (goal.at.returns-clause-past c).After-put_in) c.add_bytes.ensures.items t.used

pub invariant_of-self-clause-unwritten : goal.invariant_of-self-clause-unwritten
invariant_of-self-clause-unwritten c =
    let t = c.args.self.now in
    unwritten_set t.files.items c.put_in.new.files.items c.args.file t.there c.max-self.result _ c.put_in.ensures t.unwritten (omega arith) (λ low. absurd (omega arith))

pub invariant_of-self-clause-known : goal.invariant_of-self-clause-known
invariant_of-self-clause-known c =
    let t = c.args.self.now in
    bound_grown file_end t.noted.items c.add_entry.new.noted.items _ _ _ c.add_entry.ensures.items t.known (omega arith) (omega arith)
