use Rattle.std.proofs.Common.{◌<◌, ◌≤◌, ℕ, get_or, arith, length, refl}
use Rattle.disk_model.proofs.Replays.{end_forgotten, kept_at, reach_forgotten, rooms_set, state_placed, unwritten_set, used_forgotten}
use Rattle.disk_model.specs.FileStates.{at_rest}
use Rattle.disk_model.specs.TraceWords.{AtFile}
use Rattle.disk_model.specs.Traces.{file_end, file_state}
use Rattle.disk_model.specs.declared.traces.Entry.TheVariants.{Quiet}
use Rattle.disk_model.proofs.traces.Trace.place.Goals as goal
use Rattle.disk_model.proofs.traces.Trace.place.Goals.{After-max-self}

step_is : (c : After-max-self) → AtFile c.args.file (λ _. at_rest c.args.bytes.now) (file_state c.args.self.now.start.items c.args.self.now.noted.items c.args.self.now.written.items) (file_state c.place_in.new.files.items c.forget_all.new.noted.items c.args.self.now.written.items)
step_is c =
    let t = c.args.self.now in
    let there : c.args.file < length t.start.items = omega (arith, t.even, c.requires.there) in
    state_placed t.start.items c.place_in.new.files.items t.noted.items c.forget_all.new.noted.items t.written.items c.args.bytes.now c.args.file _ c.place_in.ensures refl there c.forget_all.ensures.len c.forget_all.ensures.each

pub invariant_of-self-clause-kept : goal.invariant_of-self-clause-kept
invariant_of-self-clause-kept c =
    let t = c.args.self.now in
    kept_at t.files.items c.place_in-2.new.files.items c.args.file _ (λ _. at_rest c.args.bytes.now) (file_state t.start.items t.noted.items t.written.items) _ c.place_in-2.ensures t.kept (step_is (goal.at.invariant_of-self-clause-kept c).After-max-self)
    (λ _. refl)
    (λ past. absurd (omega (arith, c.requires.there)))

pub invariant_of-self-clause-used : goal.invariant_of-self-clause-used
invariant_of-self-clause-used c =
    let t = c.args.self.now in
    used_forgotten t.noted.items c.forget_all.new.noted.items c.args.file _ c.forget_all.ensures.each t.used

pub invariant_of-self-clause-reach : goal.invariant_of-self-clause-reach
invariant_of-self-clause-reach c =
    let t = c.args.self.now in
    reach_forgotten t.noted.items c.forget_all.new.noted.items c.args.file _ c.forget_all.ensures.each t.reach

pub invariant_of-self-clause-start_rooms : goal.invariant_of-self-clause-start_rooms
invariant_of-self-clause-start_rooms c =
    let t = c.args.self.now in
    rooms_set t.start.items c.place_in.new.files.items c.args.file t.room _ c.place_in.ensures t.start_rooms refl

pub invariant_of-self-clause-file_rooms : goal.invariant_of-self-clause-file_rooms
invariant_of-self-clause-file_rooms c =
    let t = c.args.self.now in
    rooms_set t.files.items c.place_in-2.new.files.items c.args.file t.room _ c.place_in-2.ensures t.file_rooms refl

pub invariant_of-self-clause-unwritten : goal.invariant_of-self-clause-unwritten
invariant_of-self-clause-unwritten c =
    let t = c.args.self.now in
    unwritten_set t.files.items c.place_in-2.new.files.items c.args.file t.there c.max-self.result _ c.place_in-2.ensures t.unwritten (omega arith) (λ low. absurd (omega arith))

pub returns-clause-placed : goal.returns-clause-placed
returns-clause-placed c = step_is (goal.at.returns-clause-placed c).After-max-self

pub invariant_of-self-clause-known : goal.invariant_of-self-clause-known
invariant_of-self-clause-known c =
    let t = c.args.self.now in
    let up : (k : ℕ) → file_end (get_or t.noted.items k Quiet) ≤ c.max-self.result = λ k. omega (arith, t.known k) in
    end_forgotten t.noted.items c.forget_all.new.noted.items c.args.file _ c.forget_all.ensures.each up

pub invariant_of-self-clause-unstarted : goal.invariant_of-self-clause-unstarted
invariant_of-self-clause-unstarted c =
    let t = c.args.self.now in
    unwritten_set t.start.items c.place_in.new.files.items c.args.file t.there c.max-self.result _ c.place_in.ensures t.unstarted (omega arith) (λ low. absurd (omega arith))
