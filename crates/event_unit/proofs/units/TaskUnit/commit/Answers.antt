use Rattle.std.proofs.Common.{IfSome, ◌≡◌, ◌≤◌, ◌+◌, ◌∙◌, ◌∷◌, ◌++◌, [], ap, sym, subst, refl, arith, reverse, length, Some, None, true, false}
use Rattle.samza_model.specs.declared.checkpoints.Checkpoint.{Checkpoint}
use Rattle.samza_model.specs.declared.marks.KeptMark.{KeptMark}
use Rattle.core_steps.proofs.Laws.{few_stores}
use Rattle.topic_log.specs.Opened.{count_of}
use Rattle.unit_steps.specs.Units.{UnitValue, Marks, Begins, IsUnit}
use Rattle.unit_steps.proofs.Laws.{finished, finished_unit, marks_more, stand_open_now, unfinished, unfinished_unit, with_begun, with_commit}
use Rattle.std.proofs.lemmas.Result.{err_from_is_err_and}
use Rattle.disk_model.specs.Images.{LeavesOnly}
use Rattle.restore_trim.specs.Standing.{OthersStay}
use Rattle.unit_logs.proofs.Laws.{others_still}
use Rattle.event_unit.specs.Committing.{CommitPasses, CrashLeaves, IsCommitOf}
use Rattle.samza_model.specs.Restored.{Restores}
use Rattle.samza_model.specs.Marks.{last_mark}
use Rattle.event_unit.proofs.Growing.{has_room, is_commit, leaves_others, leaves_some, leaves_still, passes}
use Rattle.event_unit.proofs.Refusing.{at_rest, unbroken}
use Rattle.event_unit.proofs.units.TaskUnit.commit.Goals as goal

pub write-requires-clause-planned : goal.write-requires-clause-planned
write-requires-clause-planned g c κs within =
    let inv = c.self.invariant in
    let p = c.in_ok-plan.ensures.planned in
    let core = c.plan_of.ensures.core in
    record {
      changes = p.stores.frames_are ∙ core.sized.stores ∙ sym inv.changelogs_are;
      sends = p.sends.frames_are ∙ core.sized.outputs ∙ sym inv.outputs_are;
      few = omega (arith, inv.changelogs_are, few_stores c.self.inside.core.setup inv.set_up.committable);
    }

pub write-requires-clause-open : goal.write-requires-clause-open
write-requires-clause-open g c κs within =
    let u = c.self.inside in
    let disk = g.D.Disk in
    let old : UnitValue _ _ _ = record { job = g.J.Job.plain u.job.now; shelf = u.shelf; messages = u.messages.items; core = u.core; disk = u.disk; marks = reverse u.marks.items; begun = u.begun; broken = u.broken } in
    let allowed = sym c.refusal.ensures.refusal ∙ c.in_default.is in
    let sound : u.broken ≡ false = unbroken u.broken u.core allowed in
    stand_open_now g.J.Job.meaning disk.tells disk.reads disk.call_number disk.images disk.images_since old u.logs c.self.invariant c.plan_of.ensures.core sound

pub invariant_of-self-in-Err : goal.invariant_of-self-in-Err
invariant_of-self-in-Err g c =
    let u = c.self.inside in
    let disk = g.D.Disk in
    let old : UnitValue _ _ _ = record { job = g.J.Job.plain u.job.now; shelf = u.shelf; messages = u.messages.items; core = u.core; disk = u.disk; marks = reverse u.marks.items; begun = u.begun; broken = u.broken } in
    let allowed = sym c.refusal.ensures.refusal ∙ c.in_default.is in
    let sound : u.broken ≡ false = unbroken u.broken u.core allowed in
    let law = (g.met.D.Disk g.world.𝓛 g.world.𝓜 g.world.𝓡 ((λ s x. x), (λ x. x), (λ x. x), λ x. x)) in
    let plan = c.in_ok-plan.plan in
    let p = c.in_ok-plan.ensures.planned in
    let same : with_begun old c.write.new.disk (length u.core.since) ≡ record { job = old.job; shelf = old.shelf; messages = old.messages; core = u.core; disk = c.write.new.disk; marks = reverse c.make_room.new.marks.items; begun = Some c.events.result; broken = true } =
    λ i. record { job = old.job; shelf = old.shelf; messages = old.messages; core = u.core; disk = c.write.new.disk; marks = reverse (sym c.make_room.ensures.same i); begun = Some (sym c.events.ensures i); broken = true } in
    subst (λ v. IsUnit g.J.Job.meaning disk.tells disk.reads disk.call_number disk.images disk.images_since c.write.new.self v) same
    (unfinished_unit g.J.Job.meaning disk.tells disk.reads disk.call_number disk.images disk.images_since old u.logs c.self.invariant c.plan_of.ensures.core sound c.write.new.disk plan.frames plan.mark p (law.read_is_image u.disk) (λ told n image low now. law.counts_now u.disk n image told low now) c.write.ensures.any_moment c.write.new.self c.in-Err.ensures.changelogs c.in-Err.ensures.outputs (λ told later image now. law.counts_now c.write.new.disk (disk.call_number u.disk) image told later now) (law.read_is_image c.write.new.disk) (at_rest u.broken u.core allowed))

pub returns-in-Err-clause-begun : goal.returns-in-Err-clause-begun
returns-in-Err-clause-begun g c = λ _.
    let u = c.self.inside in
    let disk = g.D.Disk in
    let old : UnitValue _ _ _ = record { job = g.J.Job.plain u.job.now; shelf = u.shelf; messages = u.messages.items; core = u.core; disk = u.disk; marks = reverse u.marks.items; begun = u.begun; broken = u.broken } in
    let allowed = sym c.refusal.ensures.refusal ∙ c.in_default.is in
    let sound : u.broken ≡ false = unbroken u.broken u.core allowed in
    let law = (g.met.D.Disk g.world.𝓛 g.world.𝓜 g.world.𝓡 ((λ s x. x), (λ x. x), (λ x. x), λ x. x)) in
    let plan = c.in_ok-plan.plan in
    let p = c.in_ok-plan.ensures.planned in
    let same : with_begun old c.write.new.disk (length u.core.since) ≡ record { job = old.job; shelf = old.shelf; messages = old.messages; core = u.core; disk = c.write.new.disk; marks = reverse c.make_room.new.marks.items; begun = Some c.events.result; broken = true } =
    λ i. record { job = old.job; shelf = old.shelf; messages = old.messages; core = u.core; disk = c.write.new.disk; marks = reverse (sym c.make_room.ensures.same i); begun = Some (sym c.events.ensures i); broken = true } in
    subst (λ v. Begins g.J.Job.meaning disk.tells disk.reads disk.call_number disk.images disk.images_since c.args.self.now v) same
    (subst (λ v. Begins g.J.Job.meaning disk.tells disk.reads disk.call_number disk.images disk.images_since v (with_begun old c.write.new.disk (length u.core.since))) c.self.view_is
    (unfinished g.J.Job.meaning disk.tells disk.reads disk.call_number disk.images disk.images_since old u.logs c.self.invariant c.plan_of.ensures.core sound c.write.new.disk plan.frames plan.mark p (law.read_is_image u.disk) (λ told n image low now. law.counts_now u.disk n image told low now) c.write.ensures.any_moment c.write.new.self c.in-Err.ensures.changelogs c.in-Err.ensures.outputs (λ told later image now. law.counts_now c.write.new.disk (disk.call_number u.disk) image told later now) (law.read_is_image c.write.new.disk) (at_rest u.broken u.core allowed)))

pub invariant_of-self-2 : goal.invariant_of-self-2
invariant_of-self-2 g c =
    let u = c.self.inside in
    let disk = g.D.Disk in
    let old : UnitValue _ _ _ = record { job = g.J.Job.plain u.job.now; shelf = u.shelf; messages = u.messages.items; core = u.core; disk = u.disk; marks = reverse u.marks.items; begun = u.begun; broken = u.broken } in
    let allowed = sym c.refusal.ensures.refusal ∙ c.in_default.is in
    let sound : u.broken ≡ false = unbroken u.broken u.core allowed in
    let law = (g.met.D.Disk g.world.𝓛 g.world.𝓜 g.world.𝓡 ((λ s x. x), (λ x. x), (λ x. x), λ x. x)) in
    let plan = c.in_ok-plan.plan in
    let p = c.in_ok-plan.ensures.planned in
    let after = c.committed.new.self in
    let m : KeptMark = record { checkpoint = Some plan.mark; at = disk.call_number c.write.new.disk } in
    let same : with_commit old c.write.new.disk after m ≡ record { job = old.job; shelf = old.shelf; messages = old.messages; core = after; disk = c.write.new.disk; marks = reverse c.push_reserved.new.self.items; begun = None; broken = false } =
    λ i. record {
      job = old.job;
      shelf = old.shelf;
      messages = old.messages;
      core = after;
      disk = c.write.new.disk;
      marks = marks_more m u.marks.items c.make_room.new.marks.items c.push_reserved.new.self.items c.make_room.ensures.same
          (c.push_reserved.ensures.items ∙ ap (λ at. c.make_room.new.marks.items ++ record { checkpoint = Some plan.mark; at = at } ∷ []) c.calls-at.ensures) i;
      begun = None;
      broken = false;
    } in
    subst (λ v. IsUnit g.J.Job.meaning disk.tells disk.reads disk.call_number disk.images disk.images_since c.write.new.self v) same
    (finished_unit g.J.Job.meaning disk.tells disk.reads disk.call_number disk.images disk.images_since old u.logs c.self.invariant c.plan_of.ensures.core sound c.write.new.disk plan.frames plan.mark p (law.read_is_image u.disk) (λ told n image low now. law.counts_now u.disk n image told low now) c.write.ensures.any_moment c.write.new.self c.in-Ok.ensures.changelogs c.in-Ok.ensures.outputs after c.committed.ensures.commits (at_rest u.broken u.core allowed) (λ told image left. law.only_now c.write.new.disk image told left) (law.read_is_image c.write.new.disk) c.in-Ok.ensures.follows c.in-Ok.ensures.sound (c.in-Ok.ensures.counted ∙ ap (λ n. count_of u.logs.marks + n) p.frame.2.count_is))

pub returns-clause-marked : goal.returns-clause-marked
returns-clause-marked g c =
    let u = c.self.inside in
    let disk = g.D.Disk in
    let old : UnitValue _ _ _ = record { job = g.J.Job.plain u.job.now; shelf = u.shelf; messages = u.messages.items; core = u.core; disk = u.disk; marks = reverse u.marks.items; begun = u.begun; broken = u.broken } in
    let allowed = sym c.refusal.ensures.refusal ∙ c.in_default.is in
    let sound : u.broken ≡ false = unbroken u.broken u.core allowed in
    let law = (g.met.D.Disk g.world.𝓛 g.world.𝓜 g.world.𝓡 ((λ s x. x), (λ x. x), (λ x. x), λ x. x)) in
    let plan = c.in_ok-plan.plan in
    let p = c.in_ok-plan.ensures.planned in
    let after = c.committed.new.self in
    let m : KeptMark = record { checkpoint = Some plan.mark; at = disk.call_number c.write.new.disk } in
    let same : with_commit old c.write.new.disk after m ≡ record { job = old.job; shelf = old.shelf; messages = old.messages; core = after; disk = c.write.new.disk; marks = reverse c.push_reserved.new.self.items; begun = None; broken = false } =
    λ i. record {
      job = old.job;
      shelf = old.shelf;
      messages = old.messages;
      core = after;
      disk = c.write.new.disk;
      marks = marks_more m u.marks.items c.make_room.new.marks.items c.push_reserved.new.self.items c.make_room.ensures.same
          (c.push_reserved.ensures.items ∙ ap (λ at. c.make_room.new.marks.items ++ record { checkpoint = Some plan.mark; at = at } ∷ []) c.calls-at.ensures) i;
      begun = None;
      broken = false;
    } in (
      plan.mark,
      refl,
      subst (λ v. Marks g.J.Job.meaning disk.tells disk.reads disk.call_number disk.images disk.images_since c.args.self.now v plan.mark) same
          (subst (λ v. Marks g.J.Job.meaning disk.tells disk.reads disk.call_number disk.images disk.images_since v (with_commit old c.write.new.disk after m) plan.mark) c.self.view_is
          (finished g.J.Job.meaning disk.tells disk.reads disk.call_number disk.images disk.images_since old u.logs c.self.invariant c.plan_of.ensures.core sound c.write.new.disk plan.frames plan.mark p (law.read_is_image u.disk) (λ told n image low now. law.counts_now u.disk n image told low now) c.write.ensures.any_moment c.write.new.self c.in-Ok.ensures.changelogs c.in-Ok.ensures.outputs after c.committed.ensures.commits (at_rest u.broken u.core allowed) (λ told image left. law.only_now c.write.new.disk image told left) (law.read_is_image c.write.new.disk) c.in-Ok.ensures.follows c.in-Ok.ensures.sound (c.in-Ok.ensures.counted ∙ ap (λ n. count_of u.logs.marks + n) p.frame.2.count_is))),
    )

pub returns-in_err-plan-clause-limit : goal.returns-in_err-plan-clause-limit
returns-in_err-plan-clause-limit g c =
    let u = c.self.inside in
    let disk = g.D.Disk in
    let old : UnitValue _ _ _ = record { job = g.J.Job.plain u.job.now; shelf = u.shelf; messages = u.messages.items; core = u.core; disk = u.disk; marks = reverse u.marks.items; begun = u.begun; broken = u.broken } in
    let sound : u.broken ≡ false = unbroken u.broken u.core (sym c.refusal.ensures.refusal ∙ c.in_default.is) in
    let p = err_from_is_err_and c.from_residual-in_err-plan.result c.from_residual-in_err-plan.ensures.1 in
    rw (p.1, p.2)
    (λ is told.
    subst (λ v. CommitPasses v (disk.reads v.disk)) c.self.view_is
    (passes g.J.Job.meaning disk.tells disk.reads disk.call_number disk.images disk.images_since old u.logs c.self.invariant c.plan_of.ensures.core sound told (c.in_err-plan.ensures.limit is)))

pub returns-clause-room : goal.returns-clause-room
returns-clause-room g c = λ told full.
    let u = c.self.inside in
    let disk = g.D.Disk in
    let old : UnitValue _ _ _ = record { job = g.J.Job.plain u.job.now; shelf = u.shelf; messages = u.messages.items; core = u.core; disk = u.disk; marks = reverse u.marks.items; begun = u.begun; broken = u.broken } in
    let sound : u.broken ≡ false = unbroken u.broken u.core (sym c.refusal.ensures.refusal ∙ c.in_default.is) in
    let plan = c.in_ok-plan.plan in
    has_room g.J.Job.meaning disk.tells disk.reads disk.call_number disk.images disk.images_since old u.logs c.self.invariant c.plan_of.ensures.core sound plan.frames plan.mark c.in_ok-plan.ensures.planned c.in_ok-plan.reach c.in_ok-plan.ensures.reaches told
    (subst (λ v. CommitPasses v (disk.reads v.disk)) (sym c.self.view_is) full)

pub returns-in-Err-clause-tested : goal.returns-in-Err-clause-tested
returns-in-Err-clause-tested g c = λ _ told full.
    let u = c.self.inside in
    let disk = g.D.Disk in
    let old : UnitValue _ _ _ = record { job = g.J.Job.plain u.job.now; shelf = u.shelf; messages = u.messages.items; core = u.core; disk = u.disk; marks = reverse u.marks.items; begun = u.begun; broken = u.broken } in
    let sound : u.broken ≡ false = unbroken u.broken u.core (sym c.refusal.ensures.refusal ∙ c.in_default.is) in
    let plan = c.in_ok-plan.plan in
    has_room g.J.Job.meaning disk.tells disk.reads disk.call_number disk.images disk.images_since old u.logs c.self.invariant c.plan_of.ensures.core sound plan.frames plan.mark c.in_ok-plan.ensures.planned c.in_ok-plan.reach c.in_ok-plan.ensures.reaches told
    (subst (λ v. CommitPasses v (disk.reads v.disk)) (sym c.self.view_is) full)

pub returns-clause-others_any_moment : goal.returns-clause-others_any_moment
returns-clause-others_any_moment g c = λ told.
    let u = c.self.inside in
    let disk = g.D.Disk in
    let old : UnitValue _ _ _ = record { job = g.J.Job.plain u.job.now; shelf = u.shelf; messages = u.messages.items; core = u.core; disk = u.disk; marks = reverse u.marks.items; begun = u.begun; broken = u.broken } in
    let sound : u.broken ≡ false = unbroken u.broken u.core (sym c.refusal.ensures.refusal ∙ c.in_default.is) in
    let plan = c.in_ok-plan.plan in
    subst (λ v. LeavesOnly disk.call_number disk.images disk.images_since v.disk c.write.new.disk (OthersStay (length v.core.setup.stores) (length v.core.setup.outputs))) c.self.view_is
    (leaves_others g.J.Job.meaning disk.tells disk.reads disk.call_number disk.images disk.images_since old u.logs c.self.invariant c.plan_of.ensures.core sound plan.frames plan.mark c.in_ok-plan.ensures.planned c.write.new.disk c.write.ensures.any_moment told)

pub returns-in-Err-clause-others_any_moment : goal.returns-in-Err-clause-others_any_moment
returns-in-Err-clause-others_any_moment g c = λ told.
    let u = c.self.inside in
    let disk = g.D.Disk in
    let old : UnitValue _ _ _ = record { job = g.J.Job.plain u.job.now; shelf = u.shelf; messages = u.messages.items; core = u.core; disk = u.disk; marks = reverse u.marks.items; begun = u.begun; broken = u.broken } in
    let sound : u.broken ≡ false = unbroken u.broken u.core (sym c.refusal.ensures.refusal ∙ c.in_default.is) in
    let plan = c.in_ok-plan.plan in
    subst (λ v. LeavesOnly disk.call_number disk.images disk.images_since v.disk c.write.new.disk (OthersStay (length v.core.setup.stores) (length v.core.setup.outputs))) c.self.view_is
    (leaves_others g.J.Job.meaning disk.tells disk.reads disk.call_number disk.images disk.images_since old u.logs c.self.invariant c.plan_of.ensures.core sound plan.frames plan.mark c.in_ok-plan.ensures.planned c.write.new.disk c.write.ensures.any_moment told)

pub returns-in_err-plan-clause-others_any_moment : goal.returns-in_err-plan-clause-others_any_moment
returns-in_err-plan-clause-others_any_moment g c = λ told.
    let u = c.self.inside in
    let disk = g.D.Disk in
    let law = (g.met.D.Disk g.world.𝓛 g.world.𝓜 g.world.𝓡 ((λ s x. x), (λ x. x), (λ x. x), λ x. x)) in
    subst (λ v. LeavesOnly disk.call_number disk.images disk.images_since v.disk u.disk (OthersStay (length v.core.setup.stores) (length v.core.setup.outputs))) c.self.view_is
    (others_still disk.reads disk.call_number disk.images disk.images_since u.disk (length u.core.setup.stores) (length u.core.setup.outputs) (λ f left. law.only_now u.disk f told left))

pub returns-clause-any_moment : goal.returns-clause-any_moment
returns-clause-any_moment g c = λ told _ contents before.
    let u = c.self.inside in
    let disk = g.D.Disk in
    let old : UnitValue _ _ _ = record { job = g.J.Job.plain u.job.now; shelf = u.shelf; messages = u.messages.items; core = u.core; disk = u.disk; marks = reverse u.marks.items; begun = u.begun; broken = u.broken } in
    let sound : u.broken ≡ false = unbroken u.broken u.core (sym c.refusal.ensures.refusal ∙ c.in_default.is) in
    let plan = c.in_ok-plan.plan in
    subst (λ v. LeavesOnly disk.call_number disk.images disk.images_since v.disk c.write.new.disk (CrashLeaves v (disk.reads v.disk) contents)) c.self.view_is
    (leaves_some g.J.Job.meaning disk.tells disk.reads disk.call_number disk.images disk.images_since old u.logs c.self.invariant c.plan_of.ensures.core sound plan.frames plan.mark c.in_ok-plan.ensures.planned c.write.new.disk c.write.ensures.any_moment told contents
    (subst (λ v. Restores v.core.setup (disk.reads v.disk) (last_mark v.marks) contents) (sym c.self.view_is) before))

pub returns-in-Err-clause-any_moment : goal.returns-in-Err-clause-any_moment
returns-in-Err-clause-any_moment g c = λ told _ contents before.
    let u = c.self.inside in
    let disk = g.D.Disk in
    let old : UnitValue _ _ _ = record { job = g.J.Job.plain u.job.now; shelf = u.shelf; messages = u.messages.items; core = u.core; disk = u.disk; marks = reverse u.marks.items; begun = u.begun; broken = u.broken } in
    let sound : u.broken ≡ false = unbroken u.broken u.core (sym c.refusal.ensures.refusal ∙ c.in_default.is) in
    let plan = c.in_ok-plan.plan in
    subst (λ v. LeavesOnly disk.call_number disk.images disk.images_since v.disk c.write.new.disk (CrashLeaves v (disk.reads v.disk) contents)) c.self.view_is
    (leaves_some g.J.Job.meaning disk.tells disk.reads disk.call_number disk.images disk.images_since old u.logs c.self.invariant c.plan_of.ensures.core sound plan.frames plan.mark c.in_ok-plan.ensures.planned c.write.new.disk c.write.ensures.any_moment told contents
    (subst (λ v. Restores v.core.setup (disk.reads v.disk) (last_mark v.marks) contents) (sym c.self.view_is) before))

pub returns-in_err-plan-clause-any_moment : goal.returns-in_err-plan-clause-any_moment
returns-in_err-plan-clause-any_moment g c = λ told _ contents before.
    let u = c.self.inside in
    let disk = g.D.Disk in
    let old : UnitValue _ _ _ = record { job = g.J.Job.plain u.job.now; shelf = u.shelf; messages = u.messages.items; core = u.core; disk = u.disk; marks = reverse u.marks.items; begun = u.begun; broken = u.broken } in
    let sound : u.broken ≡ false = unbroken u.broken u.core (sym c.refusal.ensures.refusal ∙ c.in_default.is) in
    let law = (g.met.D.Disk g.world.𝓛 g.world.𝓜 g.world.𝓡 ((λ s x. x), (λ x. x), (λ x. x), λ x. x)) in
    subst (λ v. LeavesOnly disk.call_number disk.images disk.images_since v.disk u.disk (CrashLeaves v (disk.reads v.disk) contents)) c.self.view_is
    (leaves_still g.J.Job.meaning disk.tells disk.reads disk.call_number disk.images disk.images_since old u.logs c.self.invariant c.plan_of.ensures.core sound told (λ f left. law.only_now u.disk f told left) contents
    (subst (λ v. Restores v.core.setup (disk.reads v.disk) (last_mark v.marks) contents) (sym c.self.view_is) before))

pub returns-in-Some-clause-any_moment : goal.returns-in-Some-clause-any_moment
returns-in-Some-clause-any_moment g c = λ told not_broken contents before.
    let u = c.self.inside in
    let disk = g.D.Disk in
    let old : UnitValue _ _ _ = record { job = g.J.Job.plain u.job.now; shelf = u.shelf; messages = u.messages.items; core = u.core; disk = u.disk; marks = reverse u.marks.items; begun = u.begun; broken = u.broken } in
    let law = (g.met.D.Disk g.world.𝓛 g.world.𝓜 g.world.𝓡 ((λ s x. x), (λ x. x), (λ x. x), λ x. x)) in
    let sound : u.broken ≡ false = ap (λ v. v.broken) c.self.view_is ∙ not_broken in
    subst (λ v. LeavesOnly disk.call_number disk.images disk.images_since v.disk v.disk (CrashLeaves v (disk.reads v.disk) contents)) c.self.view_is
    (leaves_still g.J.Job.meaning disk.tells disk.reads disk.call_number disk.images disk.images_since old u.logs c.self.invariant c.refusal.ensures.core sound told (λ f left. law.only_now u.disk f told left) contents
    (subst (λ v. Restores v.core.setup (disk.reads v.disk) (last_mark v.marks) contents) (sym c.self.view_is) before))

pub returns-in_err-make_room-clause-any_moment : goal.returns-in_err-make_room-clause-any_moment
returns-in_err-make_room-clause-any_moment g c = λ told not_broken contents before.
    let u = c.self.inside in
    let disk = g.D.Disk in
    let old : UnitValue _ _ _ = record { job = g.J.Job.plain u.job.now; shelf = u.shelf; messages = u.messages.items; core = u.core; disk = u.disk; marks = reverse u.marks.items; begun = u.begun; broken = u.broken } in
    let law = (g.met.D.Disk g.world.𝓛 g.world.𝓜 g.world.𝓡 ((λ s x. x), (λ x. x), (λ x. x), λ x. x)) in
    let sound : u.broken ≡ false = ap (λ v. v.broken) c.self.view_is ∙ not_broken in
    subst (λ v. LeavesOnly disk.call_number disk.images disk.images_since v.disk u.disk (CrashLeaves v (disk.reads v.disk) contents)) c.self.view_is
    (leaves_still g.J.Job.meaning disk.tells disk.reads disk.call_number disk.images disk.images_since old u.logs c.self.invariant c.refusal.ensures.core sound told (λ f left. law.only_now u.disk f told left) contents
    (subst (λ v. Restores v.core.setup (disk.reads v.disk) (last_mark v.marks) contents) (sym c.self.view_is) before))

pub returns-clause-durable : goal.returns-clause-durable
returns-clause-durable g c = λ told other is image now.
    let u = c.self.inside in
    let disk = g.D.Disk in
    let old : UnitValue _ _ _ = record { job = g.J.Job.plain u.job.now; shelf = u.shelf; messages = u.messages.items; core = u.core; disk = u.disk; marks = reverse u.marks.items; begun = u.begun; broken = u.broken } in
    let sound : u.broken ≡ false = unbroken u.broken u.core (sym c.refusal.ensures.refusal ∙ c.in_default.is) in
    let plan = c.in_ok-plan.plan in
    let m : KeptMark = record { checkpoint = Some plan.mark; at = disk.call_number c.write.new.disk } in
    let more = marks_more m u.marks.items c.make_room.new.marks.items c.push_reserved.new.self.items c.make_room.ensures.same
    (c.push_reserved.ensures.items ∙ ap (λ at. c.make_room.new.marks.items ++ record { checkpoint = Some plan.mark; at = at } ∷ []) c.calls-at.ensures) in
    let here = is_commit g.J.Job.meaning disk.tells disk.reads disk.call_number disk.images disk.images_since old u.logs c.self.invariant c.plan_of.ensures.core sound plan.frames plan.mark c.in_ok-plan.ensures.planned c.write.new.disk c.write.new.self c.in-Ok.ensures.follows told image now in
    subst (λ v. IsCommitOf v (disk.reads v.disk) image other) c.self.view_is
    (subst (λ o. IfSome o (λ k. IsCommitOf old (disk.reads u.disk) image k)) (ap last_mark more ∙ is) here)
