use Rattle.std.proofs.Common.{rules, ap, sym, subst, ◌∙◌, ◌≡◌, ◌+◌, ◌≢◌, ◌<◌, ◌≤◌, ◌⊎◌, inl, inr, length, List, false, arith}
use Rattle.std.proofs.lemmas.List.Elements.{All-push}
use Rattle.topic_log.specs.declared.logs.Log.{Log}
use Rattle.topic_log.specs.Opened.{is_broken}
use Rattle.samza_model.specs.Files.{Image, output_file}
use Rattle.restore_trim.specs.Standing.{AllSound}
use Rattle.std.proofs.lemmas.List.{length_push}
use Rattle.restore_trim.proofs.SoFar.{outputs_step, output_refused}
use Rattle.restore_trim.proofs.Tails.{outputs_done, outputs_left, outputs_then}
use Rattle.restore_trim.proofs.restoring.open_outputs.Goals as goal

pub returns-in-Err-clause-why : goal.returns-in-Err-clause-why
returns-in-Err-clause-why g c =
    let disk = g.D.Disk in
    output_refused disk.tells disk.reads disk.images c.args.disk.now c.loop-j.disk c.args.outputs c.loop-j.j c.loop-j.logs.items c.in-Err.fault c.loop-j-test.true c.loop-j.invariant.0 c.in-Err.ensures.why

pub loop-j-preserved : goal.loop-j-preserved
loop-j-preserved g c =
    let disk = g.D.Disk in
    let law = (g.met.D.Disk g.world.𝓛 g.world.𝓜 g.world.𝓡 ((λ s x. x), (λ x. x), (λ x. x), λ x. x)) in
    let step = outputs_step disk.tells disk.reads disk.images c.args.disk.now c.loop-j.disk c.open_file.new.disk c.loop-j.j c.loop-j.logs.items c.in-Ok.log c.loop-j.invariant.0 c.in-Ok.ensures.stands c.in-Ok.ensures.elsewhere c.in-Ok.ensures.others in (
      rw c.in-Ok-put.ensures step,
      ap length c.in-Ok-put.ensures ∙ length_push c.loop-j.logs.items c.in-Ok.log ∙ ap (λ k. k + 1) c.loop-j.invariant.1,
      subst (λ (l : List Log). AllSound l) (sym c.in-Ok-put.ensures) (All-push (λ (l : Log). is_broken l ≡ false) c.loop-j.logs.items c.in-Ok.log c.loop-j.invariant.2 c.in-Ok.ensures.sound),
      record { moment = λ told. outputs_then disk.reads disk.call_number disk.images disk.images_since c.args.disk.now c.loop-j.disk c.open_file.new.disk c.loop-j.j (λ k f le left. law.counts_now c.loop-j.disk k f told le left) (c.loop-j.invariant.3.moment told) (c.open_file.ensures.any_moment told) },
      search rules,
    )

pub loop-j-init : goal.loop-j-init
loop-j-init g c =
    let disk = g.D.Disk in
    let law = (g.met.D.Disk g.world.𝓛 g.world.𝓜 g.world.𝓡 ((λ s x. x), (λ x. x), (λ x. x), λ x. x)) in (
      search rules,
      search rules,
      search rules,
      record { moment = λ told. outputs_left disk.reads disk.call_number disk.images disk.images_since c.args.disk.now (λ f left. law.only_now c.args.disk.now f told left) },
      search rules,
    )

pub returns-in-Err-clause-any_moment : goal.returns-in-Err-clause-any_moment
returns-in-Err-clause-any_moment g c = λ told.
    let disk = g.D.Disk in
    let law = (g.met.D.Disk g.world.𝓛 g.world.𝓜 g.world.𝓡 ((λ s x. x), (λ x. x), (λ x. x), λ x. x)) in
    outputs_done disk.reads disk.call_number disk.images disk.images_since c.args.disk.now c.open_file.new.disk (c.loop-j.j + 1) c.args.outputs (omega (arith, c.loop-j-test.true))
    (outputs_then disk.reads disk.call_number disk.images disk.images_since c.args.disk.now c.loop-j.disk c.open_file.new.disk c.loop-j.j (λ k f le left. law.counts_now c.loop-j.disk k f told le left) (c.loop-j.invariant.3.moment told) (c.open_file.ensures.any_moment told))

pub returns-in-Err-put-clause-any_moment : goal.returns-in-Err-put-clause-any_moment
returns-in-Err-put-clause-any_moment g c = λ told.
    let disk = g.D.Disk in
    let law = (g.met.D.Disk g.world.𝓛 g.world.𝓜 g.world.𝓡 ((λ s x. x), (λ x. x), (λ x. x), λ x. x)) in
    outputs_done disk.reads disk.call_number disk.images disk.images_since c.args.disk.now c.open_file.new.disk (c.loop-j.j + 1) c.args.outputs (omega (arith, c.loop-j-test.true))
    (outputs_then disk.reads disk.call_number disk.images disk.images_since c.args.disk.now c.loop-j.disk c.open_file.new.disk c.loop-j.j (λ k f le left. law.counts_now c.loop-j.disk k f told le left) (c.loop-j.invariant.3.moment told) (c.open_file.ensures.any_moment told))

pub returns-clause-any_moment : goal.returns-clause-any_moment
returns-clause-any_moment g c = λ told.
    let disk = g.D.Disk in
    outputs_done disk.reads disk.call_number disk.images disk.images_since c.args.disk.now c.loop-j.disk c.loop-j.j c.args.outputs (omega arith) (c.loop-j.invariant.3.moment told)

pub returns-in-Err-clause-refused : goal.returns-in-Err-clause-refused
returns-in-Err-clause-refused g c = λ other told f out.
    let so_far : (f < output_file 0) ⊎ (output_file 0 + c.loop-j.j ≤ f) = elim out [ inl low ↦ inl low | inr high ↦ inr (omega (arith, high, c.loop-j-test.true)) ] in
    ap (λ (i : Image). i f) (c.in-Err.ensures.refused other told) ∙ c.loop-j.invariant.0.elsewhere told f so_far

pub returns-in-Err-put-clause-refused : goal.returns-in-Err-put-clause-refused
returns-in-Err-put-clause-refused g c = λ other told f out.
    let so_far : (f < output_file 0) ⊎ (output_file 0 + c.loop-j.j ≤ f) = elim out [ inl low ↦ inl low | inr high ↦ inr (omega (arith, high, c.loop-j-test.true)) ] in
    let ne : f ≢ output_file c.loop-j.j = λ e. elim out [ inl low ↦ absurd (omega (arith, e, low)) | inr high ↦ absurd (omega (arith, e, high, c.loop-j-test.true)) ] in
    c.in-Ok.ensures.elsewhere told f ne ∙ c.loop-j.invariant.0.elsewhere told f so_far

pub returns-in-Err-clause-told : goal.returns-in-Err-clause-told
returns-in-Err-clause-told g c = (c.loop-j.j, c.loop-j-test.true, c.in-Err.ensures.told)

pub returns-in-Err-put-clause-told : goal.returns-in-Err-put-clause-told
returns-in-Err-put-clause-told g c = (c.loop-j.j, c.loop-j-test.true, tt)
