use Rattle.std.proofs.Common.{◌≡◌, subst, sym, ap, ◌∙◌, ◌+◌, All, length, List, false, rules, arith, ◌≢◌}
use Rattle.std.proofs.lemmas.List.{length_push}
use Rattle.std.proofs.lemmas.List.Elements.{All-push}
use Rattle.kv_store.specs.Tracked.{AreWithinLimits}
use Rattle.samza_model.specs.Content.{Content}
use Rattle.restore_trim.specs.declared.faults.OpenFault.TheVariants.{NoMemory}
use Rattle.topic_log.specs.declared.logs.Log.{Log}
use Rattle.samza_model.specs.Files.{changelog_file}
use Rattle.topic_log.specs.Opened.{is_broken}
use Rattle.disk_model.specs.Images.{LeavesOnly}
use Rattle.restore_trim.specs.Crashes.{RevertsFile}
use Rattle.restore_trim.specs.Refused.{StoreOpens, WhyNoStore}
use Rattle.restore_trim.specs.Standing.{AllSound, HoldsStore}
use Rattle.restore_trim.proofs.SoFar.{stores_step, store_refused}
use Rattle.restore_trim.proofs.Tails.{stores_done, stores_left, stores_then}
use Rattle.restore_trim.proofs.restoring.open_stores.Goals as goal

pub returns-in-Err-clause-why : goal.returns-in-Err-clause-why
returns-in-Err-clause-why g c =
    let disk = g.D.Disk in
    store_refused disk.tells disk.reads disk.images c.args.disk.now c.loop-i.disk c.args.mark.now c.args.stores c.loop-i.i c.loop-i.logs.items c.loop-i.tables.items c.in-Err.fault c.loop-i-test.true c.loop-i.invariant.0
    (λ told. subst (λ n. WhyNoStore (disk.reads c.loop-i.disk) c.loop-i.i n c.in-Err.fault) c.counted.ensures (c.in-Err.ensures.why told))

pub loop-i-preserved : goal.loop-i-preserved
loop-i-preserved g c =
    let disk = g.D.Disk in
    let law = (g.met.D.Disk g.world.𝓛 g.world.𝓜 g.world.𝓡 ((λ s x. x), (λ x. x), (λ x. x), λ x. x)) in
    let step = stores_step disk.tells disk.reads disk.images c.args.disk.now c.loop-i.disk c.open_store.new.disk c.args.mark.now c.loop-i.i c.loop-i.logs.items c.loop-i.tables.items c.in-Ok.opened.0 c.in-Ok.opened.1 c.loop-i.invariant.0
    (λ told. subst (λ n. HoldsStore (disk.reads c.loop-i.disk) (disk.reads c.open_store.new.disk) (disk.images c.open_store.new.disk) (changelog_file c.loop-i.i) n c.in-Ok.opened.0 c.in-Ok.opened.1) c.counted.ensures (c.in-Ok.ensures.store told))
    (λ told. subst (λ n. StoreOpens (disk.reads c.loop-i.disk) c.loop-i.i n) c.counted.ensures (c.in-Ok.ensures.opens told))
    c.in-Ok.ensures.elsewhere c.in-Ok.ensures.others in (
      rw (c.in-Ok-put.ensures, c.in-Ok-put-2.ensures) step,
      ap (λ (l : List Log). length l) c.in-Ok-put.ensures ∙ length_push c.loop-i.logs.items c.in-Ok.opened.0 ∙ ap (λ k. k + 1) c.loop-i.invariant.1,
      ap (λ (l : List Content). length l) c.in-Ok-put-2.ensures ∙ length_push c.loop-i.tables.items c.in-Ok.opened.1 ∙ ap (λ k. k + 1) c.loop-i.invariant.2,
      subst (λ (l : List Log). AllSound l) (sym c.in-Ok-put.ensures) (All-push (λ (l : Log). is_broken l ≡ false) c.loop-i.logs.items c.in-Ok.opened.0 c.loop-i.invariant.3 c.in-Ok.ensures.sound),
      subst (λ (l : List Content). All AreWithinLimits l) (sym c.in-Ok-put-2.ensures) (All-push AreWithinLimits c.loop-i.tables.items c.in-Ok.opened.1 c.loop-i.invariant.4 c.in-Ok.ensures.limits),
      record {
        moment = λ told. stores_then disk.reads disk.call_number disk.images disk.images_since c.args.disk.now c.loop-i.disk c.open_store.new.disk c.args.mark.now c.loop-i.i (λ k f le left. law.counts_now c.loop-i.disk k f told le left) (c.loop-i.invariant.5.moment told)
            (subst (λ n. LeavesOnly disk.call_number disk.images disk.images_since c.loop-i.disk c.open_store.new.disk (RevertsFile (changelog_file c.loop-i.i) n)) c.counted.ensures (c.open_store.ensures.any_moment told));
      },
      search rules,
    )

pub returns-in-Err-put-clause-why : goal.returns-in-Err-put-clause-why
returns-in-Err-put-clause-why g c =
    let disk = g.D.Disk in
    store_refused disk.tells disk.reads disk.images c.args.disk.now c.loop-i.disk c.args.mark.now c.args.stores c.loop-i.i c.loop-i.logs.items c.loop-i.tables.items NoMemory c.loop-i-test.true c.loop-i.invariant.0 (λ told. tt)

pub returns-in-Err-put-2-clause-why : goal.returns-in-Err-put-2-clause-why
returns-in-Err-put-2-clause-why g c =
    let disk = g.D.Disk in
    store_refused disk.tells disk.reads disk.images c.args.disk.now c.loop-i.disk c.args.mark.now c.args.stores c.loop-i.i c.loop-i.logs.items c.loop-i.tables.items NoMemory c.loop-i-test.true c.loop-i.invariant.0 (λ told. tt)

pub loop-i-init : goal.loop-i-init
loop-i-init g c =
    let disk = g.D.Disk in
    let law = (g.met.D.Disk g.world.𝓛 g.world.𝓜 g.world.𝓡 ((λ s x. x), (λ x. x), (λ x. x), λ x. x)) in (
      search rules,
      search rules,
      search rules,
      search rules,
      search rules,
      record { moment = λ told. stores_left disk.reads disk.call_number disk.images disk.images_since c.args.disk.now c.args.mark.now (λ f left. law.only_now c.args.disk.now f told left) },
      search rules,
    )

pub returns-in-Err-clause-any_moment : goal.returns-in-Err-clause-any_moment
returns-in-Err-clause-any_moment g c = λ told.
    let disk = g.D.Disk in
    let law = (g.met.D.Disk g.world.𝓛 g.world.𝓜 g.world.𝓡 ((λ s x. x), (λ x. x), (λ x. x), λ x. x)) in
    stores_done disk.reads disk.call_number disk.images disk.images_since c.args.disk.now c.open_store.new.disk c.args.mark.now (c.loop-i.i + 1) c.args.stores (omega (arith, c.loop-i-test.true))
    (stores_then disk.reads disk.call_number disk.images disk.images_since c.args.disk.now c.loop-i.disk c.open_store.new.disk c.args.mark.now c.loop-i.i (λ k f le left. law.counts_now c.loop-i.disk k f told le left) (c.loop-i.invariant.5.moment told)
    (subst (λ n. LeavesOnly disk.call_number disk.images disk.images_since c.loop-i.disk c.open_store.new.disk (RevertsFile (changelog_file c.loop-i.i) n)) c.counted.ensures (c.open_store.ensures.any_moment told)))

pub returns-in-Err-put-clause-any_moment : goal.returns-in-Err-put-clause-any_moment
returns-in-Err-put-clause-any_moment g c = λ told.
    let disk = g.D.Disk in
    let law = (g.met.D.Disk g.world.𝓛 g.world.𝓜 g.world.𝓡 ((λ s x. x), (λ x. x), (λ x. x), λ x. x)) in
    stores_done disk.reads disk.call_number disk.images disk.images_since c.args.disk.now c.open_store.new.disk c.args.mark.now (c.loop-i.i + 1) c.args.stores (omega (arith, c.loop-i-test.true))
    (stores_then disk.reads disk.call_number disk.images disk.images_since c.args.disk.now c.loop-i.disk c.open_store.new.disk c.args.mark.now c.loop-i.i (λ k f le left. law.counts_now c.loop-i.disk k f told le left) (c.loop-i.invariant.5.moment told)
    (subst (λ n. LeavesOnly disk.call_number disk.images disk.images_since c.loop-i.disk c.open_store.new.disk (RevertsFile (changelog_file c.loop-i.i) n)) c.counted.ensures (c.open_store.ensures.any_moment told)))

pub returns-in-Err-put-2-clause-any_moment : goal.returns-in-Err-put-2-clause-any_moment
returns-in-Err-put-2-clause-any_moment g c = λ told.
    let disk = g.D.Disk in
    let law = (g.met.D.Disk g.world.𝓛 g.world.𝓜 g.world.𝓡 ((λ s x. x), (λ x. x), (λ x. x), λ x. x)) in
    stores_done disk.reads disk.call_number disk.images disk.images_since c.args.disk.now c.open_store.new.disk c.args.mark.now (c.loop-i.i + 1) c.args.stores (omega (arith, c.loop-i-test.true))
    (stores_then disk.reads disk.call_number disk.images disk.images_since c.args.disk.now c.loop-i.disk c.open_store.new.disk c.args.mark.now c.loop-i.i (λ k f le left. law.counts_now c.loop-i.disk k f told le left) (c.loop-i.invariant.5.moment told)
    (subst (λ n. LeavesOnly disk.call_number disk.images disk.images_since c.loop-i.disk c.open_store.new.disk (RevertsFile (changelog_file c.loop-i.i) n)) c.counted.ensures (c.open_store.ensures.any_moment told)))

pub returns-clause-any_moment : goal.returns-clause-any_moment
returns-clause-any_moment g c = λ told.
    let disk = g.D.Disk in
    stores_done disk.reads disk.call_number disk.images disk.images_since c.args.disk.now c.loop-i.disk c.args.mark.now c.loop-i.i c.args.stores (omega arith) (c.loop-i.invariant.5.moment told)

pub returns-in-Err-clause-refused : goal.returns-in-Err-clause-refused
returns-in-Err-clause-refused g c = λ other told f le.
    let ne : f ≢ changelog_file c.loop-i.i = λ e. absurd (omega (arith, e, le, c.loop-i-test.true)) in
    c.in-Err.ensures.refused other told f ne ∙ c.loop-i.invariant.0.behind told f (omega (arith, le, c.loop-i-test.true))

pub returns-in-Err-put-clause-refused : goal.returns-in-Err-put-clause-refused
returns-in-Err-put-clause-refused g c = λ other told f le.
    let ne : f ≢ changelog_file c.loop-i.i = λ e. absurd (omega (arith, e, le, c.loop-i-test.true)) in
    c.in-Ok.ensures.elsewhere told f ne ∙ c.loop-i.invariant.0.behind told f (omega (arith, le, c.loop-i-test.true))

pub returns-in-Err-put-2-clause-refused : goal.returns-in-Err-put-2-clause-refused
returns-in-Err-put-2-clause-refused g c = λ other told f le.
    let ne : f ≢ changelog_file c.loop-i.i = λ e. absurd (omega (arith, e, le, c.loop-i-test.true)) in
    c.in-Ok.ensures.elsewhere told f ne ∙ c.loop-i.invariant.0.behind told f (omega (arith, le, c.loop-i-test.true))

pub returns-in-Err-clause-told : goal.returns-in-Err-clause-told
returns-in-Err-clause-told g c = (c.loop-i.i, c.loop-i-test.true, c.in-Err.ensures.told)

pub returns-in-Err-put-clause-told : goal.returns-in-Err-put-clause-told
returns-in-Err-put-clause-told g c = (c.loop-i.i, c.loop-i-test.true, tt)

pub returns-in-Err-put-2-clause-told : goal.returns-in-Err-put-2-clause-told
returns-in-Err-put-2-clause-told g c = (c.loop-i.i, c.loop-i-test.true, tt)
