use Rattle.std.proofs.Common.{sym, ◌∙◌, ap, subst}
use Rattle.std.specs.List.{AllByRecursion}
use Rattle.std.proofs.lemmas.List.{take_all}
use Rattle.samza_model.specs.Limits.{IsWithinLimits}
use Rattle.kv_store.specs.Tracked.{records_of}
use Rattle.changelog.proofs.Reverting.{replayed-reverted, within-records_of}
use Rattle.changelog.proofs.reverts.revert.Goals as goal

pub returns-clause-reverts : goal.returns-clause-reverts
returns-clause-reverts c = λ count logged content touched.
    let are = c.loop-key.invariant ∙ ap (records_of c.args.table.now) (take_all c.loop-key.key-index c.args.touched.now c.loop-key-test.false) in
    replayed-reverted count logged c.loop-key.records.items c.args.table.now c.args.touched.now are content touched

pub returns-clause-limits : goal.returns-clause-limits
returns-clause-limits c = λ content touched.
    let are = c.loop-key.invariant ∙ ap (records_of c.args.table.now) (take_all c.loop-key.key-index c.args.touched.now c.loop-key-test.false) in
    subst (AllByRecursion IsWithinLimits) (sym are) (within-records_of c.args.table.now c.args.touched.now content touched)
