use Rattle.std.proofs.Common.{◌∙◌, ◌+◌, [], ◌++◌, ap, refl, subst, sym}
use Rattle.std.specs.Prelude.{filter}
use Rattle.samza_model.specs.Journals.{belongs}
use Rattle.core_steps.specs.Cores.{CoreValue, uncovered_now, Commits}
use Rattle.core_steps.proofs.Laws.{marked_parts, commit_is, commits}
use Rattle.task_core.specs.contracts.cores.Core.{the_view}
use Rattle.task_core.proofs.cores.Core.committed.Goals as goal

pub returns-clause-commits : goal.returns-clause-commits
returns-clause-commits c =
    let u = the_view c.self.inside in
    let plan = c.requires.kept.uncovered ∙ ap uncovered_now (sym c.self.view_is) in
    let trimmed = c.trim.ensures ∙ (λ i. record { since = []; kept = (c.requires.kept.events ∙ ap (λ (v : CoreValue). filter (belongs c.args.kept.uncovered) (v.since ++ v.kept)) (sym c.self.view_is)) i }) in
    let is = commit_is u c.clear.new.self c.trim.new.self c.committed.new.self _ c.args.kept.uncovered plan trimmed c.committed.ensures refl in
    subst (λ (v : CoreValue). Commits v (marked_parts u c.clear.new.self c.trim.new.self c.committed.new.self (u.last + 1))) c.self.view_is
    (commits u _ c.clear.new.self c.self.invariant c.clear.ensures is)
