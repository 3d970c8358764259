use Rattle.std.proofs.Common.{ℕ, ◌≡◌, ◌∙◌, ◌≤◌, List, [], get_or, sym, ap, subst}
use Rattle.disk_model.proofs.CrashSteps.{crash_unwritten}
use Rattle.disk_model.specs.HeldBytes.{HeldBytes}
use Rattle.disk_model.specs.Traces.{bytes_at, file_end}
use Rattle.disk_model.specs.declared.traces.Entry.{Entry}
use Rattle.disk_model.specs.declared.traces.Entry.TheVariants.{Quiet}
use Rattle.disk_model.proofs.traces.Trace.crash.Goals as goal
use Rattle.disk_model.proofs.traces.Trace.crash.Goals.{After-redo_all}

none_left : (c : After-redo_all) (f : ℕ) → c.args.self.now.there ≤ f → bytes_at c.redo_all.new.torn.items f ≡ []
none_left c f high =
    let t = c.args.self.now in
    let es = c.as_slice-2.result.now in
    let known : (k : ℕ) → file_end (get_or es k Quiet) ≤ t.there = subst (λ (l : List Entry). (k : ℕ) → file_end (get_or l k Quiet) ≤ t.there) (sym c.as_slice-2.ensures.value) t.known in
    crash_unwritten c.args.pick t.start.items es c.as_slice-3.result.now f t.there (bytes_at c.redo_all.new.torn.items f) known high (t.unstarted f high) (c.redo_all.ensures.torn f)

pub invariant_of-self-clause-unstarted : goal.invariant_of-self-clause-unstarted
invariant_of-self-clause-unstarted c = none_left (goal.at.invariant_of-self-clause-unstarted c).After-redo_all

pub invariant_of-self-clause-unwritten : goal.invariant_of-self-clause-unwritten
invariant_of-self-clause-unwritten c = λ f high.
    c.copy_all-2.ensures.bytes f
    ∙ ap (λ (l : List HeldBytes). bytes_at l f) c.as_slice-4.ensures.value
    ∙ none_left (goal.at.invariant_of-self-clause-unwritten c).After-redo_all f high
