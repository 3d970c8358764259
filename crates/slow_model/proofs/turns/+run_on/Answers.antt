use Rattle.std.proofs.Common.{◌≡◌, ◌-◌, ◌++◌, ◌∷◌, [], List, Some, None, IfOk, sym, ◌∙◌, ap, subst}
use Rattle.samza_model.specs.declared.acts.Answer.{Answer}
use Rattle.samza_model.specs.Content.{State, changed, answer_of}
use Rattle.samza_model.specs.Runs.{Run, end_at, run_on}
use Rattle.samza_model.proofs.Laws.{turn_ends, turn_goes_on, turn_is_over}
use Rattle.slow_model.proofs.turns.+run_on.Goals as goal

pub returns-in-Some : goal.returns-in-Some
returns-in-Some g t c =
    let job = g.J.Job.meaning (g.J.Job.plain c.args.job.now) in
    let e = c.args.envelope.now in
    let act = c.in_ok-act.act in
    let is : act ≡ job.act e c.args.answers.items = c.in_ok-act.ensures ∙ ap (λ (l : List Answer). job.act e l) c.as_slice.ensures.value in
    let at : end_at c.args.setup.now act ≡ Some c.in-Some.end = sym c.end_at.ensures ∙ c.in-Some.is in
    turn_ends job c.args.setup.now e c.args.state.now c.args.answers.items c.args.left act c.in-Some.end is at

pub returns-then-left-eq0 : goal.returns-then-left-eq0
returns-then-left-eq0 g t c =
    let job = g.J.Job.meaning (g.J.Job.plain c.args.job.now) in
    let e = c.args.envelope.now in
    let act = c.in_ok-act.act in
    let is : act ≡ job.act e c.args.answers.items = c.in_ok-act.ensures ∙ ap (λ (l : List Answer). job.act e l) c.as_slice.ensures.value in
    let at : end_at c.args.setup.now act ≡ None = sym c.end_at.ensures ∙ c.in_default.is in
    turn_is_over job c.args.setup.now e c.args.state.now c.args.answers.items c.args.left act is at c.if-left-eq0.true

pub returns : goal.returns
returns g t c =
    let job = g.J.Job.meaning (g.J.Job.plain c.args.job.now) in
    let s = c.args.setup.now in
    let e = c.args.envelope.now in
    let state = c.args.state.now in
    let answers = c.args.answers.items in
    let left = c.args.left - 1 in
    let act = c.in_ok-act.act in
    let is : act ≡ job.act e answers = c.in_ok-act.ensures ∙ ap (λ (l : List Answer). job.act e l) c.as_slice.ensures.value in
    let at : end_at s act ≡ None = sym c.end_at.ensures ∙ c.in_default.is in
    let on = turn_goes_on job s e state answers c.args.left act is at c.if-left-eq0.false in
    let pushed : c.push.new.self.items ≡ answers ++ answer_of state act ∷ [] = c.in_ok-push.ensures.items ∙ ap (λ (a : Answer). answers ++ a ∷ []) c.in_ok-answer_to.ensures in
    let same : run_on job s e left c.make.new.self c.push.new.self.items ≡ run_on job s e left (changed state act) (answers ++ answer_of state act ∷ []) =
    ap (λ (st : State). run_on job s e left st c.push.new.self.items) c.in_ok-make.ensures ∙ ap (λ (l : List Answer). run_on job s e left (changed state act) l) pushed in
    subst (λ (r : Run). IfOk c.run_on.result (λ end. r ≡ record { state = c.run_on.new.state; end = end })) (same ∙ sym on) c.run_on.ensures
