use Rattle.std.proofs.Common.{◌≡◌, ◌+◌, ◌∷◌, List, None, sym, ◌∙◌, ap, drop}
use Rattle.std.proofs.lemmas.List.{at_drop_more, at_drop_all}
use Rattle.samza_model.specs.declared.messages.Envelope.{Envelope}
use Rattle.samza_model.specs.Runs.{End, runs, folds}
use Rattle.samza_model.proofs.Laws.{fold_goes_on, fold_of_none, fold_stops}
use Rattle.slow_model.proofs.turns.fold_all.Goals as goal

pub loop-envelope-preserved : goal.loop-envelope-preserved
loop-envelope-preserved g c =
    let job = g.J.Job.meaning (g.J.Job.plain c.args.job.now) in
    let s = c.args.setup.now in
    let i = c.loop-envelope.envelope-index in
    let rest = drop (i + 1) c.args.envelopes.now in
    let e = c.envelope-item.result in
    let state = c.loop-envelope.state in
    let ran : runs job s e state ≡ record { state = c.run_one.new.state; end = None } = c.in_ok-run_one.ensures ∙ ap (λ (end : End). record { state = c.run_one.new.state; end = end }) c.in-None.is in
    sym (fold_goes_on job s rest e state c.run_one.new.state ran)
    ∙ ap (λ (x : Envelope). folds job s (x ∷ rest) state) c.envelope-item.is
    ∙ sym (at_drop_more (λ (es : List Envelope). folds job s es state) c.args.envelopes.now i e c.loop-envelope-test.true)
    ∙ c.loop-envelope.invariant

pub returns-in-Some : goal.returns-in-Some
returns-in-Some g c =
    let job = g.J.Job.meaning (g.J.Job.plain c.args.job.now) in
    let s = c.args.setup.now in
    let i = c.loop-envelope.envelope-index in
    let rest = drop (i + 1) c.args.envelopes.now in
    let e = c.envelope-item.result in
    let state = c.loop-envelope.state in
    sym (fold_stops job s rest e state c.run_one.new.state c.in-Some.field-0 (c.in_ok-run_one.ensures ∙ ap (λ (end : End). record { state = c.run_one.new.state; end = end }) c.in-Some.is))
    ∙ ap (λ (x : Envelope). folds job s (x ∷ rest) state) c.envelope-item.is
    ∙ sym (at_drop_more (λ (es : List Envelope). folds job s es state) c.args.envelopes.now i e c.loop-envelope-test.true)
    ∙ c.loop-envelope.invariant

pub returns : goal.returns
returns g c =
    let job = g.J.Job.meaning (g.J.Job.plain c.args.job.now) in
    let s = c.args.setup.now in
    let state = c.loop-envelope.state in
    sym (fold_of_none job s state) ∙ sym (at_drop_all (λ (es : List Envelope). folds job s es state) c.args.envelopes.now c.loop-envelope.envelope-index c.loop-envelope-test.false) ∙ c.loop-envelope.invariant
