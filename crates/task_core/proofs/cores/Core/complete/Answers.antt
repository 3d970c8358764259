use Rattle.std.proofs.Common.{◌∙◌, ◌≡◌, ap, subst, sym, is_some, true}
use Rattle.samza_model.specs.Events.{flight_of}
use Rattle.core_steps.specs.Cores.{CoreValue, IsCore, after_complete}
use Rattle.core_steps.proofs.Laws.{some_of, ready, complete_is, completed_core, complete_adds}
use Rattle.task_core.specs.contracts.cores.Core.{the_view}
use Rattle.task_core.proofs.cores.Core.complete.Goals as goal

pub complete_one-requires-clause-place : goal.complete_one-requires-clause-place
complete_one-requires-clause-place c =
    let u = the_view c.self.inside in
    let s = some_of (flight_of c.args.number u.callbacks.flights) (subst (λ (v : CoreValue). is_some (flight_of c.args.number v.callbacks.flights) ≡ true) (sym c.self.view_is) c.requires.flies) in
    (ready u c.args.number s.0 c.ended-entry.result c.self.invariant s.1 (c.ended-entry.ensures.entry s.0 s.1)).place

pub complete_one-requires-clause-inside : goal.complete_one-requires-clause-inside
complete_one-requires-clause-inside c =
    let u = the_view c.self.inside in
    let s = some_of (flight_of c.args.number u.callbacks.flights) (subst (λ (v : CoreValue). is_some (flight_of c.args.number v.callbacks.flights) ≡ true) (sym c.self.view_is) c.requires.flies) in
    (ready u c.args.number s.0 c.ended-entry.result c.self.invariant s.1 (c.ended-entry.ensures.entry s.0 s.1)).inside

pub complete_one-requires-clause-open : goal.complete_one-requires-clause-open
complete_one-requires-clause-open c =
    let u = the_view c.self.inside in
    let s = some_of (flight_of c.args.number u.callbacks.flights) (subst (λ (v : CoreValue). is_some (flight_of c.args.number v.callbacks.flights) ≡ true) (sym c.self.view_is) c.requires.flies) in
    (ready u c.args.number s.0 c.ended-entry.result c.self.invariant s.1 (c.ended-entry.ensures.entry s.0 s.1)).undone

pub invariant_of-self-2 : goal.invariant_of-self-2
invariant_of-self-2 c =
    let u = the_view c.self.inside in
    let s = some_of (flight_of c.args.number u.callbacks.flights) (subst (λ (v : CoreValue). is_some (flight_of c.args.number v.callbacks.flights) ≡ true) (sym c.self.view_is) c.requires.flies) in
    completed_core u _ c.args.number s.0 c.self.invariant s.1
    (complete_is u c.args.number s.0 c.ended-entry.result c.complete_one.new.lanes.items c.recycle.new.callbacks c.push.new.self s.1 (c.ended-entry.ensures.entry s.0 s.1) c.complete_one.ensures (c.recycle.ensures ∙ c.ended-entry.ensures.rest) c.in_ok-push.ensures.ok)

pub returns-clause-added : goal.returns-clause-added
returns-clause-added c = λ f flies.
    let u = the_view c.self.inside in
    let flies' = ap (λ (v : CoreValue). flight_of c.args.number v.callbacks.flights) c.self.view_is ∙ flies in
    let is = complete_is u c.args.number f c.ended-entry.result c.complete_one.new.lanes.items c.recycle.new.callbacks c.push.new.self flies' (c.ended-entry.ensures.entry f flies') c.complete_one.ensures (c.recycle.ensures ∙ c.ended-entry.ensures.rest) c.in_ok-push.ensures.ok in
    complete_adds c.args.self.now _ c.args.number f (subst IsCore c.self.view_is c.self.invariant) flies (is ∙ ap (λ (v : CoreValue). after_complete v f) c.self.view_is)
