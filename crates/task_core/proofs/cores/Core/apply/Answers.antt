use Rattle.std.proofs.Common.{ℕ, ◌≡◌, ◌↔◌, List, Some, Err, IfOk, subst}
use Rattle.samza_model.specs.declared.acts.Act.{Act}
use Rattle.samza_model.specs.declared.acts.Answer.{Answer}
use Rattle.samza_model.specs.declared.flights.Flight.{Flight}
use Rattle.samza_model.specs.declared.turns.Turn.TheVariants.{Call, Window}
use Rattle.samza_model.specs.Events.{flight_of}
use Rattle.task_core.specs.declared.applied.Applied.{Applied}
use Rattle.task_core.specs.declared.faults.ApplyFault.TheVariants.{Unknown}
use Rattle.task_core.specs.Acting.{applied, applied_now, applied_in_window, course_of, window_course}
use Rattle.task_core.specs.Applying.{IsUnknown}
use Rattle.task_core.specs.Stepping.{SteppedValue}
use Rattle.task_core.proofs.Asked.{if_call, if_window}
use Rattle.task_core.proofs.cores.Core.apply.Goals as goal

pub returns-clause-applied : goal.returns-clause-applied
returns-clause-applied g c =
    let u = c.args.self.now in
    let r = c.apply_act.result in
    subst (λ (v : SteppedValue _). (n : ℕ) (f : Flight) → v.question.turn ≡ Call n → flight_of n u.callbacks.flights ≡ Some f → IfOk r (λ a. a ≡ applied_now (g.J.Job.meaning v.job) u f)) c.stepped.view_is
    (λ n f turn flies. if_call (λ (act : Act) (a : Applied). a ≡ applied act (course_of u f act)) _ u _ _ n f r c.stepped.invariant c.apply_act.ensures.current turn flies (c.apply_act.ensures.applied n f turn flies))

pub returns-clause-window_applied : goal.returns-clause-window_applied
returns-clause-window_applied g c =
    let u = c.args.self.now in
    let r = c.apply_act.result in
    subst (λ (v : SteppedValue _). (answers : List Answer) → v.question.turn ≡ Window → u.window ≡ Some answers → IfOk r (λ a. a ≡ applied_in_window (g.J.Job.meaning v.job) u answers)) c.stepped.view_is
    (λ answers turn opened. if_window (λ (act : Act) (a : Applied). a ≡ applied act (window_course u answers act)) _ u _ _ answers r c.stepped.invariant c.apply_act.ensures.current turn opened (c.apply_act.ensures.window_applied answers turn opened))

pub returns-clause-unknown : goal.returns-clause-unknown
returns-clause-unknown g c = subst (λ (v : SteppedValue _). (c.apply_act.result ≡ Err Unknown) ↔ IsUnknown c.args.self.now v.question) c.stepped.view_is c.apply_act.ensures.unknown
