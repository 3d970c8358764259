use Rattle.std.proofs.Common.{ℕ, ◌≡◌, ◌+◌, List, drop, ap, subst, ◌∙◌, arith, rules}
use Rattle.log_frame.specs.Frame.{Begins}
use Rattle.log_frame.specs.Reading.{frame_at}
use Rattle.topic_log.specs.Damage.{StopsAt}
use Rattle.std.specs.Prelude.{IfErr}
use Rattle.std.proofs.lemmas.Result.{IfErr-weaker}
use Rattle.topic_log.specs.declared.faults.LogFault.TheVariants.{Damaged}
use Rattle.topic_log.specs.Walks.{Shows, seen}
use Rattle.topic_log.proofs.Walking.{view_is, begins_more, begins_within, bad_within, stops, same_file, seen_all}
use Rattle.topic_log.proofs.windows.Window.frame_behind.Goals as goal

pub overflow_add-result : goal.overflow_add-result
overflow_add-result g c =
    omega (arith, bad_within c.view.result.now c.in-Err.bad.at c.in-Err.ensures.exact, c.view.ensures.len, c.in_ok-len.ensures.within.1, c.requires.small)

pub returns-in-Ok-clause-within : goal.returns-in-Ok-clause-within
returns-in-Ok-clause-within g c =
    let w = begins_within c.view.result.now c.in-Ok.checked.count c.in-Ok.checked.used c.in-Ok.ensures.found in
    (w.0, omega (arith, w.1, c.view.ensures.len, c.in_ok-len.ensures.within.1))

pub returns-in-Ok-clause-frame : goal.returns-in-Ok-clause-frame
returns-in-Ok-clause-frame g c = λ told.
    let file = g.D.Disk.reads c.args.disk.now c.args.self.now.file in
    let same = same_file (g.D.Disk.reads c.args.disk.now) (g.D.Disk.reads c.size_at.new.disk) c.args.self.now.file c.size_at.new.self.file (c.size_at.ensures.rests told).reads_are c.size_at.ensures.file in
    let shows = subst (λ (f : List ℕ). Shows c.load.new.self f) same (c.in_ok-load.ensures.shows told) in
    let is = c.view.ensures.view ∙ view_is c.load.new.self file c.args.at c.in_ok-len.len shows c.in_ok-load.ensures.covers in
    begins_more c.in_ok-len.len (drop c.args.at file) c.in-Ok.checked.count c.in-Ok.checked.used
    (subst (λ (l : List ℕ). Begins l c.in-Ok.checked.count c.in-Ok.checked.used) is c.in-Ok.ensures.found)

pub returns-in_err-len-clause-damaged : goal.returns-in_err-len-clause-damaged
returns-in_err-len-clause-damaged g c =
    let disk = g.D.Disk in
    let file = disk.reads c.args.disk.now c.args.self.now.file in
    let at = c.args.at in
    let size = c.args.self.now.size in
    let met : IfErr c.from_residual.result (λ e. (place : ℕ) → e ≡ Damaged place → disk.tells → StopsAt (seen size at file) at place) = search rules in
    IfErr-weaker c.from_residual.result _ _
    (λ e stops place is told. subst (λ (l : List ℕ). StopsAt l at place) (seen_all size at file (c.requires.size told)) (stops place is told)) met

pub returns-in-Err-clause-damaged : goal.returns-in-Err-clause-damaged
returns-in-Err-clause-damaged g c = λ place e told.
    let file = g.D.Disk.reads c.args.disk.now c.args.self.now.file in
    let same = same_file (g.D.Disk.reads c.args.disk.now) (g.D.Disk.reads c.size_at.new.disk) c.args.self.now.file c.size_at.new.self.file (c.size_at.ensures.rests told).reads_are c.size_at.ensures.file in
    let shows = subst (λ (f : List ℕ). Shows c.load.new.self f) same (c.in_ok-load.ensures.shows told) in
    let is = c.view.ensures.view ∙ view_is c.load.new.self file c.args.at c.in_ok-len.len shows c.in_ok-load.ensures.covers in
    let here : c.args.at + c.in-Err.bad.at ≡ place = cc in
    subst (λ (p : ℕ). StopsAt (drop c.args.at file) c.args.at p) here
    (stops file c.view.result.now c.args.at c.in_ok-len.len c.in-Err.bad.at is (c.in_ok-len.ensures.frame told ∙ ap frame_at (seen_all c.args.self.now.size c.args.at file (c.requires.size told))) c.in-Err.ensures.exact)
