use Rattle.std.proofs.Common.{ℕ, ◌≡◌, List, length, sym, ◌∙◌, subst}
use Rattle.std.proofs.lemmas.Result.{IfErr-weaker}
use Rattle.samza_model.specs.Frames.{frame_bytes}
use Rattle.topic_log.specs.Walks.{Shows}
use Rattle.topic_log.specs.declared.faults.LogFault.TheVariants.{Damaged, NoMemory}
use Rattle.topic_log.proofs.Batching.{frame_is, seen_stays}
use Rattle.topic_log.proofs.Walking.{view_is, same_file}
use Rattle.topic_log.proofs.batches.read_frame.Goals as goal

pub returns-in-Err-clause-whole : goal.returns-in-Err-clause-whole
returns-in-Err-clause-whole g c = λ told records rest fits split place e.
    seen_stays (g.D.Disk.reads c.args.disk.now c.args.window.now.file) c.args.window.now.size c.args.at records rest fits split c.args.at place (c.in-Err.ensures.damaged place e told)

pub returns-clause-frame : goal.returns-clause-frame
returns-clause-frame g c = λ told records rest fits split.
    let file = g.D.Disk.reads c.args.disk.now c.args.window.now.file in
    let same = same_file (g.D.Disk.reads c.args.disk.now) (g.D.Disk.reads c.size_at.new.disk) c.args.window.now.file c.size_at.new.self.file (c.size_at.ensures.rests told).reads_are c.size_at.ensures.file in
    let shows = subst (λ (f : List ℕ). Shows c.load.new.self f) same (c.in_ok-load.ensures.shows told) in
    let is = c.view.ensures.view ∙ view_is c.load.new.self file c.args.at c.in-Ok.len shows c.in_ok-load.ensures.covers in
    c.frame_in.ensures.frame records (length (frame_bytes records)) (frame_is file c.args.window.now.size c.args.at records rest fits split c.in-Ok.len c.view.result.now is (c.in-Ok.ensures.frame told))

pub returns-clause-whole : goal.returns-clause-whole
returns-clause-whole g c = λ told records rest fits split.
    let file = g.D.Disk.reads c.args.disk.now c.args.window.now.file in
    let same = same_file (g.D.Disk.reads c.args.disk.now) (g.D.Disk.reads c.size_at.new.disk) c.args.window.now.file c.size_at.new.self.file (c.size_at.ensures.rests told).reads_are c.size_at.ensures.file in
    let shows = subst (λ (f : List ℕ). Shows c.load.new.self f) same (c.in_ok-load.ensures.shows told) in
    let is = c.view.ensures.view ∙ view_is c.load.new.self file c.args.at c.in-Ok.len shows c.in_ok-load.ensures.covers in
    let read = frame_is file c.args.window.now.size c.args.at records rest fits split c.in-Ok.len c.view.result.now is (c.in-Ok.ensures.frame told) in
    IfErr-weaker c.frame_in.result (λ e. e ≡ NoMemory) (λ e. (place : ℕ) → e ≡ Damaged place → ⊥) (λ e is place bad. let both : NoMemory ≡ Damaged place = sym is ∙ bad in absurd cc) (c.frame_in.ensures.whole records (length (frame_bytes records)) read)
