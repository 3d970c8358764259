use Rattle.std.proofs.Common.{ℕ, ◌≡◌, ◌+◌, List, ◌∷◌, drop, get_or, ap, subst, sym, ◌∙◌, arith}
use Rattle.log_frame.specs.Frame.{Begins}
use Rattle.topic_log.specs.Damage.{StopsAt, IsDamage}
use Rattle.topic_log.proofs.Walking.{view_is, gate_at, same_file}
use Rattle.topic_log.proofs.windows.Window.batch_at.Goals as goal

pub returns-then-byte-ne-OPEN_GATE-clause-batch : goal.returns-then-byte-ne-OPEN_GATE-clause-batch
returns-then-byte-ne-OPEN_GATE-clause-batch g c = λ told.
    let file = g.D.Disk.reads c.args.disk.now c.args.self.now.file in
    let is = c.view.ensures.view ∙ view_is c.load.new.self file c.args.gate 1 (c.in_ok-load.ensures.shows told) c.in_ok-load.ensures.covers in
    record { gate = get_or c.view.result.now 0 0; behind = drop (c.args.gate + 1) file; split = gate_at file c.view.result.now c.args.gate (omega (arith, c.requires.size told)) is; closed = c.if-byte-ne-OPEN_GATE.true }

pub returns-in-Ok-clause-batch : goal.returns-in-Ok-clause-batch
returns-in-Ok-clause-batch g c = λ told.
    let disk = g.D.Disk in
    let file = disk.reads c.args.disk.now c.args.self.now.file in
    let is = c.view.ensures.view ∙ view_is c.load.new.self file c.args.gate 1 (c.in_ok-load.ensures.shows told) c.in_ok-load.ensures.covers in
    let same = same_file (disk.reads c.args.disk.now) (disk.reads c.load.new.disk) c.args.self.now.file c.load.new.self.file (c.load.ensures.rests told).reads_are c.load.ensures.file in
    let opened : get_or c.view.result.now 0 0 ≡ 0x4F = c.if-byte-ne-OPEN_GATE.false in
    record {
      behind = drop (c.args.gate + 1) file;
      split = gate_at file c.view.result.now c.args.gate (omega (arith, c.requires.size told)) is ∙ ap (λ (x : ℕ). x ∷ drop (c.args.gate + 1) file) opened;
      frame = subst (λ (f : List ℕ). Begins (drop (c.args.gate + 1) f) c.in-Ok.checked.count c.in-Ok.checked.used) same (c.in-Ok.ensures.frame told);
    }

pub returns-in-Err-clause-damaged : goal.returns-in-Err-clause-damaged
returns-in-Err-clause-damaged g c = λ place e told.
    let disk = g.D.Disk in
    let file = disk.reads c.args.disk.now c.args.self.now.file in
    let is = c.view.ensures.view ∙ view_is c.load.new.self file c.args.gate 1 (c.in_ok-load.ensures.shows told) c.in_ok-load.ensures.covers in
    let same = same_file (disk.reads c.args.disk.now) (disk.reads c.load.new.disk) c.args.self.now.file c.load.new.self.file (c.load.ensures.rests told).reads_are c.load.ensures.file in
    let opened : get_or c.view.result.now 0 0 ≡ 0x4F = c.if-byte-ne-OPEN_GATE.false in
    let stop = subst (λ (f : List ℕ). StopsAt (drop (c.args.gate + 1) f) (c.args.gate + 1) place) same (c.in-Err.ensures.damaged place e told) in
    subst (λ (l : List ℕ). IsDamage l c.args.gate place) (sym (gate_at file c.view.result.now c.args.gate (omega (arith, c.requires.size told)) is)) (opened, stop)
