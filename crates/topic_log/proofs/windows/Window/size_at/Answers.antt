use Rattle.std.proofs.Common.{ℕ, ◌≡◌, ◌+◌, ◌-◌, List, length, refl, take, sym, ap, ◌∙◌, arith, subst}
use Rattle.log_frame.specs.Reading.{frame_at}
use Rattle.topic_log.specs.Damage.{StopsAt}
use Rattle.topic_log.specs.Walks.{seen}
use Rattle.topic_log.proofs.Headers.{header_view}
use Rattle.topic_log.proofs.Walking.{view_is, seen_long, seen_front}
use Rattle.topic_log.proofs.windows.Window.size_at.Goals as goal
use Rattle.topic_log.proofs.windows.Window.size_at.Goals.{After-frame_size}

pub returns-in-Ok-clause-frame : goal.returns-in-Ok-clause-frame
returns-in-Ok-clause-frame g c = λ told.
    let file = g.D.Disk.reads c.args.disk.now c.args.self.now.file in
    let size = c.args.self.now.size in
    let rest : List ℕ = seen size c.args.at file in
    let room : size - c.args.at ≡ length rest = seen_long size c.args.at file (c.requires.size told) in
    let front = seen_front size c.args.at file c.min-header.result (omega (arith, c.min-header.ensures)) in
    let view : c.view.result.now ≡ take 8 rest =
    header_view rest c.view.result.now (size - c.args.at) c.min-header.result room c.min-header.ensures (c.view.ensures.view ∙ view_is c.load.new.self file c.args.at c.min-header.result (c.in_ok-load.ensures.shows told) c.in_ok-load.ensures.covers ∙ sym front) in
    ap frame_at (sym (seen_front size c.args.at file c.in-Ok.size (omega (arith, c.in-Ok.ensures.within)))) ∙ c.in-Ok.ensures.frame rest view room

pub returns-in-Err-clause-damaged : goal.returns-in-Err-clause-damaged
returns-in-Err-clause-damaged g c = λ place e told.
    let file = g.D.Disk.reads c.args.disk.now c.args.self.now.file in
    let size = c.args.self.now.size in
    let rest : List ℕ = seen size c.args.at file in
    let room : size - c.args.at ≡ length rest = seen_long size c.args.at file (c.requires.size told) in
    let front = seen_front size c.args.at file c.min-header.result (omega (arith, c.min-header.ensures)) in
    let view : c.view.result.now ≡ take 8 rest =
    header_view rest c.view.result.now (size - c.args.at) c.min-header.result room c.min-header.ensures (c.view.ensures.view ∙ view_is c.load.new.self file c.args.at c.min-header.result (c.in_ok-load.ensures.shows told) c.in_ok-load.ensures.covers ∙ sym front) in
    let here : c.args.at + c.in-Err.bad.at ≡ place = cc in
    subst (λ (p : ℕ). StopsAt rest c.args.at p) here (record { place = c.in-Err.bad.at; stops = c.in-Err.ensures.bad rest view room; at_is = refl })
