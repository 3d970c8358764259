use Rattle.std.proofs.Common.{length, ap, sym, ◌∙◌, subst, refl}
use Rattle.topic_log.proofs.Walking.{walk_never}
use Rattle.samza_model.specs.Files.{Image}
use Rattle.topic_log.specs.Walks.{Settled}
use Rattle.topic_log.proofs.Damaging.{damaged_no_log}
use Rattle.topic_log.proofs.Logged.{others_open}
use Rattle.topic_log.proofs.Settling.{opens, still_keeps, found_keeps}
use Rattle.topic_log.specs.Opened.{KeepsFrames}
use Rattle.topic_log.proofs.logs.Log.open_log.Goals as goal

pub returns-in-Err-clause-any_moment : goal.returns-in-Err-clause-any_moment
returns-in-Err-clause-any_moment g c = λ told.
    let disk = g.D.Disk in
    (still_keeps disk.reads disk.call_number disk.images disk.images_since c.args.disk.now c.look.new.disk c.args.file (c.look.ensures.moves told)).moment

pub returns-in-Err-clause-untouched : goal.returns-in-Err-clause-untouched
returns-in-Err-clause-untouched g c = λ other told. (c.look.ensures.reads told, (c.look.ensures.moves told).moment)

pub returns-in-Err-clause-others : goal.returns-in-Err-clause-others
returns-in-Err-clause-others g c = λ told.
    let disk = g.D.Disk in
    others_open disk.reads disk.call_number disk.images disk.images_since c.args.disk.now c.look.new.disk c.args.file (KeepsFrames c.args.file)
    (still_keeps disk.reads disk.call_number disk.images disk.images_since c.args.disk.now c.look.new.disk c.args.file (c.look.ensures.moves told)) (λ a b s. s.elsewhere)

pub returns-in-Err-clause-damaged : goal.returns-in-Err-clause-damaged
returns-in-Err-clause-damaged g c = λ at e told.
    let d = c.in-Err.ensures.damaged at e told in
    (d, damaged_no_log (g.D.Disk.reads c.args.disk.now c.args.file) at d)

pub returns-in-Err-clause-never : goal.returns-in-Err-clause-never
returns-in-Err-clause-never g c = walk_never c.in-Err.fault c.in-Err.ensures.fault

pub settle-requires-clause-size : goal.settle-requires-clause-size
settle-requires-clause-size g c κs within = λ told. c.in-Ok.ensures.size told ∙ ap (λ (i : Image). length (i c.args.file)) (sym (c.look.ensures.reads told))

pub returns-in-Ok-settle-clause-opened : goal.returns-in-Ok-settle-clause-opened
returns-in-Ok-settle-clause-opened g c = λ told.
    let disk = g.D.Disk in
    opens c.args.file (disk.reads c.args.disk.now) (disk.reads c.settle.new.disk) (disk.images c.settle.new.disk) _ (c.in-Ok.ensures.finds told)
    (subst (λ (i : Image). Settled c.args.file c.in-Ok.found.extent.gate i (disk.reads c.settle.new.disk)) (c.look.ensures.reads told) (c.in-Ok-settle.ensures.settled told))
    (c.in-Ok-settle.ensures.durable told) refl

pub returns-in-Ok-settle-clause-left : goal.returns-in-Ok-settle-clause-left
returns-in-Ok-settle-clause-left g c = λ told.
    let disk = g.D.Disk in
    (subst (λ (i : Image). Settled c.args.file c.in-Ok.found.extent.gate i (disk.reads c.settle.new.disk)) (c.look.ensures.reads told) (c.in-Ok-settle.ensures.settled told)).left

pub returns-in-Ok-settle-clause-elsewhere : goal.returns-in-Ok-settle-clause-elsewhere
returns-in-Ok-settle-clause-elsewhere g c = λ told f other. (c.in-Ok-settle.ensures.settled told).elsewhere f other ∙ ap (λ (i : Image). i f) (c.look.ensures.reads told)

pub returns-in-Ok-settle-clause-any_moment : goal.returns-in-Ok-settle-clause-any_moment
returns-in-Ok-settle-clause-any_moment g c = λ told.
    let disk = g.D.Disk in
    (found_keeps disk.reads disk.call_number disk.images disk.images_since c.args.disk.now c.look.new.disk c.settle.new.disk c.args.file c.in-Ok.found.extent
    (c.look.ensures.reads told) (c.in-Ok.ensures.durable told) (c.in-Ok.ensures.finds told) (c.look.ensures.moves told) (c.settle.ensures.moves told)).moment

pub returns-in-Ok-settle-clause-others : goal.returns-in-Ok-settle-clause-others
returns-in-Ok-settle-clause-others g c = λ told.
    let disk = g.D.Disk in
    others_open disk.reads disk.call_number disk.images disk.images_since c.args.disk.now c.settle.new.disk c.args.file (KeepsFrames c.args.file)
    (found_keeps disk.reads disk.call_number disk.images disk.images_since c.args.disk.now c.look.new.disk c.settle.new.disk c.args.file c.in-Ok.found.extent
    (c.look.ensures.reads told) (c.in-Ok.ensures.durable told) (c.in-Ok.ensures.finds told) (c.look.ensures.moves told) (c.settle.ensures.moves told)) (λ a b s. s.elsewhere)

pub returns-in-Err-settle-clause-any_moment : goal.returns-in-Err-settle-clause-any_moment
returns-in-Err-settle-clause-any_moment g c = λ told.
    let disk = g.D.Disk in
    (found_keeps disk.reads disk.call_number disk.images disk.images_since c.args.disk.now c.look.new.disk c.settle.new.disk c.args.file c.in-Ok.found.extent
    (c.look.ensures.reads told) (c.in-Ok.ensures.durable told) (c.in-Ok.ensures.finds told) (c.look.ensures.moves told) (c.settle.ensures.moves told)).moment

pub returns-in-Err-settle-clause-others : goal.returns-in-Err-settle-clause-others
returns-in-Err-settle-clause-others g c = λ told.
    let disk = g.D.Disk in
    others_open disk.reads disk.call_number disk.images disk.images_since c.args.disk.now c.settle.new.disk c.args.file (KeepsFrames c.args.file)
    (found_keeps disk.reads disk.call_number disk.images disk.images_since c.args.disk.now c.look.new.disk c.settle.new.disk c.args.file c.in-Ok.found.extent
    (c.look.ensures.reads told) (c.in-Ok.ensures.durable told) (c.in-Ok.ensures.finds told) (c.look.ensures.moves told) (c.settle.ensures.moves told)) (λ a b s. s.elsewhere)
