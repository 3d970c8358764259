use Rattle.std.proofs.Common.{◌∙◌, ap, sym, subst, Ok}
use Rattle.samza_model.specs.Restored.{EndsAs}
use Rattle.samza_model.specs.Files.{Image, checkpoint_file}
use Rattle.restore_trim.specs.Standing.{IsOpenAt, HoldsMark}
use Rattle.restore_trim.proofs.Openings.{has_mark}
use Rattle.restore_trim.proofs.Tails.{keeps_read}
use Rattle.restore_trim.proofs.Telling.{opening_tells, tells_mark}
use Rattle.restore_trim.proofs.opening.open_marks.Goals as goal

pub returns-in-Ok-true-clause-mark : goal.returns-in-Ok-true-clause-mark
returns-in-Ok-true-clause-mark g c = λ told.
    let disk = g.D.Disk in
    let s = c.in-Ok.ensures.stands told in
    let named = c.named.ensures.named (c.in-Ok-true.is ∙ ap (λ b. Ok b) c.in-Ok-true.field-0-test) in
    let mark = has_mark c.args.setup.now s.frames c.in-Ok-last.mark (c.in-Ok-last.ensures.last told s.frames s.is_open.is_open) named in
    let still : IsOpenAt (disk.reads c.last.new.disk) (disk.images c.last.new.disk) checkpoint_file c.in-Ok.log s.frames = record { file_is = s.is_open.file_is; sound = s.is_open.sound; is_open = c.in-Ok-last.ensures.others told c.in-Ok.log s.frames s.is_open.is_open } in
    subst (λ log. HoldsMark c.args.setup.now (disk.reads c.args.disk.now) (disk.reads c.last.new.disk) (disk.images c.last.new.disk) log c.in-Ok-last.mark) (sym c.in-Ok-last.ensures.ok.1)
    (record { frames = s.frames; had = s.had; is_open = still; mark_is = mark })

pub returns-in-Ok-false-clause-why : goal.returns-in-Ok-false-clause-why
returns-in-Ok-false-clause-why g c = λ told.
    let s = c.in-Ok.ensures.stands told in
    let other = c.named.ensures.other (c.in-Ok-false.is ∙ ap (λ b. Ok b) c.in-Ok-false.field-0-test) in
    record {
      frames = s.frames;
      has = s.had;
      mark = other.0;
      ends = subst (λ m. EndsAs s.frames m) other.1 (c.in-Ok-last.ensures.last told s.frames s.is_open.is_open);
      other = other.2;
    }

pub returns-in-Ok-true-clause-named : goal.returns-in-Ok-true-clause-named
returns-in-Ok-true-clause-named g c = c.named.ensures.named (c.in-Ok-true.is ∙ ap (λ b. Ok b) c.in-Ok-true.field-0-test)

pub returns-in-Err-last-clause-any_moment : goal.returns-in-Err-last-clause-any_moment
returns-in-Err-last-clause-any_moment g c = λ told.
    let disk = g.D.Disk in
    let law = (g.met.D.Disk g.world.𝓛 g.world.𝓜 g.world.𝓡 ((λ s x. x), (λ x. x), (λ x. x), λ x. x)) in
    let d0 = c.args.disk.now in
    let d1 = c.open_file.new.disk in
    keeps_read disk.reads disk.call_number disk.images disk.images_since d0 d1 c.last.new.disk checkpoint_file (λ k f le left. law.counts_now d1 k f told le left) (c.open_file.ensures.any_moment told) (c.last.ensures.rests told)

pub returns-in-Ok-true-clause-any_moment : goal.returns-in-Ok-true-clause-any_moment
returns-in-Ok-true-clause-any_moment g c = λ told.
    let disk = g.D.Disk in
    let law = (g.met.D.Disk g.world.𝓛 g.world.𝓜 g.world.𝓡 ((λ s x. x), (λ x. x), (λ x. x), λ x. x)) in
    let d0 = c.args.disk.now in
    let d1 = c.open_file.new.disk in
    keeps_read disk.reads disk.call_number disk.images disk.images_since d0 d1 c.last.new.disk checkpoint_file (λ k f le left. law.counts_now d1 k f told le left) (c.open_file.ensures.any_moment told) (c.last.ensures.rests told)

pub returns-in-Ok-false-clause-any_moment : goal.returns-in-Ok-false-clause-any_moment
returns-in-Ok-false-clause-any_moment g c = λ told.
    let disk = g.D.Disk in
    let law = (g.met.D.Disk g.world.𝓛 g.world.𝓜 g.world.𝓡 ((λ s x. x), (λ x. x), (λ x. x), λ x. x)) in
    let d0 = c.args.disk.now in
    let d1 = c.open_file.new.disk in
    keeps_read disk.reads disk.call_number disk.images disk.images_since d0 d1 c.last.new.disk checkpoint_file (λ k f le left. law.counts_now d1 k f told le left) (c.open_file.ensures.any_moment told) (c.last.ensures.rests told)

pub returns-in-Err-named-clause-any_moment : goal.returns-in-Err-named-clause-any_moment
returns-in-Err-named-clause-any_moment g c = λ told.
    let disk = g.D.Disk in
    let law = (g.met.D.Disk g.world.𝓛 g.world.𝓜 g.world.𝓡 ((λ s x. x), (λ x. x), (λ x. x), λ x. x)) in
    let d0 = c.args.disk.now in
    let d1 = c.open_file.new.disk in
    keeps_read disk.reads disk.call_number disk.images disk.images_since d0 d1 c.last.new.disk checkpoint_file (λ k f le left. law.counts_now d1 k f told le left) (c.open_file.ensures.any_moment told) (c.last.ensures.rests told)

pub returns-in-Err-clause-refused : goal.returns-in-Err-clause-refused
returns-in-Err-clause-refused g c = λ other told f ne. ap (λ (i : Image). i f) (c.in-Err.ensures.refused other told)

pub returns-in-Err-last-clause-refused : goal.returns-in-Err-last-clause-refused
returns-in-Err-last-clause-refused g c = λ other told f ne. ap (λ (i : Image). i f) (c.last.ensures.reads told) ∙ c.in-Ok.ensures.elsewhere told f ne

pub returns-in-Ok-false-clause-refused : goal.returns-in-Ok-false-clause-refused
returns-in-Ok-false-clause-refused g c = λ other told f ne. ap (λ (i : Image). i f) (c.last.ensures.reads told) ∙ c.in-Ok.ensures.elsewhere told f ne

pub returns-in-Err-named-clause-refused : goal.returns-in-Err-named-clause-refused
returns-in-Err-named-clause-refused g c = λ other told f ne. ap (λ (i : Image). i f) (c.last.ensures.reads told) ∙ c.in-Ok.ensures.elsewhere told f ne

pub returns-in-Err-clause-told : goal.returns-in-Err-clause-told
returns-in-Err-clause-told g c = tells_mark c.in-Err.fault c.in-Err.ensures.told

pub returns-in-Err-last-clause-told : goal.returns-in-Err-last-clause-told
returns-in-Err-last-clause-told g c = tells_mark c.opening.result (opening_tells 0 c.in-Err-last.fault c.opening.result c.opening.ensures c.in-Err-last.ensures.never_limit)
