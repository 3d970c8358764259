use Rattle.std.proofs.Common.{◌∷◌, [], ◌≡◌, ◌≤◌, ℕ, List, length, ◌+◌, ap, sym, ◌∙◌, subst}
use Rattle.samza_model.specs.declared.messages.Record.{Record}
use Rattle.log_frame.specs.Frame.{IsFrame}
use Rattle.topic_log.proofs.Produced.{produces_opened, produces_appended, has_room_for, keeps_opened}
use Rattle.topic_log.specs.Opened.{size_of, KeepsFrames}
use Rattle.samza_model.specs.Limits.{file_limit}
use Rattle.samza_model.specs.Logs.{spelled}
use Rattle.disk_model.specs.Images.{Only}
use Rattle.topic_log.proofs.producing.produce_one.Goals as goal

pub returns-in-Err-clause-any_moment : goal.returns-in-Err-clause-any_moment
returns-in-Err-clause-any_moment g c = λ told.
    let disk = g.D.Disk in
    produces_opened disk.call_number disk.images disk.images_since c.args.disk.now c.open_log.new.disk c.args.file c.args.body.now (c.open_log.ensures.any_moment told)

pub returns-in-Err-encode-clause-any_moment : goal.returns-in-Err-encode-clause-any_moment
returns-in-Err-encode-clause-any_moment g c = λ told.
    let disk = g.D.Disk in
    produces_opened disk.call_number disk.images disk.images_since c.args.disk.now c.open_log.new.disk c.args.file c.args.body.now (c.open_log.ensures.any_moment told)

pub returns-in-Err-encode-clause-refused : goal.returns-in-Err-encode-clause-refused
returns-in-Err-encode-clause-refused g c = λ other told.
    let disk = g.D.Disk in
    let o = c.in-Ok.ensures.opened told in
    keeps_opened c.args.file (disk.reads c.args.disk.now) (disk.reads c.open_log.new.disk) (disk.images c.open_log.new.disk) c.in-Ok.log o.0 o.1 c.in-Ok.ensures.file o.2 (c.in-Ok.ensures.elsewhere told)

pub returns-clause-refused : goal.returns-clause-refused
returns-clause-refused g c = λ other told.
    let disk = g.D.Disk in
    let o = c.in-Ok.ensures.opened told in
    subst (λ d. KeepsFrames c.args.file (disk.reads c.args.disk.now) (disk.reads d)) (sym (c.in-Err-append.ensures.refused other).1)
    (keeps_opened c.args.file (disk.reads c.args.disk.now) (disk.reads c.open_log.new.disk) (disk.images c.open_log.new.disk) c.in-Ok.log o.0 o.1 c.in-Ok.ensures.file o.2 (c.in-Ok.ensures.elsewhere told))

pub returns-in-Ok-append-clause-durable : goal.returns-in-Ok-append-clause-durable
returns-in-Ok-append-clause-durable g c = λ told.
    let disk = g.D.Disk in
    let o = c.in-Ok.ensures.opened told in
    let frame : IsFrame c.in-Ok-encode.frame (c.args.body.now ∷ []) = subst (λ (rs : List Record). IsFrame c.in-Ok-encode.frame rs) c.from_ref.ensures.value c.in-Ok-encode.ensures in
    let h = c.in-Ok-append.ensures.appended told o.0 (c.args.body.now ∷ []) o.2 frame in
    subst (λ (f : ℕ). Only f (disk.reads c.append.new.disk) (disk.images c.append.new.disk)) (c.append.ensures.file ∙ c.in-Ok.ensures.file) h.durable

pub returns-in-Ok-append-clause-room : goal.returns-in-Ok-append-clause-room
returns-in-Ok-append-clause-room g c = λ told full.
    let disk = g.D.Disk in
    let o = c.in-Ok.ensures.opened told in
    let frame : IsFrame c.in-Ok-encode.frame (c.args.body.now ∷ []) = subst (λ (rs : List Record). IsFrame c.in-Ok-encode.frame rs) c.from_ref.ensures.value c.in-Ok-encode.ensures in
    let size : size_of c.in-Ok.log ≡ length (spelled o.0) + 1 = ap (λ (n : ℕ). n + 1) o.2.extent.gate in
    has_room_for (disk.reads c.args.disk.now c.args.file) c.in-Ok.log o.0 c.args.body.now o.1 size
    (subst (λ (b : List ℕ). size_of c.in-Ok.log + length b + 1 ≤ file_limit) frame.bytes_are c.in-Ok-append.ensures.ok.1) full

pub returns-in-Ok-append-clause-any_moment : goal.returns-in-Ok-append-clause-any_moment
returns-in-Ok-append-clause-any_moment g c = λ told.
    let disk = g.D.Disk in
    let law = (g.met.D.Disk g.world.𝓛 g.world.𝓜 g.world.𝓡 ((λ s x. x), (λ x. x), (λ x. x), λ x. x)) in
    let o = c.in-Ok.ensures.opened told in
    let frame : IsFrame c.in-Ok-encode.frame (c.args.body.now ∷ []) = subst (λ (rs : List Record). IsFrame c.in-Ok-encode.frame rs) c.from_ref.ensures.value c.in-Ok-encode.ensures in
    produces_appended disk.call_number disk.images disk.images_since disk.reads c.args.disk.now c.open_log.new.disk c.append.new.disk c.args.file c.args.body.now c.in-Ok.log o.0
    (λ k f le left. law.counts_now c.open_log.new.disk k f told le left) (c.open_log.ensures.any_moment told) c.in-Ok.ensures.file o.2
    (c.append.ensures.any_moment told o.0 (c.args.body.now ∷ []) o.2 frame)

pub returns-clause-any_moment : goal.returns-clause-any_moment
returns-clause-any_moment g c = λ told.
    let disk = g.D.Disk in
    let law = (g.met.D.Disk g.world.𝓛 g.world.𝓜 g.world.𝓡 ((λ s x. x), (λ x. x), (λ x. x), λ x. x)) in
    let o = c.in-Ok.ensures.opened told in
    let frame : IsFrame c.in-Ok-encode.frame (c.args.body.now ∷ []) = subst (λ (rs : List Record). IsFrame c.in-Ok-encode.frame rs) c.from_ref.ensures.value c.in-Ok-encode.ensures in
    produces_appended disk.call_number disk.images disk.images_since disk.reads c.args.disk.now c.open_log.new.disk c.append.new.disk c.args.file c.args.body.now c.in-Ok.log o.0
    (λ k f le left. law.counts_now c.open_log.new.disk k f told le left) (c.open_log.ensures.any_moment told) c.in-Ok.ensures.file o.2
    (c.append.ensures.any_moment told o.0 (c.args.body.now ∷ []) o.2 frame)
