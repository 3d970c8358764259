use Rattle.std.proofs.Common.{ℕ, ◌+◌, List, length, true, refl, sym, ◌∙◌, ap, subst, arith}
use Rattle.topic_log.specs.Walks.{Shows}
use Rattle.topic_log.proofs.Moving.{images_kept, no_read}
use Rattle.topic_log.proofs.Logged.{open_long}
use Rattle.topic_log.proofs.Batching.{at_end, next_frame, next_is, open_still, seen_is}
use Rattle.topic_log.proofs.Walking.{same_file}
use Rattle.topic_log.proofs.logs.Log.batch_in.Goals as goal

pub returns-then-self-clause-rests : goal.returns-then-self-clause-rests
returns-then-self-clause-rests g c = λ told.
    let disk = g.D.Disk in
    let old = c.args.disk.now in
    let law = (g.met.D.Disk g.world.𝓛 g.world.𝓜 g.world.𝓡 ((λ s x. x), (λ x. x), (λ x. x), λ x. x)) in
    no_read disk.reads disk.call_number disk.images disk.images_since old (λ f left. law.only_now old f told left) (law.read_is_image old told)

pub returns-then-end-place-clause-rests : goal.returns-then-end-place-clause-rests
returns-then-end-place-clause-rests g c = λ told.
    let disk = g.D.Disk in
    let old = c.args.disk.now in
    let law = (g.met.D.Disk g.world.𝓛 g.world.𝓜 g.world.𝓡 ((λ s x. x), (λ x. x), (λ x. x), λ x. x)) in
    no_read disk.reads disk.call_number disk.images disk.images_since old (λ f left. law.only_now old f told left) (law.read_is_image old told)

pub returns-in-Ok-clause-shows : goal.returns-in-Ok-clause-shows
returns-in-Ok-clause-shows g c = λ told.
    let disk = g.D.Disk in
    let same = same_file (disk.reads c.args.disk.now) (disk.reads c.read_frame.new.disk) c.args.window.now.file c.args.self.now.file (c.read_frame.ensures.rests told).reads_are (sym c.requires.on.file) in
    subst (λ (l : List ℕ). Shows c.read_frame.new.window l) (sym same) (c.in-Ok.ensures.shows told)

pub returns-then-end-place-clause-batch : goal.returns-then-end-place-clause-batch
returns-then-end-place-clause-batch g c = λ told frames before h. at_end (g.D.Disk.reads c.args.disk.now) (g.D.Disk.images c.args.disk.now) c.args.self.now c.args.place frames before h c.if-end-place.true

pub read_frame-requires-clause-size : goal.read_frame-requires-clause-size
read_frame-requires-clause-size g c κs within = λ told.
    let reads = g.D.Disk.reads c.args.disk.now in
    let p = c.requires.place told c.if-self.false in
    let long = open_long reads (g.D.Disk.images c.args.disk.now) c.args.self.now p.0 p.1.1.opened in
    omega (arith, long, c.requires.on.size, ap (λ (f : ℕ). length (reads f)) c.requires.on.file)

pub read_frame-requires-clause-shows : goal.read_frame-requires-clause-shows
read_frame-requires-clause-shows g c κs within = λ told. subst (λ (f : ℕ). Shows c.args.window.now (g.D.Disk.reads c.args.disk.now f)) (sym c.requires.on.file) (c.requires.shows told c.if-self.false)

pub returns-in-Ok-clause-batch : goal.returns-in-Ok-clause-batch
returns-in-Ok-clause-batch g c = λ told frames before h.
    let reads = g.D.Disk.reads c.args.disk.now in
    let images = g.D.Disk.images c.args.disk.now in
    let f = next_frame reads images c.args.self.now c.args.place frames before h c.if-end-place.false in
    let is = c.in-Ok.ensures.frame told f.records _ f.fits (seen_is reads c.args.self.now c.args.window.now c.requires.on (c.args.place.byte + 1) ∙ f.split) in
    next_is reads images c.args.self.now c.args.place frames before h f c.behind.result.0 c.in-Ok.decoded.used c.behind.result.1 (c.behind.ensures.records ∙ is.0) is.1
    c.behind.ensures.byte c.behind.ensures.index

pub returns-in-Ok-clause-stays : goal.returns-in-Ok-clause-stays
returns-in-Ok-clause-stays g c = λ told frames h.
    let disk = g.D.Disk in
    let r = c.read_frame.ensures.rests told in
    open_still (disk.reads c.args.disk.now) (disk.reads c.read_frame.new.disk) (disk.images c.args.disk.now) (disk.images c.read_frame.new.disk) c.args.self.now c.args.self.now frames r.reads_are
    (images_kept _ _ _ _ _ _ r) refl refl h

pub returns-in-Ok-clause-others : goal.returns-in-Ok-clause-others
returns-in-Ok-clause-others g c = λ told log frames h.
    let disk = g.D.Disk in
    let r = c.read_frame.ensures.rests told in
    open_still (disk.reads c.args.disk.now) (disk.reads c.read_frame.new.disk) (disk.images c.args.disk.now) (disk.images c.read_frame.new.disk) log log frames r.reads_are
    (images_kept _ _ _ _ _ _ r) refl refl h

pub returns-else-is_device-clause-sane : goal.returns-else-is_device-clause-sane
returns-else-is_device-clause-sane g c = λ told at is.
    let p = c.requires.place told c.if-self.false in
    let f = next_frame (g.D.Disk.reads c.args.disk.now) (g.D.Disk.images c.args.disk.now) c.args.self.now c.args.place p.0 p.1.0 p.1.1 c.if-end-place.false in
    c.in-Err.ensures.whole told f.records _ f.fits (seen_is (g.D.Disk.reads c.args.disk.now) c.args.self.now c.args.window.now c.requires.on (c.args.place.byte + 1) ∙ f.split) at is

pub returns-then-self-clause-stays : goal.returns-then-self-clause-stays
returns-then-self-clause-stays g c = λ told frames h. h

pub returns-then-self-clause-others : goal.returns-then-self-clause-others
returns-then-self-clause-others g c = λ told log frames h. h

pub returns-then-end-place-clause-stays : goal.returns-then-end-place-clause-stays
returns-then-end-place-clause-stays g c = λ told frames h. h

pub returns-then-end-place-clause-others : goal.returns-then-end-place-clause-others
returns-then-end-place-clause-others g c = λ told log frames h. h

pub returns-then-is_device-clause-stays : goal.returns-then-is_device-clause-stays
returns-then-is_device-clause-stays g c = λ told frames h.
    let disk = g.D.Disk in
    let r = c.read_frame.ensures.rests told in
    open_still (disk.reads c.args.disk.now) (disk.reads c.read_frame.new.disk) (disk.images c.args.disk.now) (disk.images c.read_frame.new.disk) c.args.self.now (record { file = c.args.self.now.file; extent = c.args.self.now.extent; broken = true }) frames r.reads_are
    (images_kept _ _ _ _ _ _ r) refl refl h

pub returns-then-is_device-clause-others : goal.returns-then-is_device-clause-others
returns-then-is_device-clause-others g c = λ told log frames h.
    let disk = g.D.Disk in
    let r = c.read_frame.ensures.rests told in
    open_still (disk.reads c.args.disk.now) (disk.reads c.read_frame.new.disk) (disk.images c.args.disk.now) (disk.images c.read_frame.new.disk) log log frames r.reads_are
    (images_kept _ _ _ _ _ _ r) refl refl h

pub returns-else-is_device-clause-stays : goal.returns-else-is_device-clause-stays
returns-else-is_device-clause-stays g c = λ told frames h.
    let disk = g.D.Disk in
    let r = c.read_frame.ensures.rests told in
    open_still (disk.reads c.args.disk.now) (disk.reads c.read_frame.new.disk) (disk.images c.args.disk.now) (disk.images c.read_frame.new.disk) c.args.self.now c.args.self.now frames r.reads_are
    (images_kept _ _ _ _ _ _ r) refl refl h

pub returns-else-is_device-clause-others : goal.returns-else-is_device-clause-others
returns-else-is_device-clause-others g c = λ told log frames h.
    let disk = g.D.Disk in
    let r = c.read_frame.ensures.rests told in
    open_still (disk.reads c.args.disk.now) (disk.reads c.read_frame.new.disk) (disk.images c.args.disk.now) (disk.images c.read_frame.new.disk) log log frames r.reads_are
    (images_kept _ _ _ _ _ _ r) refl refl h
