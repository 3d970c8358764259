use Rattle.std.proofs.Common.{◌≡◌, List, Option, Ok, sym, ◌∙◌, ap, subst, arith}
use Rattle.samza_model.specs.declared.messages.Record.{Record}
use Rattle.topic_log.specs.declared.extents.Place.{Place}
use Rattle.topic_log.specs.Batches.{IsNext}
use Rattle.topic_log.specs.Opened.{count_of}
use Rattle.topic_log.proofs.Laws.{rests_from}
use Rattle.checkpoint_log.proofs.LastFrame.{before_of, has_place, none_at_end, last_at_end, byte_small, ends_with, bad_end, alone_is}
use Rattle.checkpoint_log.proofs.lasts.last.Goals as goal

pub batch-requires-after_bounds : goal.batch-requires-after_bounds
batch-requires-after_bounds g c κs within = λ told whole.
    let p = c.requires.opened told whole in
    let end = c.end_of-place.ensures.end p.0 p.1.extent in
    (p.0, (before_of p.0 c.end_of-place.result end, has_place (g.D.Disk.reads c.args.disk.now) (g.D.Disk.images c.args.disk.now) c.args.log.now p.0 p.1 c.end_of-place.result end))

pub returns-in-None-clause-last : goal.returns-in-None-clause-last
returns-in-None-clause-last g c = λ told frames h.
    let reads = g.D.Disk.reads c.args.disk.now in
    let images = g.D.Disk.images c.args.disk.now in
    let end = c.end_of-place.ensures.end frames h.extent in
    let before = before_of frames c.end_of-place.result end in
    let next = c.in-Ok.ensures.batch told frames before (has_place reads images c.args.log.now frames h c.end_of-place.result end) in
    none_at_end reads images c.args.log.now frames h c.end_of-place.result end (subst (λ (o : Option (List Record × Place)). IsNext frames before o) c.in-None.is next)

pub returns-in-None-clause-counted : goal.returns-in-None-clause-counted
returns-in-None-clause-counted g c = sym (c.end_of-place.ensures.empty (c.in-Ok.ensures.end (ap (λ (o : Option (List Record × Place)). Ok o) c.in-None.is)))

pub returns-in-Ok-checkpoint_in-clause-counted : goal.returns-in-Ok-checkpoint_in-clause-counted
returns-in-Ok-checkpoint_in-clause-counted g c = c.in-Ok-checkpoint_in.ensures.found.id ∙ c.len.ensures.count ∙ ap count_of c.in-Ok.ensures.ok.1

pub returns-in-Ok-checkpoint_in-clause-last : goal.returns-in-Ok-checkpoint_in-clause-last
returns-in-Ok-checkpoint_in-clause-last g c = λ told frames h.
    let reads = g.D.Disk.reads c.args.disk.now in
    let images = g.D.Disk.images c.args.disk.now in
    let end = c.end_of-place.ensures.end frames h.extent in
    let before = before_of frames c.end_of-place.result end in
    let next = c.in-Ok.ensures.batch told frames before (has_place reads images c.args.log.now frames h c.end_of-place.result end) in
    let l = last_at_end frames c.end_of-place.result end c.in-Some.batch.0 c.in-Some.batch.1 (subst (λ (o : Option (List Record × Place)). IsNext frames before o) c.in-Some.is next) in
    ends_with reads images c.args.log.now frames h c.end_of-place.result l.0 c.in-Some.batch.0 c.in-Some.batch.1 c.in-Ok-checkpoint_in.k l.1
    (alone_is c.as_slice.result.now c.in-Some.batch.0 c.len.result (count_of c.args.log.now) c.in-Ok-checkpoint_in.k (cc) (c.len.ensures.count ∙ ap count_of c.in-Ok.ensures.ok.1) c.in-Ok-checkpoint_in.ensures.found)

pub returns-in-Err-Bad-clause-damaged : goal.returns-in-Err-Bad-clause-damaged
returns-in-Err-Bad-clause-damaged g c = λ at is told frames h.
    let reads = g.D.Disk.reads c.args.disk.now in
    let images = g.D.Disk.images c.args.disk.now in
    let end = c.end_of-place.ensures.end frames h.extent in
    let before = before_of frames c.end_of-place.result end in
    let next = c.in-Ok.ensures.batch told frames before (has_place reads images c.args.log.now frames h c.end_of-place.result end) in
    let l = last_at_end frames c.end_of-place.result end c.in-Some.batch.0 c.in-Some.batch.1 (subst (λ (o : Option (List Record × Place)). IsNext frames before o) c.in-Some.is next) in
    let at_is : at ≡ c.saturating_add-at.result = cc in
    let small = byte_small reads images c.args.log.now frames h c.end_of-place.result l.0 in
    let e = c.saturating_add-at.ensures in
    bad_end reads images c.args.log.now frames h c.end_of-place.result l.0 c.in-Some.batch.0 c.in-Some.batch.1 at l.1
    (omega (arith, e, small, at_is))
    (λ k a. c.in-Err-Bad.ensures.bad c.in-Err-Bad.field-0-is k (alone_is c.in-Some.batch.0 c.as_slice.result.now (count_of c.args.log.now) c.len.result k (cc) (sym (c.len.ensures.count ∙ ap count_of c.in-Ok.ensures.ok.1)) a))

pub returns-in-None-clause-rests : goal.returns-in-None-clause-rests
returns-in-None-clause-rests g c = λ told.
    let disk = g.D.Disk in
    let b = c.batch.ensures in
    let law = (g.met.D.Disk g.world.𝓛 g.world.𝓜 g.world.𝓡 ((λ s x. x), (λ x. x), (λ x. x), λ x. x)) in
    rests_from disk.reads disk.call_number disk.images disk.images_since c.args.disk.now c.batch.new.disk (b.any_moment told) (b.reads told) (b.images told) (b.none_lost told) (law.read_is_image c.batch.new.disk told)

pub returns-in-Err-clause-rests : goal.returns-in-Err-clause-rests
returns-in-Err-clause-rests g c = λ told.
    let disk = g.D.Disk in
    let b = c.batch.ensures in
    let law = (g.met.D.Disk g.world.𝓛 g.world.𝓜 g.world.𝓡 ((λ s x. x), (λ x. x), (λ x. x), λ x. x)) in
    rests_from disk.reads disk.call_number disk.images disk.images_since c.args.disk.now c.batch.new.disk (b.any_moment told) (b.reads told) (b.images told) (b.none_lost told) (law.read_is_image c.batch.new.disk told)

pub returns-in-Ok-checkpoint_in-clause-rests : goal.returns-in-Ok-checkpoint_in-clause-rests
returns-in-Ok-checkpoint_in-clause-rests g c = λ told.
    let disk = g.D.Disk in
    let b = c.batch.ensures in
    let law = (g.met.D.Disk g.world.𝓛 g.world.𝓜 g.world.𝓡 ((λ s x. x), (λ x. x), (λ x. x), λ x. x)) in
    rests_from disk.reads disk.call_number disk.images disk.images_since c.args.disk.now c.batch.new.disk (b.any_moment told) (b.reads told) (b.images told) (b.none_lost told) (law.read_is_image c.batch.new.disk told)

pub returns-in-Err-Bad-clause-rests : goal.returns-in-Err-Bad-clause-rests
returns-in-Err-Bad-clause-rests g c = λ told.
    let disk = g.D.Disk in
    let b = c.batch.ensures in
    let law = (g.met.D.Disk g.world.𝓛 g.world.𝓜 g.world.𝓡 ((λ s x. x), (λ x. x), (λ x. x), λ x. x)) in
    rests_from disk.reads disk.call_number disk.images disk.images_since c.args.disk.now c.batch.new.disk (b.any_moment told) (b.reads told) (b.images told) (b.none_lost told) (law.read_is_image c.batch.new.disk told)
