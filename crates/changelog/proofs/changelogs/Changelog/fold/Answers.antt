use Rattle.std.proofs.Common.{◌≡◌, ◌∷◌, [], ◌++◌, List, ℕ, Option, sym, ◌∙◌, ap, subst}
use Rattle.std.specs.Prelude.{IfSome, MatchOption}
use Rattle.std.specs.List.{AllByRecursion}
use Rattle.samza_model.specs.declared.messages.Record.{Record}
use Rattle.samza_model.specs.Limits.{IsWithinLimits}
use Rattle.topic_log.specs.declared.logs.Log.{Log}
use Rattle.topic_log.specs.Batches.{HasBatches}
use Rattle.topic_log.specs.Opened.{is_broken}
use Rattle.topic_log.proofs.Laws.{no_read, rests_then}
use Rattle.changelog.specs.Reading.{HasRead}
use Rattle.changelog.proofs.Folding.{folding_none, folding_more, folded_all, folded_within, folded_short}
use Rattle.changelog.proofs.changelogs.Changelog.fold.Goals as goal

pub batches-init : goal.batches-init
batches-init g c =
    let disk = g.D.Disk in
    let law = (g.met.D.Disk g.world.𝓛 g.world.𝓜 g.world.𝓡 ((λ s x. x), (λ x. x), (λ x. x), λ x. x)) in
    let old = c.args.disk.now in
    folding_none disk.tells disk.reads disk.call_number disk.images disk.images_since disk.fault_count disk.name old c.args.self.now c.args.count c.self.inside.log c.batches-unread.result c.new-fold.result
    c.self.view_is c.batches-unread.ensures.of c.batches-unread.ensures.unread c.new-fold.ensures
    (λ told. no_read disk.reads disk.call_number disk.images disk.images_since old (λ f left. law.only_now old f told left) (law.read_is_image old told))

pub next-requires-clause-place : goal.next-requires-clause-place
next-requires-clause-place g c κs within = λ told whole.
    let f = c.batches.invariant in
    let p = c.requires.opened told (ap (λ (l : Log). is_broken l) (sym f.same) ∙ whole) in
    let at = f.so_far told p.0 p.1 in
    (p.0, (at.before, at.has))

pub batches-preserved : goal.batches-preserved
batches-preserved g c =
    let disk = g.D.Disk in
    let old = c.batches.disk in
    let new = c.next.new.disk in
    folding_more disk.tells disk.reads disk.call_number disk.images disk.images_since disk.fault_count disk.name c.args.disk.now c.args.self.now c.args.count old c.batches.self-inside.log c.batches.unread c.batches.fold c.batches.invariant
    new c.next.new.log c.next.new.self c.read_all.new.self c.in-Some.records
    c.in-Ok.ensures.ok.1 c.next.ensures.of c.next.ensures.rests c.next.ensures.reads c.next.ensures.others
    (λ told frames before h.
    subst (λ (o : Option (List Record)). MatchOption o (before ≡ frames) (λ records. HasBatches (disk.reads new) (disk.images new) c.next.new.log c.next.new.self frames (before ++ records ∷ []))) c.in-Some.is (c.in-Ok.ensures.batch told frames before h))
    (subst (λ (rs : List Record). (count : ℕ) (before : List Record) → HasRead count before c.batches.fold → HasRead count (before ++ rs) c.read_all.new.self) c.into_vec.ensures c.in_ok-read_all.ensures)
    (subst (λ (o : Option (List Record)). IfSome o (λ records. AllByRecursion IsWithinLimits records)) c.in-Some.is c.in-Ok.ensures.limits)
    c.next.ensures.later c.next.ensures.name

pub returns-in-None-clause-folded : goal.returns-in-None-clause-folded
returns-in-None-clause-folded g c = λ told frames h.
    let disk = g.D.Disk in
    let new = c.next.new.disk in
    let f = c.batches.invariant in
    let at = f.so_far told frames h in
    let all = subst (λ (o : Option (List Record)). MatchOption o (at.before ≡ frames) (λ records. HasBatches (disk.reads new) (disk.images new) c.next.new.log c.next.new.self frames (at.before ++ records ∷ []))) c.in-None.is (c.in-Ok.ensures.batch told frames at.before at.has) in
    folded_all disk.tells disk.reads disk.call_number disk.images disk.images_since disk.fault_count disk.name c.args.disk.now c.args.self.now c.args.count c.batches.disk c.batches.self-inside.log c.batches.unread c.batches.fold f
    c.in_ok-into_parts-in-None.field-0.0 c.in_ok-into_parts-in-None.field-0.1.items c.in_ok-into_parts-in-None.ensures told frames h all

pub returns-in-None-clause-limits : goal.returns-in-None-clause-limits
returns-in-None-clause-limits g c =
    let disk = g.D.Disk in
    folded_within disk.tells disk.reads disk.call_number disk.images disk.images_since disk.fault_count disk.name c.args.disk.now c.args.self.now c.args.count c.batches.disk c.batches.self-inside.log c.batches.unread c.batches.fold c.batches.invariant
    c.in_ok-into_parts-in-None.field-0.0 c.in_ok-into_parts-in-None.field-0.1.items c.in_ok-into_parts-in-None.ensures

pub returns-in-None-clause-short : goal.returns-in-None-clause-short
returns-in-None-clause-short g c =
    let disk = g.D.Disk in
    folded_short disk.tells disk.reads disk.call_number disk.images disk.images_since disk.fault_count disk.name c.args.disk.now c.args.self.now c.args.count c.batches.disk c.batches.self-inside.log c.batches.unread c.batches.fold c.batches.invariant
    c.in_ok-into_parts-in-None.field-0.0 c.in_ok-into_parts-in-None.field-0.1.items c.in_ok-into_parts-in-None.ensures

pub returns-in-None-clause-rests : goal.returns-in-None-clause-rests
returns-in-None-clause-rests g c = λ told.
    let disk = g.D.Disk in
    rests_then disk.reads disk.call_number disk.images disk.images_since c.args.disk.now c.batches.disk c.next.new.disk (c.batches.invariant.rests told) (c.next.ensures.rests told)

pub returns-in-Err-clause-rests : goal.returns-in-Err-clause-rests
returns-in-Err-clause-rests g c = λ told.
    let disk = g.D.Disk in
    rests_then disk.reads disk.call_number disk.images disk.images_since c.args.disk.now c.batches.disk c.next.new.disk (c.batches.invariant.rests told) (c.next.ensures.rests told)

pub returns-in_err-read_all-clause-rests : goal.returns-in_err-read_all-clause-rests
returns-in_err-read_all-clause-rests g c = λ told.
    let disk = g.D.Disk in
    rests_then disk.reads disk.call_number disk.images disk.images_since c.args.disk.now c.batches.disk c.next.new.disk (c.batches.invariant.rests told) (c.next.ensures.rests told)

pub returns-in_err-into_parts-in-None-clause-rests : goal.returns-in_err-into_parts-in-None-clause-rests
returns-in_err-into_parts-in-None-clause-rests g c = λ told.
    let disk = g.D.Disk in
    rests_then disk.reads disk.call_number disk.images disk.images_since c.args.disk.now c.batches.disk c.next.new.disk (c.batches.invariant.rests told) (c.next.ensures.rests told)
