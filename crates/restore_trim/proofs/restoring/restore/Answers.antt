use Rattle.std.proofs.Common.{ℕ, ◌≤◌, All, List, length, inl, inr, subst, sym, arith}
use Rattle.samza_model.specs.declared.setups.StoreSetup.{StoreSetup}
use Rattle.samza_model.specs.Content.{Content}
use Rattle.samza_model.specs.Files.{changelog_file, output_file}
use Rattle.kv_store.specs.Tracked.{AreWithinLimits}
use Rattle.topic_log.specs.declared.logs.Log.{Log}
use Rattle.disk_model.specs.Images.{LeavesOnly}
use Rattle.restore_trim.specs.Crashes.{KeepsOutputs, OpeningLeaves, RevertsFiles}
use Rattle.restore_trim.specs.Refused.{StoresOpen, TellsStores, WhyNoStores, WhyNoOutputs}
use Rattle.restore_trim.specs.Standing.{HoldsStores, HoldsOutputs, IsRestored, SameFrom, SameOutside}
use Rattle.restore_trim.proofs.Others.{opened_others, stores_others}
use Rattle.restore_trim.proofs.Outcomes.{marks_left, marks_stores_left, outputs_left, restored_before, restored_now}
use Rattle.restore_trim.proofs.Tails.{read_left}
use Rattle.restore_trim.proofs.Whole.{mark_whole, marked, opens_were, outputs_refused, outputs_whole, stores_refused, stores_whole}
use Rattle.restore_trim.proofs.restoring.restore.Goals as goal

pub returns-in-Err-open_stores-clause-why : goal.returns-in-Err-open_stores-clause-why
returns-in-Err-open_stores-clause-why g c = λ told.
    let disk = g.D.Disk in
    inr (inl (stores_refused c.args.setup.now (disk.reads c.args.disk.now) (disk.reads c.open_marks.new.disk) (disk.images c.open_marks.new.disk) c.in-Ok.opened.0 c.in-Ok.opened.1 c.in-Err-open_stores.fault
    (c.in-Ok.ensures.mark told) (c.in-Ok.ensures.elsewhere told) (subst (λ (xs : List StoreSetup). WhyNoStores (disk.reads c.open_marks.new.disk) c.in-Ok.opened.1 (length xs) c.in-Err-open_stores.fault) c.as_slice.ensures (c.in-Err-open_stores.ensures.why told))))

pub returns-in-Err-open_outputs-clause-why : goal.returns-in-Err-open_outputs-clause-why
returns-in-Err-open_outputs-clause-why g c = λ told.
    let disk = g.D.Disk in
    let s = c.args.setup.now in
    let r0 = disk.reads c.args.disk.now in
    let r1 = disk.reads c.open_marks.new.disk in
    let r2 = disk.reads c.open_stores.new.disk in
    let i1 = disk.images c.open_marks.new.disk in
    let i2 = disk.images c.open_stores.new.disk in
    let h = c.in-Ok.ensures.mark told in
    let same = c.in-Ok.ensures.elsewhere told in
    let hs = subst (λ (xs : List StoreSetup). HoldsStores r1 r2 i2 c.in-Ok.opened.1 (length xs) c.in-Ok-open_stores.opened.0.items c.in-Ok-open_stores.opened.1.items) c.as_slice.ensures (c.in-Ok-open_stores.ensures.stores told) in
    let behind = subst (λ (xs : List StoreSetup). SameFrom (changelog_file (length xs)) r1 r2) c.as_slice.ensures (c.in-Ok-open_stores.ensures.behind told) in
    inr (inr (record {
      mark = c.in-Ok.opened.1;
      marked = marked s r0 r1 i1 c.in-Ok.opened.0 c.in-Ok.opened.1 h;
      stores = opens_were r0 r1 c.in-Ok.opened.1 (length s.stores) same (subst (λ (xs : List StoreSetup). StoresOpen r1 c.in-Ok.opened.1 (length xs)) c.as_slice.ensures (c.in-Ok-open_stores.ensures.opens told));
      why = outputs_refused s r0 r1 r2 i1 i2 c.in-Ok.opened.0 c.in-Ok.opened.1 (length s.stores) c.in-Ok-open_stores.opened.0.items c.in-Ok-open_stores.opened.1.items c.requires.few_stores h same hs behind (length s.outputs) c.in-Err-open_outputs.fault (subst (λ (xs : List (List ℕ)). WhyNoOutputs r2 (length xs) c.in-Err-open_outputs.fault) c.as_slice-2.ensures (c.in-Err-open_outputs.ensures.why told));
    }))

pub returns-clause-stands : goal.returns-clause-stands
returns-clause-stands g c = λ told.
    let disk = g.D.Disk in
    let s = c.args.setup.now in
    let r0 = disk.reads c.args.disk.now in
    let r1 = disk.reads c.open_marks.new.disk in
    let r2 = disk.reads c.open_stores.new.disk in
    let r3 = disk.reads c.open_outputs.new.disk in
    let i1 = disk.images c.open_marks.new.disk in
    let i2 = disk.images c.open_stores.new.disk in
    let i3 = disk.images c.open_outputs.new.disk in
    let h = c.in-Ok.ensures.mark told in
    let same = c.in-Ok.ensures.elsewhere told in
    let hs = subst (λ (xs : List StoreSetup). HoldsStores r1 r2 i2 c.in-Ok.opened.1 (length xs) c.in-Ok-open_stores.opened.0.items c.in-Ok-open_stores.opened.1.items) c.as_slice.ensures (c.in-Ok-open_stores.ensures.stores told) in
    let behind = subst (λ (xs : List StoreSetup). SameFrom (changelog_file (length xs)) r1 r2) c.as_slice.ensures (c.in-Ok-open_stores.ensures.behind told) in
    let ho = subst (λ (xs : List (List ℕ)). HoldsOutputs r2 r3 i3 (length xs) c.in-Ok-open_outputs.outputs.items) c.as_slice-2.ensures (c.in-Ok-open_outputs.ensures.outputs told) in
    let keeps = c.in-Ok-open_stores.ensures.others told in
    let keeps' = c.in-Ok-open_outputs.ensures.others told in
    let changelogs = c.in-Ok-open_stores.opened.0.items in
    let tables = c.in-Ok-open_stores.opened.1.items in
    let outputs = c.in-Ok-open_outputs.outputs.items in
    let whole : IsRestored s r0 r3 i3 c.in-Ok.opened.1 c.in-Ok.opened.0 changelogs outputs tables =
    record {
      mark_is = mark_whole s r0 r1 r2 i1 i2 c.in-Ok.opened.0 c.in-Ok.opened.1 (length s.stores) c.in-Ok-open_stores.opened.0.items c.in-Ok-open_stores.opened.1.items c.requires.few_stores h same hs behind r3 i3 (length s.outputs) c.in-Ok-open_outputs.outputs.items ho keeps keeps';
      stores_are = stores_whole s r0 r1 r2 i1 i2 c.in-Ok.opened.0 c.in-Ok.opened.1 (length s.stores) c.in-Ok-open_stores.opened.0.items c.in-Ok-open_stores.opened.1.items c.requires.few_stores h same hs behind r3 i3 (length s.outputs) c.in-Ok-open_outputs.outputs.items ho keeps keeps';
      outputs_are = outputs_whole s r0 r1 r2 i1 i2 c.in-Ok.opened.0 c.in-Ok.opened.1 (length s.stores) c.in-Ok-open_stores.opened.0.items c.in-Ok-open_stores.opened.1.items c.requires.few_stores h same hs behind r3 i3 (length s.outputs) c.in-Ok-open_outputs.outputs.items ho keeps keeps';
    } in
    subst (λ (ts : List Content). IsRestored s r0 r3 i3 c.in-Ok.opened.1 c.in-Ok.opened.0 c.from_vec-2.result c.from_vec-3.result ts) (sym c.from_vec.ensures)
    (subst (λ (ls : List Log). IsRestored s r0 r3 i3 c.in-Ok.opened.1 c.in-Ok.opened.0 ls c.from_vec-3.result tables) (sym c.from_vec-2.ensures)
    (subst (λ (ls : List Log). IsRestored s r0 r3 i3 c.in-Ok.opened.1 c.in-Ok.opened.0 changelogs ls tables) (sym c.from_vec-3.ensures) whole))

pub returns-in-Err-clause-any_moment : goal.returns-in-Err-clause-any_moment
returns-in-Err-clause-any_moment g c = λ told.
    let disk = g.D.Disk in
    let s = c.args.setup.now in
    let few : length s.stores ≤ 15 = omega (arith, c.requires.few_stores) in
    marks_left disk.reads disk.call_number disk.images disk.images_since s few c.args.disk.now c.open_marks.new.disk (c.open_marks.ensures.any_moment told)

pub returns-in-Err-open_stores-clause-any_moment : goal.returns-in-Err-open_stores-clause-any_moment
returns-in-Err-open_stores-clause-any_moment g c = λ told.
    let disk = g.D.Disk in
    let law = (g.met.D.Disk g.world.𝓛 g.world.𝓜 g.world.𝓡 ((λ s x. x), (λ x. x), (λ x. x), λ x. x)) in
    let d0 = c.args.disk.now in
    let d1 = c.open_marks.new.disk in
    let d2 = c.open_stores.new.disk in
    let s = c.args.setup.now in
    let few : length s.stores ≤ 15 = omega (arith, c.requires.few_stores) in
    let stores = subst (λ (xs : List StoreSetup). LeavesOnly disk.call_number disk.images disk.images_since d1 d2 (RevertsFiles c.in-Ok.opened.1 (length xs))) c.as_slice.ensures (c.open_stores.ensures.any_moment told) in
    let opened = marks_stores_left disk.reads disk.call_number disk.images disk.images_since s few d0 d1 d2 (disk.reads d0) c.in-Ok.opened.0 c.in-Ok.opened.1 (λ k f le left. law.counts_now d1 k f told le left) (c.in-Ok.ensures.mark told) (c.open_marks.ensures.any_moment told) stores in
    opened

pub returns-in-Err-open_outputs-clause-any_moment : goal.returns-in-Err-open_outputs-clause-any_moment
returns-in-Err-open_outputs-clause-any_moment g c = λ told.
    let disk = g.D.Disk in
    let law = (g.met.D.Disk g.world.𝓛 g.world.𝓜 g.world.𝓡 ((λ s x. x), (λ x. x), (λ x. x), λ x. x)) in
    let d0 = c.args.disk.now in
    let d1 = c.open_marks.new.disk in
    let d2 = c.open_stores.new.disk in
    let s = c.args.setup.now in
    let few : length s.stores ≤ 15 = omega (arith, c.requires.few_stores) in
    let stores = subst (λ (xs : List StoreSetup). LeavesOnly disk.call_number disk.images disk.images_since d1 d2 (RevertsFiles c.in-Ok.opened.1 (length xs))) c.as_slice.ensures (c.open_stores.ensures.any_moment told) in
    let opened = marks_stores_left disk.reads disk.call_number disk.images disk.images_since s few d0 d1 d2 (disk.reads d0) c.in-Ok.opened.0 c.in-Ok.opened.1 (λ k f le left. law.counts_now d1 k f told le left) (c.in-Ok.ensures.mark told) (c.open_marks.ensures.any_moment told) stores in
    let d3 = c.open_outputs.new.disk in
    let outputs = subst (λ (xs : List (List ℕ)). LeavesOnly disk.call_number disk.images disk.images_since d2 d3 (KeepsOutputs (length xs))) c.as_slice-2.ensures (c.open_outputs.ensures.any_moment told) in
    outputs_left disk.reads disk.call_number disk.images disk.images_since s few d0 d2 d3 (λ k f le left. law.counts_now d2 k f told le left) opened outputs

pub returns-clause-any_moment : goal.returns-clause-any_moment
returns-clause-any_moment g c = λ told.
    let disk = g.D.Disk in
    let law = (g.met.D.Disk g.world.𝓛 g.world.𝓜 g.world.𝓡 ((λ s x. x), (λ x. x), (λ x. x), λ x. x)) in
    let d0 = c.args.disk.now in
    let d1 = c.open_marks.new.disk in
    let d2 = c.open_stores.new.disk in
    let s = c.args.setup.now in
    let few : length s.stores ≤ 15 = omega (arith, c.requires.few_stores) in
    let stores = subst (λ (xs : List StoreSetup). LeavesOnly disk.call_number disk.images disk.images_since d1 d2 (RevertsFiles c.in-Ok.opened.1 (length xs))) c.as_slice.ensures (c.open_stores.ensures.any_moment told) in
    let opened = marks_stores_left disk.reads disk.call_number disk.images disk.images_since s few d0 d1 d2 (disk.reads d0) c.in-Ok.opened.0 c.in-Ok.opened.1 (λ k f le left. law.counts_now d1 k f told le left) (c.in-Ok.ensures.mark told) (c.open_marks.ensures.any_moment told) stores in
    let d3 = c.open_outputs.new.disk in
    let outputs = subst (λ (xs : List (List ℕ)). LeavesOnly disk.call_number disk.images disk.images_since d2 d3 (KeepsOutputs (length xs))) c.as_slice-2.ensures (c.open_outputs.ensures.any_moment told) in
    outputs_left disk.reads disk.call_number disk.images disk.images_since s few d0 d2 d3 (λ k f le left. law.counts_now d2 k f told le left) opened outputs

pub returns-in-Err-clause-reads : goal.returns-in-Err-clause-reads
returns-in-Err-clause-reads g c = λ told.
    let disk = g.D.Disk in
    let law = (g.met.D.Disk g.world.𝓛 g.world.𝓜 g.world.𝓡 ((λ s x. x), (λ x. x), (λ x. x), λ x. x)) in
    let last = c.open_marks.new.disk in
    read_left disk.reads disk.call_number disk.images disk.images_since c.args.disk.now last (OpeningLeaves c.args.setup.now) (λ k f le left. law.counts_now last k f told le left) (law.read_is_image last told)
    (returns-in-Err-clause-any_moment g c told)

pub returns-in-Err-open_stores-clause-reads : goal.returns-in-Err-open_stores-clause-reads
returns-in-Err-open_stores-clause-reads g c = λ told.
    let disk = g.D.Disk in
    let law = (g.met.D.Disk g.world.𝓛 g.world.𝓜 g.world.𝓡 ((λ s x. x), (λ x. x), (λ x. x), λ x. x)) in
    let last = c.open_stores.new.disk in
    read_left disk.reads disk.call_number disk.images disk.images_since c.args.disk.now last (OpeningLeaves c.args.setup.now) (λ k f le left. law.counts_now last k f told le left) (law.read_is_image last told)
    (returns-in-Err-open_stores-clause-any_moment g c told)

pub returns-in-Err-open_outputs-clause-reads : goal.returns-in-Err-open_outputs-clause-reads
returns-in-Err-open_outputs-clause-reads g c = λ told.
    let disk = g.D.Disk in
    let law = (g.met.D.Disk g.world.𝓛 g.world.𝓜 g.world.𝓡 ((λ s x. x), (λ x. x), (λ x. x), λ x. x)) in
    let last = c.open_outputs.new.disk in
    read_left disk.reads disk.call_number disk.images disk.images_since c.args.disk.now last (OpeningLeaves c.args.setup.now) (λ k f le left. law.counts_now last k f told le left) (law.read_is_image last told)
    (returns-in-Err-open_outputs-clause-any_moment g c told)

pub returns-clause-reads : goal.returns-clause-reads
returns-clause-reads g c = λ told.
    let disk = g.D.Disk in
    let law = (g.met.D.Disk g.world.𝓛 g.world.𝓜 g.world.𝓡 ((λ s x. x), (λ x. x), (λ x. x), λ x. x)) in
    let last = c.open_outputs.new.disk in
    read_left disk.reads disk.call_number disk.images disk.images_since c.args.disk.now last (OpeningLeaves c.args.setup.now) (λ k f le left. law.counts_now last k f told le left) (law.read_is_image last told)
    (returns-clause-any_moment g c told)

pub returns-in-Err-clause-refused_others : goal.returns-in-Err-clause-refused_others
returns-in-Err-clause-refused_others g c = λ other told f none. c.in-Err.ensures.refused other told f none.no_mark

pub returns-in-Err-open_stores-clause-refused_others : goal.returns-in-Err-open_stores-clause-refused_others
returns-in-Err-open_stores-clause-refused_others g c = λ other told.
    let disk = g.D.Disk in
    let s = c.args.setup.now in
    let r1 = disk.reads c.open_marks.new.disk in
    let r2 = disk.reads c.open_stores.new.disk in
    let behind = subst (λ (xs : List StoreSetup). SameFrom (changelog_file (length xs)) r1 r2) c.as_slice.ensures (c.in-Err-open_stores.ensures.refused other told) in
    stores_others (length s.stores) (length s.outputs) (disk.reads c.args.disk.now) r1 r2 (c.in-Ok.ensures.elsewhere told) behind

pub returns-in-Err-open_outputs-clause-refused_others : goal.returns-in-Err-open_outputs-clause-refused_others
returns-in-Err-open_outputs-clause-refused_others g c = λ other told.
    let disk = g.D.Disk in
    let s = c.args.setup.now in
    let r1 = disk.reads c.open_marks.new.disk in
    let r2 = disk.reads c.open_stores.new.disk in
    let r3 = disk.reads c.open_outputs.new.disk in
    let behind = subst (λ (xs : List StoreSetup). SameFrom (changelog_file (length xs)) r1 r2) c.as_slice.ensures (c.in-Ok-open_stores.ensures.behind told) in
    let outside = subst (λ (xs : List (List ℕ)). SameOutside (output_file 0) (length xs) r2 r3) c.as_slice-2.ensures (c.in-Err-open_outputs.ensures.refused other told) in
    opened_others (length s.stores) (length s.outputs) (disk.reads c.args.disk.now) r1 r2 r3 (c.in-Ok.ensures.elsewhere told) behind outside

pub returns-clause-others : goal.returns-clause-others
returns-clause-others g c = λ told.
    let disk = g.D.Disk in
    let s = c.args.setup.now in
    let r1 = disk.reads c.open_marks.new.disk in
    let r2 = disk.reads c.open_stores.new.disk in
    let r3 = disk.reads c.open_outputs.new.disk in
    let behind = subst (λ (xs : List StoreSetup). SameFrom (changelog_file (length xs)) r1 r2) c.as_slice.ensures (c.in-Ok-open_stores.ensures.behind told) in
    let outside = subst (λ (xs : List (List ℕ)). SameOutside (output_file 0) (length xs) r2 r3) c.as_slice-2.ensures (c.in-Ok-open_outputs.ensures.elsewhere told) in
    opened_others (length s.stores) (length s.outputs) (disk.reads c.args.disk.now) r1 r2 r3 (c.in-Ok.ensures.elsewhere told) behind outside

pub returns-clause-restored : goal.returns-clause-restored
returns-clause-restored g c = λ told.
    let disk = g.D.Disk in
    restored_before c.args.setup.now (disk.reads c.args.disk.now) (disk.reads c.open_outputs.new.disk) (disk.images c.open_outputs.new.disk) c.in-Ok.opened.1 c.in-Ok.opened.0 c.from_vec-2.result c.from_vec-3.result c.from_vec.result
    (returns-clause-stands g c told)

pub returns-clause-durable : goal.returns-clause-durable
returns-clause-durable g c = λ told.
    let disk = g.D.Disk in
    restored_now c.args.setup.now (disk.reads c.args.disk.now) (disk.reads c.open_outputs.new.disk) (disk.images c.open_outputs.new.disk) c.in-Ok.opened.1 c.in-Ok.opened.0 c.from_vec-2.result c.from_vec-3.result c.from_vec.result
    (returns-clause-stands g c told)

pub returns-clause-opens : goal.returns-clause-opens
returns-clause-opens g c = λ told.
    let disk = g.D.Disk in
    let s = c.args.setup.now in
    let r0 = disk.reads c.args.disk.now in
    let r1 = disk.reads c.open_marks.new.disk in
    let mark = c.in-Ok.opened.1 in
    record {
      contents = c.from_vec.result;
      restores = returns-clause-restored g c told;
      stores = opens_were r0 r1 mark (length s.stores) (c.in-Ok.ensures.elsewhere told) (subst (λ (xs : List StoreSetup). StoresOpen r1 mark (length xs)) c.as_slice.ensures (c.in-Ok-open_stores.ensures.opens told));
    }

pub returns-clause-limits : goal.returns-clause-limits
returns-clause-limits g c = subst (λ (ts : List Content). All AreWithinLimits ts) (sym c.from_vec.ensures) c.in-Ok-open_stores.ensures.limits

pub returns-in-Err-clause-told : goal.returns-in-Err-clause-told
returns-in-Err-clause-told g c = inl c.in-Err.ensures.told

pub returns-in-Err-open_stores-clause-told : goal.returns-in-Err-open_stores-clause-told
returns-in-Err-open_stores-clause-told g c =
    inr (inl (subst (λ (xs : List StoreSetup). TellsStores (length xs) c.in-Err-open_stores.fault) c.as_slice.ensures c.in-Err-open_stores.ensures.told))
