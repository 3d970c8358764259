use Rattle.std.proofs.Common.{◌≡◌, ◌≤◌, ◌∙◌, ap, sym, subst, List, length, Option, Some, None, inl, inr, arith}
use Rattle.samza_model.specs.declared.messages.Record.{Record}
use Rattle.samza_model.specs.declared.checkpoints.Checkpoint.{Checkpoint}
use Rattle.samza_model.specs.declared.setups.InputSetup.{InputSetup}
use Rattle.samza_model.specs.Restored.{id_of}
use Rattle.samza_model.proofs.Laws.{end_in}
use Rattle.restore_trim.specs.declared.faults.OpenFault.TheVariants.{Ahead}
use Rattle.topic_log.specs.declared.logs.Log.{Log}
use Rattle.topic_log.specs.Opened.{count_of, is_broken}
use Rattle.samza_model.specs.Logs.{HasLog}
use Rattle.restore_trim.specs.Refused.{StoresOpen}
use Rattle.restore_trim.specs.Standing.{IsRestored, AllSound}
use Rattle.std.proofs.lemmas.List.Elements.{All-same}
use Rattle.kv_store.specs.Tracked.{AreWithinLimits}
use Rattle.samza_model.specs.Content.{Content}
use Rattle.unit_opening.specs.Inputs.{TellsInput, WhyNoInput, input_of}
use Rattle.unit_logs.proofs.Laws.{few_stores, few_outputs}
use Rattle.unit_opening.proofs.Begun.{restored_as, restores_as, stands_restored, whole_restored, logs_stay, next_kept, starts_as}
use Rattle.unit_opening.proofs.opening.open_task.Goals as goal

pub restore-requires-clause-few_stores : goal.restore-requires-clause-few_stores
restore-requires-clause-few_stores g c κs within = few_stores c.args.setup.now c.requires

pub restore-requires-clause-few_outputs : goal.restore-requires-clause-few_outputs
restore-requires-clause-few_outputs g c κs within = few_outputs c.args.setup.now c.requires

pub returns-in-Ok-gather-clause-on_disk : goal.returns-in-Ok-gather-clause-on_disk
returns-in-Ok-gather-clause-on_disk g c = λ told h same.
    let disk = g.D.Disk in
    let s = c.args.setup.now in
    let r = c.in-Ok.restored in
    let u = c.in-Ok-gather.opened in
    let made = c.in-Ok-gather.ensures in
    let before = disk.reads c.args.disk.now in
    let reads = disk.reads c.restore.new.disk in
    let images = disk.images c.restore.new.disk in
    let stand : IsRestored s before reads images u.mark u.logs.marks u.logs.changelogs.items u.logs.outputs.items u.tables =
    restored_as s before reads images r.checkpoint u.mark r.marks r.changelogs r.outputs u.logs r.tables u.tables made.restored.0 made.logs made.restored.1 (c.in-Ok.ensures.stands told) in
    stands_restored s before reads images u.mark u.logs u.tables stand h same

pub returns-in-Ok-gather-clause-logs_stay : goal.returns-in-Ok-gather-clause-logs_stay
returns-in-Ok-gather-clause-logs_stay g c = λ told.
    let disk = g.D.Disk in
    let s = c.args.setup.now in
    let r = c.in-Ok.restored in
    let u = c.in-Ok-gather.opened in
    let made = c.in-Ok-gather.ensures in
    let before = disk.reads c.args.disk.now in
    let reads = disk.reads c.restore.new.disk in
    let images = disk.images c.restore.new.disk in
    let stand : IsRestored s before reads images u.mark u.logs.marks u.logs.changelogs.items u.logs.outputs.items u.tables =
    restored_as s before reads images r.checkpoint u.mark r.marks r.changelogs r.outputs u.logs r.tables u.tables made.restored.0 made.logs made.restored.1 (c.in-Ok.ensures.stands told) in
    let law = (g.met.D.Disk g.world.𝓛 g.world.𝓜 g.world.𝓡 ((λ s x. x), (λ x. x), (λ x. x), λ x. x)) in
    logs_stay s before reads images u.mark u.logs u.tables stand reads (law.read_is_image c.restore.new.disk told)

pub returns-in-Ok-gather-clause-logs_durable : goal.returns-in-Ok-gather-clause-logs_durable
returns-in-Ok-gather-clause-logs_durable g c = λ told f now.
    let disk = g.D.Disk in
    let s = c.args.setup.now in
    let r = c.in-Ok.restored in
    let u = c.in-Ok-gather.opened in
    let made = c.in-Ok-gather.ensures in
    let before = disk.reads c.args.disk.now in
    let reads = disk.reads c.restore.new.disk in
    let images = disk.images c.restore.new.disk in
    let stand : IsRestored s before reads images u.mark u.logs.marks u.logs.changelogs.items u.logs.outputs.items u.tables =
    restored_as s before reads images r.checkpoint u.mark r.marks r.changelogs r.outputs u.logs r.tables u.tables made.restored.0 made.logs made.restored.1 (c.in-Ok.ensures.stands told) in
    logs_stay s before reads images u.mark u.logs u.tables stand f now

pub returns-in-Ok-gather-clause-whole : goal.returns-in-Ok-gather-clause-whole
returns-in-Ok-gather-clause-whole g c = λ told.
    let disk = g.D.Disk in
    let s = c.args.setup.now in
    let r = c.in-Ok.restored in
    let u = c.in-Ok-gather.opened in
    let made = c.in-Ok-gather.ensures in
    let before = disk.reads c.args.disk.now in
    let reads = disk.reads c.restore.new.disk in
    let images = disk.images c.restore.new.disk in
    let stand : IsRestored s before reads images u.mark u.logs.marks u.logs.changelogs.items u.logs.outputs.items u.tables =
    restored_as s before reads images r.checkpoint u.mark r.marks r.changelogs r.outputs u.logs r.tables u.tables made.restored.0 made.logs made.restored.1 (c.in-Ok.ensures.stands told) in
    whole_restored s before reads images u.mark u.logs u.tables stand

pub returns-in-Ok-gather-clause-restored : goal.returns-in-Ok-gather-clause-restored
returns-in-Ok-gather-clause-restored g c = λ told.
    let r = c.in-Ok.restored in
    let u = c.in-Ok-gather.opened in
    let made = c.in-Ok-gather.ensures in
    restores_as c.args.setup.now (g.D.Disk.reads c.args.disk.now) r.checkpoint u.mark r.tables u.tables made.restored.0 made.restored.1 (c.in-Ok.ensures.restored told)

pub returns-in-Ok-gather-clause-durable : goal.returns-in-Ok-gather-clause-durable
returns-in-Ok-gather-clause-durable g c = λ told f now.
    let r = c.in-Ok.restored in
    let u = c.in-Ok-gather.opened in
    let made = c.in-Ok-gather.ensures in
    restores_as c.args.setup.now f r.checkpoint u.mark r.tables u.tables made.restored.0 made.restored.1 (c.in-Ok.ensures.durable told f now)

pub returns-in-Ok-gather-clause-start : goal.returns-in-Ok-gather-clause-start
returns-in-Ok-gather-clause-start g c =
    let s = c.args.setup.now in
    let mark = c.in-Ok.restored.checkpoint in
    let records = c.in-Ok-read_input.messages.items in
    let kept = c.kept_offset.result in
    let input = c.first_input-input.result.now in
    let next = c.in-Ok-first_offset.next in
    let u = c.in-Ok-gather.opened in
    let made = c.in-Ok-gather.ensures in
    starts_as s mark u.mark records u.messages.items next u.next kept input made.restored.0 made.input.0 made.input.1
    (next_kept s mark kept c.requires.one_input c.in-Ok.ensures.named c.kept_offset.ensures.kept c.kept_offset.ensures.none)
    c.first_input-input.ensures
    (c.in-Ok-first_offset.ensures.start records (ap (λ (l : List Record). length l) c.as_slice.ensures.value))

pub returns-in-Err-clause-why : goal.returns-in-Err-clause-why
returns-in-Err-clause-why g c = inl c.in-Err.ensures.why

pub returns-in-Err-read_input-clause-why : goal.returns-in-Err-read_input-clause-why
returns-in-Err-read_input-clause-why g c =
    inr (inl (record {
      mark = c.in-Ok.restored.checkpoint;
      hold = c.in-Ok.ensures.opens;
      why = subst (λ (i : InputSetup). WhyNoInput g.S.Shelf.tells (g.S.Shelf.bytes c.args.shelf.now) i.ssp.partition c.in-Err-read_input.fault) c.first_input-input.ensures c.in-Err-read_input.ensures.why;
    }))

pub returns-in-Err-first_offset-clause-why : goal.returns-in-Err-first_offset-clause-why
returns-in-Err-first_offset-clause-why g c =
    let s = c.args.setup.now in
    let mark = c.in-Ok.restored.checkpoint in
    let records = c.in-Ok-read_input.messages.items in
    let a = c.in-Err-first_offset.ensures.ahead in
    let end : length c.as_slice.result.now ≡ length records = ap (λ (l : List Record). length l) c.as_slice.ensures.value in
    inr (inr (record {
      mark = mark;
      hold = c.in-Ok.ensures.opens;
      records = records;
      read = c.in-Ok-read_input.ensures.log;
      next = a.0;
      kept = sym (next_kept s mark c.kept_offset.result c.requires.one_input c.in-Ok.ensures.named c.kept_offset.ensures.kept c.kept_offset.ensures.none) ∙ a.2;
      honoured = sym (ap (λ (i : InputSetup). i.reset) c.first_input-input.ensures) ∙ a.3;
      past = omega (arith, a.4, end);
      fault = a.1 ∙ ap (λ n. Ahead (Some 0) None a.0 n) (end ∙ sym (end_in records));
    }))

pub returns-in-Ok-gather-clause-opens : goal.returns-in-Ok-gather-clause-opens
returns-in-Ok-gather-clause-opens g c = λ told. subst (λ (m : Option Checkpoint). StoresOpen (g.D.Disk.reads c.args.disk.now) m (length c.args.setup.now.stores)) (sym c.in-Ok-gather.ensures.restored.0) (c.in-Ok.ensures.opens told).stores

pub returns-in-Ok-gather-clause-messages : goal.returns-in-Ok-gather-clause-messages
returns-in-Ok-gather-clause-messages g c = λ told. subst (λ (l : List Record). HasLog (g.S.Shelf.bytes c.args.shelf.now) l) (sym c.in-Ok-gather.ensures.input.0) (c.in-Ok-read_input.ensures.log told)

pub returns-in-Ok-gather-clause-within : goal.returns-in-Ok-gather-clause-within
returns-in-Ok-gather-clause-within g c =
    let next = c.in-Ok-first_offset.next in
    let here = subst (λ (l : List Record). next ≤ length l) c.as_slice.ensures.value c.in-Ok-first_offset.ensures.within in
    subst (λ n. n ≤ length c.in-Ok-gather.opened.messages.items) (sym c.in-Ok-gather.ensures.input.1) (subst (λ (l : List Record). next ≤ length l) (sym c.in-Ok-gather.ensures.input.0) here)

pub returns-in-Ok-gather-clause-changelogs : goal.returns-in-Ok-gather-clause-changelogs
returns-in-Ok-gather-clause-changelogs g c = ap (λ (l : List Log). length l) c.in-Ok-gather.ensures.logs.1 ∙ c.in-Ok.ensures.sizes.1

pub returns-in-Ok-gather-clause-outputs : goal.returns-in-Ok-gather-clause-outputs
returns-in-Ok-gather-clause-outputs g c = ap (λ (l : List Log). length l) c.in-Ok-gather.ensures.logs.2 ∙ c.in-Ok.ensures.sizes.2

pub returns-in-Ok-gather-clause-sound : goal.returns-in-Ok-gather-clause-sound
returns-in-Ok-gather-clause-sound g c =
    let made = c.in-Ok-gather.ensures in
    let sound = c.in-Ok.ensures.sound in
    record {
      marks = ap is_broken made.logs.0 ∙ sound.0;
      changelogs = subst AllSound (sym made.logs.1) sound.1;
      outputs = subst AllSound (sym made.logs.2) sound.2;
    }

pub returns-in-Err-clause-device : goal.returns-in-Err-clause-device
returns-in-Err-clause-device g c = λ is. inl (c.in-Err.ensures.device is)

pub returns-in-Err-read_input-clause-device : goal.returns-in-Err-read_input-clause-device
returns-in-Err-read_input-clause-device g c = λ is. inr (c.in-Err-read_input.ensures.device is)

pub returns-in-Err-first_offset-clause-device : goal.returns-in-Err-first_offset-clause-device
returns-in-Err-first_offset-clause-device g c = λ is. absurd (c.in-Err-first_offset.ensures.never is)

pub returns-in-Ok-gather-clause-later : goal.returns-in-Ok-gather-clause-later
returns-in-Ok-gather-clause-later g c = (c.restore.ensures.later, c.read_input.ensures.later)

pub returns-in-Ok-gather-clause-shelf : goal.returns-in-Ok-gather-clause-shelf
returns-in-Ok-gather-clause-shelf g c = (c.read_input.ensures.name, c.read_input.ensures.file)

pub returns-in-Err-read_input-clause-later : goal.returns-in-Err-read_input-clause-later
returns-in-Err-read_input-clause-later g c = (c.restore.ensures.later, c.read_input.ensures.later)

pub returns-in-Err-read_input-clause-shelf : goal.returns-in-Err-read_input-clause-shelf
returns-in-Err-read_input-clause-shelf g c = (c.read_input.ensures.name, c.read_input.ensures.file)

pub returns-in-Err-first_offset-clause-later : goal.returns-in-Err-first_offset-clause-later
returns-in-Err-first_offset-clause-later g c = (c.restore.ensures.later, c.read_input.ensures.later)

pub returns-in-Err-first_offset-clause-shelf : goal.returns-in-Err-first_offset-clause-shelf
returns-in-Err-first_offset-clause-shelf g c = (c.read_input.ensures.name, c.read_input.ensures.file)

pub returns-in-Err-gather-clause-later : goal.returns-in-Err-gather-clause-later
returns-in-Err-gather-clause-later g c = (c.restore.ensures.later, c.read_input.ensures.later)

pub returns-in-Err-gather-clause-shelf : goal.returns-in-Err-gather-clause-shelf
returns-in-Err-gather-clause-shelf g c = (c.read_input.ensures.name, c.read_input.ensures.file)

pub returns-in-Err-clause-told : goal.returns-in-Err-clause-told
returns-in-Err-clause-told g c = inl c.in-Err.ensures.told

pub returns-in-Err-read_input-clause-told : goal.returns-in-Err-read_input-clause-told
returns-in-Err-read_input-clause-told g c =
    inr (subst (λ (i : InputSetup). TellsInput i.ssp.partition c.in-Err-read_input.fault) c.first_input-input.ensures c.in-Err-read_input.ensures.told)

pub returns-in-Err-first_offset-clause-told : goal.returns-in-Err-first_offset-clause-told
returns-in-Err-first_offset-clause-told g c = inr (c.in-Err-first_offset.ensures.told (input_of c.args.setup.now).ssp.partition)

pub returns-in-Ok-gather-clause-counted : goal.returns-in-Ok-gather-clause-counted
returns-in-Ok-gather-clause-counted g c =
    let made = c.in-Ok-gather.ensures in
    ap count_of made.logs.0 ∙ c.in-Ok.ensures.counted ∙ sym (ap id_of made.restored.0)

pub returns-in-Ok-gather-clause-as_many : goal.returns-in-Ok-gather-clause-as_many
returns-in-Ok-gather-clause-as_many g c = ap (λ (cs : List Content). length cs) c.in-Ok-gather.ensures.restored.1 ∙ c.in-Ok.ensures.sizes.0

pub returns-in-Ok-gather-clause-limits : goal.returns-in-Ok-gather-clause-limits
returns-in-Ok-gather-clause-limits g c = All-same AreWithinLimits c.in-Ok-gather.opened.tables c.in-Ok.restored.tables c.in-Ok-gather.ensures.restored.1 c.in-Ok.ensures.limits
