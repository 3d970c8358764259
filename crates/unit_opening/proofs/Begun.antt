-- A task that was just restored stands on its disk.
use Rattle.std.proofs.Common.{ℕ, ◌≡◌, ◌↔◌, ◌<◌, ◌++◌, List, length, get_or, Option, Some, None, sym, ◌∙◌, ap, subst, refl, arith, length-append}
use Rattle.std.proofs.lemmas.List.{length-map}
use Rattle.std.specs.FinMap as fin
use Rattle.samza_model.specs.declared.checkpoints.Checkpoint.{Checkpoint}
use Rattle.samza_model.specs.declared.setups.Setup.{Setup}
use Rattle.samza_model.specs.declared.setups.InputSetup.{InputSetup}
use Rattle.samza_model.specs.Content.{Content, foldrec, store_at}
use Rattle.samza_model.specs.declared.messages.Record.{Record}
use Rattle.samza_model.specs.Files.{Image, checkpoint_file, changelog_file, output_file}
use Rattle.samza_model.specs.Limits.{frame_batch}
use Rattle.samza_model.specs.Logs.{joined, HasFrames}
use Rattle.samza_model.specs.Partition.{partition_of}
use Rattle.samza_model.specs.Restored.{IsNamed, Restores, count_at, next_at, start_of, marked_place, setup_place}
use Rattle.changelog.specs.Folds.{reverts_of}
use Rattle.kv_store.specs.Tracked.{Tracked}
use Rattle.log_frame.specs.Cuts.{IsCut}
use Rattle.restore_trim.specs.Standing.{IsRestored}
use Rattle.topic_log.specs.declared.logs.Log.{Log}
use Rattle.unit_logs.specs.declared.writing.Logs.{Logs}
use Rattle.core_steps.specs.Held.{Held, contents_of}
use Rattle.unit_logs.specs.Standing.{OnDisk}
use Rattle.unit_opening.specs.Inputs.{input_of}
use Rattle.unit_opening.specs.Opened.{LogsStay, AreWhole}
use Rattle.topic_log.proofs.Laws.{frames_unique, joined-append, log_unique}
use Rattle.restore_trim.proofs.Shared.{has_frames}
use Rattle.core_steps.proofs.Laws.{content_at}
use Rattle.unit_logs.proofs.Laws.{open_has}

-- what was restored, told with equal parts
pub restored_as : (s : Setup) (before reads : Image) (images : Image → Type 0) (mark mark' : Option Checkpoint) (marks : Log) (changelogs outputs : List Log) (logs : Logs) (stores stores' : List Content)
    → mark' ≡ mark → (logs.marks ≡ marks) × (logs.changelogs.items ≡ changelogs) × (logs.outputs.items ≡ outputs) → stores' ≡ stores
    → IsRestored s before reads images mark marks changelogs outputs stores → IsRestored s before reads images mark' logs.marks logs.changelogs.items logs.outputs.items stores'
restored_as s before reads images mark mark' marks changelogs outputs logs stores stores' same_mark (same_marks, same_changelogs, same_outputs) same_stores r =
    subst (λ (m : Option Checkpoint). IsRestored s before reads images m logs.marks logs.changelogs.items logs.outputs.items stores') (sym same_mark)
    (subst (λ (l : Log). IsRestored s before reads images mark l logs.changelogs.items logs.outputs.items stores') (sym same_marks)
    (subst (λ (l : List Log). IsRestored s before reads images mark marks l logs.outputs.items stores') (sym same_changelogs)
    (subst (λ (l : List Log). IsRestored s before reads images mark marks changelogs l stores') (sym same_outputs)
    (subst (λ (cs : List Content). IsRestored s before reads images mark marks changelogs outputs cs) (sym same_stores) r))))

-- a checkpoint and contents that an image restores to, told with equal ones
pub restores_as : (s : Setup) (image : Image) (mark mark' : Option Checkpoint) (stores stores' : List Content) → mark' ≡ mark → stores' ≡ stores → Restores s image mark stores → Restores s image mark' stores'
restores_as s image mark mark' stores stores' same_mark same_stores r =
    subst (λ (m : Option Checkpoint). Restores s image m stores') (sym same_mark) (subst (λ (cs : List Content). Restores s image mark cs) (sym same_stores) r)

-- two files that have the same frames have the same ones of all
same_frames : (old new : List ℕ) (frames : List (List Record)) → HasFrames old frames → HasFrames new frames → (fs : List (List Record)) → HasFrames old fs ↔ HasFrames new fs
same_frames old new frames had has fs = (
  (λ h. subst (λ (l : List (List Record)). HasFrames new l) (frames_unique old frames fs had h) has),
  (λ h. subst (λ (l : List (List Record)). HasFrames old l) (frames_unique new frames fs has h) had),
)

module _ (s : Setup) (before reads : Image) (images : Image → Type 0) (mark : Option Checkpoint) (logs : Logs) (stores : List Content)
    (r : IsRestored s before reads images mark logs.marks logs.changelogs.items logs.outputs.items stores) where
  -- whatever holds these contents stands on the disk
  pub stands_restored : (h : Held) → contents_of h.stores ≡ stores → OnDisk reads images s logs mark h
  stands_restored h same = record {
    marks = record { frames = r.mark_is.frames; is_open = r.mark_is.is_open; mark_is = r.mark_is.mark_is };
    stores = λ i d lt.
        let o = r.stores_are.each i d lt in
        let here : i < length h.stores = subst (λ n. i < n) (sym (ap length same ∙ r.stores_are.stores_are) ∙ length-map h.stores (λ (t : Tracked). t.content)) lt in
        record {
          frames = o.frames ++ o.reverts;
          is_open = o.is_open;
          enough = omega (arith, o.enough, ap (λ (rs : List Record). length rs) (joined-append o.frames o.reverts), length-append (joined o.frames) (joined o.reverts));
          agrees = λ key clean. ap (λ (c : Content). fin.get c key) (sym o.whole ∙ sym (ap (λ (cs : List Content). store_at cs i) same) ∙ content_at h.stores i here);
        };
    outputs = λ j d lt.
        let o = r.outputs_are.each j d (subst (λ n. j < n) r.outputs_are.logs_are lt) in
        (o.frames, o.is_open);
  }

  -- all records of a changelog make its store's content
  pub whole_restored : AreWhole s reads stores
  whole_restored i records lt has =
      let o = r.stores_are.each i logs.marks lt in
      let log = get_or logs.changelogs.items i logs.marks in
      ap foldrec (log_unique (reads (changelog_file i)) records (joined (o.frames ++ o.reverts)) has (open_has reads images (changelog_file i) log (o.frames ++ o.reverts) o.is_open)) ∙ sym o.whole

  -- the logs of each image are those before, but for what was taken back
  pub logs_stay : (c : Image) → images c → LogsStay s mark before c
  logs_stay c now = record {
    marks = same_frames (before checkpoint_file) (c checkpoint_file) r.mark_is.frames r.mark_is.had (has_frames reads images checkpoint_file logs.marks r.mark_is.frames r.mark_is.is_open c now);
    changelogs = λ i lt frames had.
        let o = r.stores_are.each i logs.marks lt in
        let same : o.frames ≡ frames = frames_unique (before (changelog_file i)) o.frames frames o.had had in
        let log = get_or logs.changelogs.items i logs.marks in (
          o.reverts,
          subst (λ (fs : List (List Record)). IsCut frame_batch (reverts_of (count_at mark i) (joined fs)) o.reverts) same o.cut,
          subst (λ (fs : List (List Record)). HasFrames (c (changelog_file i)) (fs ++ o.reverts)) same (has_frames reads images (changelog_file i) log (o.frames ++ o.reverts) o.is_open c now),
        );
    outputs = λ j lt.
        let o = r.outputs_are.each j logs.marks lt in
        same_frames (before (output_file j)) (c (output_file j)) o.frames o.had (has_frames reads images (output_file j) (get_or logs.outputs.items j logs.marks) o.frames o.is_open c now);
  }

-- the kept offset is the checkpoint's, which has the setup's one input
pub next_kept : (s : Setup) (mark : Option Checkpoint) (kept : Option ℕ) → length s.inputs ≡ 1 → ((k : Checkpoint) → mark ≡ Some k → IsNamed s k)
    → ((k : Checkpoint) → mark ≡ Some k → 0 < length k.inputs → kept ≡ next_at mark 0) → (mark ≡ None → kept ≡ None) → kept ≡ next_at mark 0
next_kept s None kept one named some none = none refl
next_kept s (Some k) kept one named some none =
    some k refl (omega (arith, sym (length-map k.inputs marked_place) ∙ ap length (named k refl).inputs ∙ length-map s.inputs setup_place ∙ one))

-- where the input starts, told with equal parts
pub starts_as : (s : Setup) (mark mark' : Option Checkpoint) (records records' : List Record) (next next' : ℕ) (kept : Option ℕ) (input : InputSetup)
    → mark' ≡ mark → records' ≡ records → next' ≡ next → kept ≡ next_at mark 0 → input ≡ input_of s → next ≡ start_of kept input (partition_of records)
    → next' ≡ start_of (next_at mark' 0) (input_of s) (partition_of records')
starts_as s mark mark' records records' next next' kept input same_mark same_records same_next is_kept is_input starts =
    same_next ∙ starts ∙ ap (λ o. start_of o input (partition_of records)) is_kept ∙ ap (λ i. start_of (next_at mark 0) i (partition_of records)) is_input
    ∙ sym (ap (λ (m : Option Checkpoint). start_of (next_at m 0) (input_of s) (partition_of records)) same_mark)
    ∙ sym (ap (λ (l : List Record). start_of (next_at mark' 0) (input_of s) (partition_of l)) same_records)
