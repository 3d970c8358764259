-- What the logs hold once a commit was written to them.
use Rattle.std.proofs.Common.{ℕ, ◌≡◌, ◌<◌, ◌+◌, List, [], ◌∷◌, ◌++◌, length, get_or, Option, Some, None, sym, ◌∙◌, ap, subst, refl, arith}
use Rattle.std.proofs.lemmas.List.{length_push}
use Rattle.std.specs.FinMap as fin
use Rattle.samza_model.specs.declared.messages.Record.{Record}
use Rattle.samza_model.specs.declared.checkpoints.Checkpoint.{Checkpoint}
use Rattle.samza_model.specs.declared.setups.Setup.{Setup}
use Rattle.samza_model.specs.Content.{Content, foldrec, store_at, nothing_stored}
use Rattle.samza_model.specs.Files.{Image, changelog_file, output_file}
use Rattle.samza_model.specs.Logs.{joined, HasLog}
use Rattle.samza_model.specs.Restored.{HasMark, id_of, count_at}
use Rattle.kv_store.proofs.Laws.{replayed-append}
use Rattle.topic_log.specs.declared.logs.Log.{Log}
use Rattle.topic_log.proofs.Laws.{joined-append}
use Rattle.unit_logs.specs.declared.writing.Logs.{Logs}
use Rattle.core_plans.specs.declared.planning.Frames.{Frames}
use Rattle.core_steps.specs.Held.{IsSized, Held, tracked_at, contents_of}
use Rattle.unit_logs.specs.Appending.{AreOpen}
use Rattle.unit_logs.specs.Planned.{PlansCommit}
use Rattle.restore_trim.specs.Standing.{IsOpenAt}
use Rattle.restore_trim.proofs.Shared.{open_has as open_frames}
use Rattle.unit_logs.specs.Standing.{MarkStands, OnDisk}
use Rattle.unit_logs.specs.Written.{AreWritten, StandOpen}
use Rattle.core_plans.specs.Plans.{batch_at}
use Rattle.core_steps.proofs.Laws.{content_at}
use Rattle.unit_logs.proofs.Holding.{counts_behind}

-- the records of a log that is open are those of its file
pub open_has : (reads : Image) (images : Image → Type 0) (file : ℕ) (log : Log) (frames : List (List Record)) → IsOpenAt reads images file log frames → HasLog (reads file) (joined frames)
open_has reads images file log frames o = record { frames = frames; has = open_frames reads images file log frames o; records_are = refl }

pub id_was : (s : Setup) (frames : List (List Record)) (mark : Option Checkpoint) → HasMark s frames mark → id_of mark ≡ length (joined frames)
id_was s frames None e = subst (λ (fs : List (List Record)). 0 ≡ length (joined fs)) (sym e) refl
id_was s frames (Some k) h = h.0.id

-- a store's changelog is open, has as many records as counted, and they make the content
pub record StoreMade (reads : Image) (images : Image → Type 0) (file count : ℕ) (log : Log) (content : Content) : Type 0 where
  pub frames : List (List Record)
  pub is_open : IsOpenAt reads images file log frames
  pub count_is : count ≡ length (joined frames)
  pub content_is : foldrec (joined frames) ≡ content

module _ (s : Setup) (reads reads' : Image) (images images' : Image → Type 0) (logs logs' : Logs) (plan : Frames) (mark : Option Checkpoint) (next : ℕ) (made : Checkpoint) (h : Held)
    (on : OnDisk reads images s logs mark h)
    (follows : AreWritten reads images reads' images' logs logs' plan)
    (plans : PlansCommit s logs h next plan made)
    (changelogs_are : length logs.changelogs.items ≡ length s.stores)
    (outputs_are : length logs.outputs.items ≡ length s.outputs)
    (outputs_stay : length logs'.outputs.items ≡ length logs.outputs.items)
    (sized : IsSized s h) where
  store_made : (i : ℕ) (d : Log) → i < length s.stores → StoreMade reads' images' (changelog_file i) (count_at (Some made) i) (get_or logs'.changelogs.items i d) (tracked_at h.stores i).content
  store_made i d lt =
      let old = on.stores i d lt in
      let here : i < length logs.changelogs.items = subst (λ n. i < n) (sym changelogs_are) lt in
      let p = plans.stores.each i (subst (λ n. i < n) (sym sized.stores) lt) in
      let lists = p.logs.lists in
      let both : joined (old.frames ++ lists) ≡ joined old.frames ++ joined lists = joined-append old.frames lists in
      record {
        frames = old.frames ++ lists;
        is_open = follows.changelogs i d old.frames lists here old.is_open p.logs.are;
        count_is = counts_behind logs.changelogs.items i d (batch_at s.stores i) (tracked_at h.stores i) (get_or plan.stores i []) (count_at (Some made) i) old.frames here old.is_open.is_open.extent p;
        content_is = ap foldrec both ∙ replayed-append nothing_stored (joined old.frames) (joined lists) ∙ p.logs.replays (foldrec (joined old.frames)) old.agrees;
      }

  mark_made : MarkStands s reads' images' logs'.marks (Some made)
  mark_made =
      let old = on.marks in
      let r = plans.frame.0 in
      let grown : length (joined (old.frames ++ (r ∷ []) ∷ [])) ≡ length (joined old.frames) + 1 = ap (λ (l : List Record). length l) (joined-append old.frames ((r ∷ []) ∷ [])) ∙ length_push (joined old.frames) r in
      record {
        frames = old.frames ++ (r ∷ []) ∷ [];
        is_open = follows.marks old.frames r old.is_open plans.frame.2;
        mark_is = (record { before = old.frames; last = r; split = refl; spells = plans.frame.1; id = plans.id_is ∙ ap (λ n. n + 1) old.is_open.is_open.extent.count ∙ sym grown }, plans.named);
      }

  outputs_made : AreOpen reads' images' (output_file 0) logs'.outputs.items
  outputs_made j d lt =
      let here : j < length logs.outputs.items = subst (λ n. j < n) outputs_stay lt in
      let old = on.outputs j d here in
      let p = plans.sends.each j (subst (λ n. j < n) (outputs_are ∙ sym sized.outputs) here) in
      (old.0 ++ p.lists, follows.outputs j d old.0 p.lists here old.1 p.are)

  -- the logs stand at the new checkpoint, whatever is dirty or unsent since
  pub stands_made : (h' : Held) → IsSized s h' → contents_of h'.stores ≡ contents_of h.stores → OnDisk reads' images' s logs' (Some made) h'
  stands_made h' sized' same = record {
    marks = mark_made;
    stores = λ i d lt.
        let m = store_made i d lt in
        let now : (tracked_at h.stores i).content ≡ (tracked_at h'.stores i).content =
        sym (content_at h.stores i (subst (λ n. i < n) (sym sized.stores) lt)) ∙ ap (λ (cs : List Content). store_at cs i) (sym same) ∙ content_at h'.stores i (subst (λ n. i < n) (sym sized'.stores) lt) in
        record {
          frames = m.frames;
          is_open = m.is_open;
          enough = omega (arith, m.count_is);
          agrees = λ key clean. ap (λ (c : Content). fin.get c key) (m.content_is ∙ now);
        };
    outputs = outputs_made;
  }

-- the logs of a task stand open
pub stand_open : (s : Setup) (reads : Image) (images : Image → Type 0) (logs : Logs) (mark : Option Checkpoint) (h : Held) → OnDisk reads images s logs mark h → length logs.changelogs.items ≡ length s.stores → StandOpen reads images logs
stand_open s reads images logs mark h on as_many = record {
  marks = (on.marks.frames, on.marks.is_open);
  changelogs = λ i d lt. let o = on.stores i d (subst (λ n. i < n) as_many lt) in (o.frames, o.is_open);
  outputs = on.outputs;
}
