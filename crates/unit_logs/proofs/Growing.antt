-- The logs' room on a disk that tells its bytes, and what a commit appends.
use Rattle.std.proofs.Common.{ℕ, ◌≡◌, ◌<◌, ◌+◌, List, [], ◌∷◌, ◌++◌, length, get_or, Option, Some, sym, ◌∙◌, ap, subst, arith, inl, inr, ⊎_elim, length-append}
use Rattle.samza_model.specs.declared.messages.Record.{Record}
use Rattle.samza_model.specs.declared.checkpoints.Checkpoint.{Checkpoint}
use Rattle.samza_model.specs.declared.setups.Setup.{Setup}
use Rattle.samza_model.specs.Content.{sent_at}
use Rattle.samza_model.specs.Files.{Image, checkpoint_file, changelog_file, output_file}
use Rattle.samza_model.specs.Limits.{frame_batch}
use Rattle.samza_model.specs.Logs.{joined}
use Rattle.log_frame.specs.Cuts.{IsCut}
use Rattle.log_frame.specs.Frame.{AreFrames}
use Rattle.topic_log.proofs.Laws.{joined-append, log_unique}
use Rattle.unit_logs.specs.declared.writing.Logs.{Logs}
use Rattle.core_plans.specs.declared.planning.Frames.{Frames}
use Rattle.unit_logs.specs.declared.writing.Reach.{Reach}
use Rattle.core_steps.specs.Held.{IsSized, Held, tracked_at}
use Rattle.samza_model.specs.Restored.{count_at}
use Rattle.unit_logs.specs.Unlogged.{unlogged_of, unlogged_at}
use Rattle.unit_logs.specs.Growth.{IsNextMark, PassesLimit}
use Rattle.unit_logs.specs.Planned.{PlansCommit}
use Rattle.core_plans.specs.Plans.{batch_at}
use Rattle.unit_logs.specs.Standing.{OnDisk}
use Rattle.unit_logs.specs.Written.{Reaches, IsNoRoomFor}
use Rattle.restore_trim.proofs.Shared.{lacks_passes, has_passes, cut_passes}
use Rattle.unit_logs.proofs.Committed.{id_was, open_has}
use Rattle.unit_logs.proofs.Holding.{counts_behind, unlogged_is}
use Rattle.unit_logs.proofs.MarkSizes.{marks_long}

module _ (s : Setup) (reads : Image) (images : Image → Type 0) (logs : Logs) (plan : Frames) (mark : Option Checkpoint) (next : ℕ) (made : Checkpoint) (h : Held)
    (on : OnDisk reads images s logs mark h)
    (plans : PlansCommit s logs h next plan made)
    (changelogs_are : length logs.changelogs.items ≡ length s.stores)
    (outputs_are : length logs.outputs.items ≡ length s.outputs)
    (sized : IsSized s h) where
  changes_cut : (i : ℕ) → i < length s.stores → (lists : List (List Record)) × IsCut (batch_at s.stores i) (unlogged_at (unlogged_of h.stores) i) lists × AreFrames (get_or plan.stores i []) lists
  changes_cut i lt =
      let here : i < length h.stores = subst (λ n. i < n) (sym sized.stores) lt in
      let p = plans.stores.each i here in
      (p.logs.lists, subst (λ (rs : List Record). IsCut (batch_at s.stores i) rs p.logs.lists) (unlogged_is h.stores i here) p.logs.cut, p.logs.are)

  -- the plan's checkpoint is the one that a commit would write
  is_next_mark : IsNextMark s reads mark next (unlogged_of h.stores) made
  is_next_mark = record {
    named = plans.named;
    id_is = plans.id_is ∙ ap (λ n. n + 1) (on.marks.is_open.is_open.extent.count ∙ sym (id_was s on.marks.frames mark on.marks.mark_is));
    next_is = plans.next_is;
    counts = λ i had lt log.
        let d = logs.marks in
        let o = on.stores i d lt in
        let here : i < length h.stores = subst (λ n. i < n) (sym sized.stores) lt in
        let p = plans.stores.each i here in
        let lists = p.logs.lists in
        let same : joined o.frames ≡ had = log_unique (reads (changelog_file i)) (joined o.frames) had (open_has reads images (changelog_file i) (get_or logs.changelogs.items i d) o.frames o.is_open) log in
        let logged : joined lists ≡ unlogged_at (unlogged_of h.stores) i = p.logs.cut.whole ∙ unlogged_is h.stores i here in
        counts_behind logs.changelogs.items i d (batch_at s.stores i) (tracked_at h.stores i) (get_or plan.stores i []) (count_at (Some made) i) o.frames (subst (λ n. i < n) (sym changelogs_are) lt) o.is_open.is_open.extent p
        ∙ ap (λ (l : List Record). length l) (joined-append o.frames lists ∙ ap (λ (l : List Record). l ++ joined lists) same ∙ ap (λ (l : List Record). had ++ l) logged)
        ∙ length-append had (unlogged_at (unlogged_of h.stores) i);
  }

  -- where there is no room a file passes the limit
  pub passes_limit : IsNoRoomFor logs plan → PassesLimit s reads mark next (unlogged_of h.stores) h.unsent
  passes_limit none = ⊎_elim
      (λ output.
      let j = output.place in
      let o = on.outputs j logs.marks output.within in
      let p = plans.sends.each j (subst (λ n. j < n) (outputs_are ∙ sym sized.outputs) output.within) in
      inl (record {
        output = j;
        within = subst (λ n. j < n) outputs_are output.within;
        passes = record { frames = p.lists; cut = p.cut; passes = lacks_passes reads images (output_file j) (get_or logs.outputs.items j logs.marks) o.0 o.1 (get_or plan.outputs j []) p.lists p.are (output.lacks logs.marks) };
      }))
      (λ others. ⊎_elim
      (λ changes.
      let i = changes.place in
      let lt : i < length s.stores = subst (λ n. i < n) changelogs_are changes.within in
      let o = on.stores i logs.marks lt in
      let p = changes_cut i lt in
      inr (inl (record {
        store = i;
        within = lt;
        passes = record {
          frames = p.0;
          cut = p.1;
          passes = lacks_passes reads images (changelog_file i) (get_or logs.changelogs.items i logs.marks) o.frames o.is_open (get_or plan.stores i []) p.0 p.2 (changes.lacks logs.marks);
        };
      })))
      (λ by. inr (inr (record {
        made = made;
        is_next = is_next_mark;
        last = plans.frame.0;
        spells = plans.frame.1;
        passes = lacks_passes reads images checkpoint_file logs.marks on.marks.frames on.marks.is_open (plan.checkpoint ∷ []) ((plans.frame.0 ∷ []) ∷ []) (plans.frame.2, tt) by.lacks;
      })))
      others)
      none

  -- where there is room no file passes it
  pub within_limit : (reach : Reach) → Reaches logs plan reach → PassesLimit s reads mark next (unlogged_of h.stores) h.unsent → ⊥
  within_limit reach reaches passes = ⊎_elim
      (λ output.
      let j = output.output in
      let here : j < length logs.outputs.items = subst (λ n. j < n) (sym outputs_are) output.within in
      let o = on.outputs j logs.marks here in
      let p = plans.sends.each j (subst (λ n. j < n) (sym sized.outputs) output.within) in
      cut_passes reads images (output_file j) (get_or logs.outputs.items j logs.marks) o.0 o.1 frame_batch (sent_at h.unsent j) (get_or plan.outputs j []) p.lists p.cut p.are (reaches.outputs.each j logs.marks reach.mark here).room output.passes)
      (λ others. ⊎_elim
      (λ changes.
      let i = changes.store in
      let lt : i < length s.stores = changes.within in
      let o = on.stores i logs.marks lt in
      let p = changes_cut i lt in
      cut_passes reads images (changelog_file i) (get_or logs.changelogs.items i logs.marks) o.frames o.is_open (batch_at s.stores i) (unlogged_at (unlogged_of h.stores) i) (get_or plan.stores i []) p.0
      p.1 p.2 (reaches.changelogs.each i logs.marks reach.mark (subst (λ n. i < n) (sym changelogs_are) lt)).room changes.passes)
      (λ by.
      let long = marks_long s by.made made by.last plans.frame.0 by.is_next.named plans.named by.spells plans.frame.1 in
      has_passes reads images checkpoint_file logs.marks on.marks.frames on.marks.is_open (plan.checkpoint ∷ []) ((plans.frame.0 ∷ []) ∷ []) (plans.frame.2, tt) reaches.marks.room
      (record { had = by.passes.had; has = by.passes.has; some = λ none. absurd (omega (arith, ap length none)); passes = omega (arith, by.passes.passes, long) }))
      others)
      passes
