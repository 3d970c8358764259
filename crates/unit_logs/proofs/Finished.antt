-- What a commit leaves of a disk, from what the writing of its plan leaves.
use Rattle.std.proofs.Common.{ℕ, ◌≡◌, inl, List, length, Option, refl, subst}
use Rattle.samza_model.specs.declared.checkpoints.Checkpoint.{Checkpoint}
use Rattle.samza_model.specs.declared.setups.Setup.{Setup}
use Rattle.samza_model.specs.Content.{Content}
use Rattle.samza_model.specs.Files.{Image}
use Rattle.samza_model.specs.Restored.{Restores}
use Rattle.disk_model.specs.Images.{LeavesOnly}
use Rattle.disk_model.proofs.Laws.{started, weaker}
use Rattle.restore_trim.specs.Standing.{OthersStay}
use Rattle.unit_logs.specs.declared.writing.Logs.{Logs}
use Rattle.core_plans.specs.declared.planning.Frames.{Frames}
use Rattle.unit_logs.specs.Commits.{IsCommitted, LeavesMade, CommitLeaves}
use Rattle.unit_logs.specs.Crashes.{TaskFrames, PlanRecords, StandWith, IsPlanOf, WriteLeaves}
use Rattle.core_steps.specs.Held.{Held, IsSized, state_of}
use Rattle.unit_logs.specs.Unlogged.{unlogged_of}
use Rattle.unit_logs.specs.Planned.{PlansCommit}
use Rattle.unit_logs.specs.Standing.{OnDisk}
use Rattle.unit_logs.specs.Written.{AreWritten}
use Rattle.unit_logs.proofs.Survived.{TaskGrows, unwritten_restores, task_grows, stand_with, plan_of, all_restores, write_leaves, written_has, leaves_some}

module _ {D : Type 0} (reads : D → Image) (number : D → ℕ) (images : D → Image → Type 0) (since : D → ℕ → Image → Type 0) (old : D) where
  -- nothing is written
  pub others_still : (stores outputs : ℕ) → ((c : Image) → since old (number old) c → images old c) → LeavesOnly number images since old old (OthersStay stores outputs)
  others_still stores outputs only = started number images since old (OthersStay stores outputs) only (λ c now. (c, now, λ f other. refl))

  pub still : (s : Setup) (logs : Logs) (mark : Option Checkpoint) (next : ℕ) (h : Held) → OnDisk (reads old) (images old) s logs mark h → length logs.outputs.items ≡ length s.outputs
      → ((c : Image) → since old (number old) c → images old c) → (contents : List Content) → Restores s (reads old) mark contents
      → LeavesOnly number images since old old (λ a c. CommitLeaves s (reads old) a c mark contents next (state_of h) (unlogged_of h.stores))
  still s logs mark next h on outputs_are only contents before =
      started number images since old (λ a c. CommitLeaves s (reads old) a c mark contents next (state_of h) (unlogged_of h.stores)) only
      (λ c now. (c, now, ((λ f other. refl), inl (unwritten_restores s (reads old) (images old) logs mark h on outputs_are contents before c now))))

module _ {D : Type 0} (reads : D → Image) (number : D → ℕ) (images : D → Image → Type 0) (since : D → ℕ → Image → Type 0) (old : D)
    (s : Setup) (logs : Logs) (plan : Frames) (mark : Option Checkpoint) (next : ℕ) (made : Checkpoint) (h : Held)
    (on : OnDisk (reads old) (images old) s logs mark h)
    (plans : PlansCommit s logs h next plan made)
    (changelogs_are : length logs.changelogs.items ≡ length s.stores)
    (outputs_are : length logs.outputs.items ≡ length s.outputs)
    (sized : IsSized s h) where
  grown : (had : TaskFrames) × (more : PlanRecords) × TaskGrows s (reads old) (images old) logs plan mark next made h had more
  grown = task_grows s (reads old) (images old) logs plan mark next made h on plans changelogs_are outputs_are sized

  -- each image has the next checkpoint once the plan is written
  pub commits : (reads' : Image) (images' : Image → Type 0) (logs' : Logs) → AreWritten (reads old) (images old) reads' images' logs logs' plan → (c : Image) → images' c
      → IsCommitted s (reads old) c mark next (state_of h) (unlogged_of h.stores) made
  commits reads' images' logs' follows c now =
      let g = grown in
      all_restores s (reads old) (images old) logs plan mark next made h g.0 g.1 g.2 changelogs_are outputs_are c sized plans.named plans.next_is
      (written_has s (reads old) (images old) logs plan mark next made h g.0 g.1 g.2 changelogs_are outputs_are reads' images' logs' follows c now)

  -- what the writing of the plan leaves
  abbrev pub Left : D → Type 0
  Left new = (had : TaskFrames) (more : PlanRecords) → StandWith (reads old) (images old) logs had → IsPlanOf logs plan more
      → LeavesOnly number images since old new (WriteLeaves (length logs.changelogs.items) (length logs.outputs.items) had more)

  written : (new : D) → Left new → LeavesOnly number images since old new (WriteLeaves (length logs.changelogs.items) (length logs.outputs.items) grown.0 grown.1)
  written new left =
      let g = grown in
      left g.0 g.1
      (stand_with s (reads old) (images old) logs plan mark next made h g.0 g.1 g.2 changelogs_are outputs_are)
      (plan_of s (reads old) (images old) logs plan mark next made h g.0 g.1 g.2 changelogs_are outputs_are)

  pub left_made : (new : D) → Left new → (contents : List Content) → Restores s (reads old) mark contents
      → LeavesOnly number images since old new (λ a c. LeavesMade s (reads old) a c mark contents next (state_of h) (unlogged_of h.stores) made)
  left_made new left contents before =
      let g = grown in
      weaker number images since old new (WriteLeaves (length logs.changelogs.items) (length logs.outputs.items) g.0 g.1)
      (λ a c. LeavesMade s (reads old) a c mark contents next (state_of h) (unlogged_of h.stores) made) (written new left)
      (λ a c now step. write_leaves s (reads old) (images old) logs plan mark next made h g.0 g.1 g.2 changelogs_are outputs_are a c contents sized plans.named plans.next_is before step)

  pub left_some : (new : D) → Left new → (contents : List Content) → Restores s (reads old) mark contents
      → LeavesOnly number images since old new (λ a c. CommitLeaves s (reads old) a c mark contents next (state_of h) (unlogged_of h.stores))
  left_some new left contents before =
      weaker number images since old new (λ a c. LeavesMade s (reads old) a c mark contents next (state_of h) (unlogged_of h.stores) made)
      (λ a c. CommitLeaves s (reads old) a c mark contents next (state_of h) (unlogged_of h.stores)) (left_made new left contents before)
      (λ a c now step. leaves_some s (reads old) a c mark contents next (state_of h) (unlogged_of h.stores) made step)

  pub left_others : (new : D) → Left new → LeavesOnly number images since old new (OthersStay (length s.stores) (length s.outputs))
  left_others new left =
      weaker number images since old new (WriteLeaves (length logs.changelogs.items) (length logs.outputs.items) grown.0 grown.1) (OthersStay (length s.stores) (length s.outputs)) (written new left)
      (λ a c now step.
      subst (λ (m : ℕ). OthersStay (length s.stores) m a c) outputs_are (subst (λ (n : ℕ). OthersStay n (length logs.outputs.items) a c) changelogs_are step.0))
