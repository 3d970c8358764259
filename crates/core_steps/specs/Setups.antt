-- The setups of which a task can be made.
use Rattle.std.specs.Prelude.{ℕ, ◌≡◌, ◌≢◌, ◌≤◌, Some}
use Rattle.std.specs.List.{AllByRecursion}
use Rattle.samza_model.specs.declared.checkpoints.Checkpoint.{Checkpoint}
use Rattle.samza_model.specs.declared.setups.Setup.{Setup}
use Rattle.samza_model.specs.Checkpoint.{IsWellFormed}
use Rattle.samza_model.specs.Restored.{IsNamed}

-- a checkpoint with the setup's names has a spelling, so there are no more stores and outputs than a checkpoint may have; and a frame of
-- a changelog has at most 1 to 4,096 records
pub record IsCommittable (s : Setup) : Type 0 where
  pub spelled : (k : Checkpoint) → IsNamed s k → IsWellFormed k
  pub batches : AllByRecursion (λ t. (1 ≤ t.batch) × (t.batch ≤ 4096)) s.stores

-- commits can be made, and no bound is one by which nothing would ever be done
pub record IsRunnable (s : Setup) : Type 0 where
  pub committable : IsCommittable s
  pub concurrency : 1 ≤ s.concurrency
  pub span : 1 ≤ s.span
  pub commits : s.commit_ms ≢ Some 0
  pub windows : s.window_ms ≢ Some 0
