-- What a report tells of a task, and of a unit as it stands.
use Rattle.std.specs.Prelude.{ℕ, ◌≡◌, ◌<◌, ◌-◌, List, [], ◌∷◌, length, slice_index_or}
use Rattle.std.specs.FinMap as fin
use Rattle.samza_model.specs.declared.setups.Setup.{Setup}
use Rattle.samza_model.specs.Content.{Content, store_at}
use Rattle.samza_model.specs.Marks.{last_mark}
use Rattle.samza_model.specs.Restored.{id_of}
use Rattle.output_log.specs.Outputs.{sent_count}
use Rattle.core_steps.specs.Held.{contents_of}
use Rattle.core_steps.specs.Lanes.{lane_at}
use Rattle.task_core.specs.Seen.{sent_of}
use Rattle.unit_opening.specs.Inputs.{input_of}
use Rattle.unit_steps.specs.Units.{UnitValue}
use Rattle.container_texts.specs.declared.reports.InputReport.{InputReport}
use Rattle.container_texts.specs.declared.reports.StoreReport.{StoreReport}
use Rattle.container_texts.specs.declared.reports.OutputReport.{OutputReport}
use Rattle.container_texts.specs.declared.reports.TaskReport.{TaskReport}

-- the setup's one input, how far the task came in it, and its end
abbrev pub input_report : Setup → ℕ → ℕ → InputReport
input_report s next end = record { ssp = (input_of s).ssp; next = next; end = end }

-- the i-th store, and how many keys its content has
abbrev pub store_report : Setup → List Content → ℕ → StoreReport
store_report s stores i = record { name = (slice_index_or s.stores i (record { name = []; cache = 1; batch = 1 })).name; keys = fin.len (store_at stores i) }

-- the j-th output, and how many records it was sent
abbrev pub output_report : Setup → (ℕ → ℕ) → ℕ → OutputReport
output_report s sent j = record { name = slice_index_or s.outputs j []; sent = sent j }

-- so many rows, the i-th of which is this one
pub record AreRows {A : Type 0} (n : ℕ) (row : ℕ → A) (rows : List A) : Type 0 where
  pub as_many : length rows ≡ n
  pub each : (i : ℕ) (d : A) → i < n → slice_index_or rows i d ≡ row i

-- The report tells of a task with this setup: its last checkpoint's number, how many messages it did, how far it came in its
-- input and where that ends, its stores' contents, and how many records each output was sent.
pub record ReportsTask (s : Setup) (id completed next end : ℕ) (stores : List Content) (sent : ℕ → ℕ) (report : TaskReport) : Type 0 where
  pub task_is : report.task ≡ s.task
  pub checkpoint_is : report.checkpoint ≡ id
  pub completed_is : report.completed ≡ completed
  pub inputs_are : report.inputs ≡ input_report s next end ∷ []
  pub stores_are : AreRows (length s.stores) (store_report s stores) report.stores
  pub outputs_are : AreRows (length s.outputs) (output_report s sent) report.outputs

-- The report tells of a unit as it stands: its last mark's number, how many messages of its input are covered since its opening,
-- the first one that isn't and where the input ends, its stores' contents, and how many records it sent to each output since its
-- opening, committed or not.
abbrev pub ReportsUnit : {P D S : Type 0} → UnitValue P D S → TaskReport → Type 0
ReportsUnit u report =
    ReportsTask u.core.setup (id_of (last_mark u.marks)) ((lane_at u.core.lanes 0).low - slice_index_or u.core.starts 0 0) (lane_at u.core.lanes 0).low (slice_index_or u.core.ends 0 0) (contents_of u.core.held.stores) (sent_count (sent_of u.core.held)) report
