-- What a task's files restore to.
use Rattle.std.specs.Prelude.{ℕ, ◌≡◌, ◌<◌, ◌≤◌, List, [], ◌∷◌, ◌++◌, length, max, take, map, Option, Some, None, slice_index_or, if◌then◌else◌}
use Rattle.samza_model.specs.declared.messages.Record.{Record}
use Rattle.samza_model.specs.declared.setups.Setup.{Setup}
use Rattle.samza_model.specs.declared.setups.InputSetup.{InputSetup}
use Rattle.samza_model.specs.declared.setups.StoreSetup.{StoreSetup}
use Rattle.samza_model.specs.declared.setups.OffsetDefault.{OffsetDefault}
use Rattle.samza_model.specs.declared.setups.OffsetDefault.TheVariants.{Oldest, Upcoming}
use Rattle.samza_model.specs.declared.checkpoints.InputMark.{InputMark}
use Rattle.samza_model.specs.declared.checkpoints.StoreMark.{StoreMark}
use Rattle.samza_model.specs.declared.checkpoints.Checkpoint.{Checkpoint}
use Rattle.samza_model.specs.Checkpoint.{StandsFor}
use Rattle.samza_model.specs.Content.{Content, foldrec, store_at}
use Rattle.samza_model.specs.Files.{Image, checkpoint_file, changelog_file, output_file}
use Rattle.samza_model.specs.Logs.{joined, HasFrames, HasLog}
use Rattle.samza_model.specs.Names.{topic_of}
use Rattle.samza_model.specs.Partition.{Partition, end_of}

-- A task that never committed has no checkpoint: number 0, all counts 0, and no offsets.

abbrev pub id_of : Option Checkpoint → ℕ
id_of None = 0
id_of (Some k) = k.id

-- how many records of the i-th store's changelog the checkpoint counts
abbrev pub count_at : Option Checkpoint → ℕ → ℕ
count_at None i = 0
count_at (Some k) i = (slice_index_or k.stores i (record { name = []; count = 0 })).count

-- the file that holds the changelog of the i-th store at a checkpoint
abbrev pub store_file : Option Checkpoint → ℕ → ℕ
store_file mark i = changelog_file i

-- the p-th input's first uncovered offset
abbrev pub next_at : Option Checkpoint → ℕ → Option ℕ
next_at None p = None
next_at (Some k) p = Some (slice_index_or k.inputs p (record { stream = []; partition = 0; next = 0 })).next

-- an input by its name and partition, in a checkpoint and in a setup
abbrev pub marked_place : InputMark → List ℕ × ℕ
marked_place i = (i.stream, i.partition)

abbrev pub setup_place : InputSetup → List ℕ × ℕ
setup_place i = (topic_of i.ssp, i.ssp.partition)

-- the names of stores, in a checkpoint and in a setup
abbrev pub mark_names : List StoreMark → List (List ℕ)
mark_names marks = map (λ (m : StoreMark). m.name) marks

abbrev pub setup_names : List StoreSetup → List (List ℕ)
setup_names stores = map (λ (t : StoreSetup). t.name) stores

-- the checkpoint's names are the setup's, in order
pub record IsNamed (s : Setup) (k : Checkpoint) : Type 0 where
  pub inputs : map marked_place k.inputs ≡ map setup_place s.inputs
  pub stores : mark_names k.stores ≡ setup_names s.stores
  pub outputs : k.outputs ≡ s.outputs

-- the last frame is this checkpoint's record alone, and its number is the number of records
pub record EndsWith (frames : List (List Record)) (k : Checkpoint) : Type 0 where
  pub before : List (List Record)
  pub last : Record
  pub split : frames ≡ before ++ (last ∷ []) ∷ []
  pub spells : StandsFor last k
  pub id : k.id ≡ length (joined frames)

-- the frames of a checkpoint file end with this checkpoint, or there are none
abbrev pub EndsAs : List (List Record) → Option Checkpoint → Type 0
EndsAs frames None = frames ≡ []
EndsAs frames (Some k) = EndsWith frames k

-- the same, and the checkpoint has the setup's names
abbrev pub HasMark : Setup → List (List Record) → Option Checkpoint → Type 0
HasMark s frames None = EndsAs frames None
HasMark s frames (Some k) = EndsAs frames (Some k) × IsNamed s k

pub record IsMarked (s : Setup) (image : Image) (mark : Option Checkpoint) : Type 0 where
  pub frames : List (List Record)
  pub has : HasFrames (image checkpoint_file) frames
  pub mark_is : HasMark s frames mark

-- the file is a changelog whose first so many records make this content
pub record HoldsContent (bytes : List ℕ) (count : ℕ) (content : Content) : Type 0 where
  pub changes : List Record
  pub has : HasLog bytes changes
  pub enough : count ≤ length changes
  pub content_is : content ≡ foldrec (take count changes)

-- the image restores to this checkpoint and these contents
pub record Restores (s : Setup) (image : Image) (mark : Option Checkpoint) (stores : List Content) : Type 0 where
  pub marked : IsMarked s image mark
  pub as_many : length stores ≡ length s.stores
  pub each_store : (i : ℕ) → i < length s.stores → HoldsContent (image (store_file mark i)) (count_at mark i) (store_at stores i)
  pub each_output : (j : ℕ) → j < length s.outputs → (sends : List Record) × HasLog (image (output_file j)) sends

-- where an input without a kept offset begins
abbrev pub fallback_start : OffsetDefault → Partition → ℕ
fallback_start Oldest p = p.first
fallback_start Upcoming p = end_of p

-- where an input begins: at its kept offset, or where its messages begin if that is behind it; unless there is none or the input is
-- reset
abbrev pub start_of : Option ℕ → InputSetup → Partition → ℕ
start_of None i p = fallback_start i.fallback p
start_of (Some next) i p = if i.reset then fallback_start i.fallback p else max next p.first
