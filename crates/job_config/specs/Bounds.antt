-- What every configuration keeps to: its names are spelled as they must be, its inputs and its stores rise by name, no output
-- stands twice, and its lists, numbers and intervals are within their bounds.
use Rattle.std.specs.Prelude.{ℕ, ◌≡◌, ◌<◌, ◌≤◌, ◌^◌, true, List, length, map, Option, IfSome}
use Rattle.std.specs.List.{AllByRecursion}
use Rattle.std.specs.List.Sorted.{IsStrictlySortedBy}
use Rattle.std.specs.Ordering.{nat_cmp}
use Rattle.std.specs.Cmp.Lexicographic.{slice_cmp}
use Rattle.samza_model.specs.Checkpoint.{are_distinct}
use Rattle.samza_model.specs.Names.{is_system, is_topic, topic_of}
use Rattle.samza_model.specs.declared.setups.StoreSetup.{StoreSetup}
use Rattle.job_config.specs.declared.config.InputConfig.{InputConfig}
use Rattle.job_config.specs.declared.config.JobConfig.{JobConfig}
use Rattle.config_values.specs.Values.{is_job_name}

-- one stream's name or more, and at most so many
pub record AreTopics (most : ℕ) (names : List (List ℕ)) : Type 0 where
  pub some : 1 ≤ length names
  pub few : length names ≤ most
  pub each : AllByRecursion (λ n. is_topic n ≡ true) names

-- an input as `system.stream`, as each of its partitions is named
abbrev pub input_name : InputConfig → List ℕ
input_name i = topic_of (record { system = i.system; stream = i.stream; partition = 0 })

-- a number from low to high
abbrev pub IsWithin : ℕ → ℕ → ℕ → Type 0
IsWithin low high n = (low ≤ n) × (n ≤ high)

-- An interval in milliseconds is never 0, and is below 2^63; none means never.
abbrev pub IsInterval : Option ℕ → Type 0
IsInterval t = IfSome t (λ n. (1 ≤ n) × (n < 2 ^ 63))

-- a store's name and its sizes
pub record IsStore (s : StoreSetup) : Type 0 where
  pub name : is_system s.name ≡ true
  pub cache : IsWithin 1 1000000 s.cache
  pub batch : IsWithin 1 4096 s.batch

-- one store or more, and at most 8
pub record AreStores (stores : List StoreSetup) : Type 0 where
  pub some : 1 ≤ length stores
  pub few : length stores ≤ 8
  pub each : AllByRecursion IsStore stores

abbrev pub store_name : StoreSetup → List ℕ
store_name s = s.name

-- each name comes before all behind it, by their bytes
abbrev pub AreRising : List (List ℕ) → Type 0
AreRising names = IsStrictlySortedBy (slice_cmp nat_cmp) names

pub record IsBounded (c : JobConfig) : Type 0 where
  pub job : is_job_name c.job ≡ true
  pub inputs : AreTopics 16 (map input_name c.inputs)
  pub outputs : AreTopics 8 c.outputs
  pub stores : AreStores c.stores
  pub inputs_rise : AreRising (map input_name c.inputs)
  pub outputs_distinct : are_distinct c.outputs ≡ true
  pub stores_rise : AreRising (map store_name c.stores)
  pub priorities : AllByRecursion (λ i. i.priority ≤ 1000000) c.inputs
  pub containers : IsWithin 1 256 c.containers
  pub workers : c.workers ≤ 32
  pub concurrency : IsWithin 1 64 c.concurrency
  pub batch : IsWithin 1 1000000 c.batch
  pub window : IsInterval c.window_ms
  pub commit : IsInterval c.commit_ms
  pub timeout : IsInterval c.timeout_ms
