-- What of a task's stores no changelog has yet.
use Rattle.std.specs.Prelude.{ℕ, List, [], map, slice_index_or}
use Rattle.samza_model.specs.declared.messages.Record.{Record}
use Rattle.kv_store.specs.Tracked.{Tracked, unlogged_records}

-- per store one record for each dirty key, in the keys' order, with its value now
abbrev pub unlogged_of : List Tracked → List (List Record)
unlogged_of stores = map unlogged_records stores

-- what is unlogged of the i-th store; `sent_at` says the same of what the j-th output was sent
abbrev pub unlogged_at : List (List Record) → ℕ → List Record
unlogged_at unlogged i = slice_index_or unlogged i []
