-- What is read of a changelog of which a checkpoint counts the first records, and what takes the others back.
use Rattle.std.specs.Prelude.{ℕ, ◌≡◌, List, map, take, drop}
use Rattle.std.specs.FinMap as fin
use Rattle.samza_model.specs.declared.messages.Record.{Record}
use Rattle.samza_model.specs.Content.{Content, foldrec}
use Rattle.kv_store.specs.Tracked.{set_of, records_of}

-- the records' keys, each once, in the order of their bytes
abbrev pub keys_of : List Record → List (List ℕ)
keys_of records = fin.keys (set_of (map (λ (r : Record). r.key) records))

-- what takes the records behind the first so many back: each of their keys, as the first ones left it
abbrev pub reverts_of : ℕ → List Record → List Record
reverts_of count records = records_of (foldrec (take count records)) (keys_of (drop count records))

-- the content that the first so many records make, and the keys of the others
pub record IsFold (count : ℕ) (records : List Record) (content : Content) (touched : List (List ℕ)) : Type 0 where
  pub content_is : content ≡ foldrec (take count records)
  pub touched_are : touched ≡ keys_of (drop count records)
