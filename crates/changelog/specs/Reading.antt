-- What was made of the records that were read so far.
use Rattle.std.specs.Prelude.{ℕ, ◌≡◌, ◌-◌, List, map, length, take, drop}
use Rattle.samza_model.specs.declared.messages.Record.{Record}
use Rattle.samza_model.specs.Content.{foldrec}
use Rattle.kv_store.specs.Tracked.{set_of}
use Rattle.changelog.specs.declared.folds.Fold.{Fold}

-- of records of which so many are counted, these were read: the counted ones made the table, the others' keys were
-- touched, and so many counted ones are still to come
pub record HasRead (count : ℕ) (records : List Record) (fold : Fold) : Type 0 where
  pub content_is : fold.table ≡ foldrec (take count records)
  pub touched_are : set_of fold.touched.keys ≡ set_of (map (λ (r : Record). r.key) (drop count records))
  pub left_is : fold.left ≡ count - length records
