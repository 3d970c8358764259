-- What the private parts of the reader promise each other, step by step.
use Rattle.std.specs.Prelude.{◌≡◌, ℕ, List, [], ◌∷◌, Option, Some, None, Result, Ok, Err, true, false, cond}
use Rattle.std.specs.Ordering.{nat_cmp}
use Rattle.std.specs.Cmp.Lexicographic.{slice_cmp}
use Rattle.std.specs.BTreeSet.{insert_key}
use Rattle.config_values.specs.declared.faults.What.{What}
use Rattle.config_values.specs.declared.faults.What.TheVariants.{BadName}
use Rattle.job_config.specs.declared.faults.ConfigFault.{ConfigFault}
use Rattle.job_config.specs.declared.faults.ConfigFault.TheVariants.{Bad as BadKey, NoMemory as NoRoom}
use Rattle.job_config.specs.declared.rows.RowFault.{RowFault}
use Rattle.job_config.specs.declared.rows.RowFault.TheVariants.{Bad, NoMemory}
use Rattle.job_config.specs.Stores.{store_of, is_misnamed}
use Rattle.props_text.specs.Written.{written_text}
use Rattle.job_config.specs.Table.{is_unread}
use Rattle.job_config.specs.Asking.{Fault}
use Rattle.job_config.specs.Outcome.{FailsRow}

-- What a function answered is what asking gives, unless memory ran out.
abbrev pub GivesRow : {A : Type 0} → List (List ℕ) → Result A RowFault → Result (A × List (List ℕ)) Fault → Type 0
GivesRow asked (Ok x) asking = asking ≡ Ok (x, asked)
GivesRow asked (Err fault) asking = FailsRow fault asking

-- The same of what is no asking.
abbrev pub Answers : {A : Type 0} → Result A RowFault → Result A Fault → Type 0
Answers (Ok x) r = r ≡ Ok x
Answers (Err fault) r = FailsRow fault r

-- what a key says is put in, or refused
abbrev pub Puts : {A : Type 0} → A → Result (Unit {0}) What → Result A What → Type 0
Puts new (Ok _) said = said ≡ Ok new
Puts new (Err what) said = said ≡ Err what

-- the names in order, with this one
abbrev pub with_store : Option (List ℕ) → List (List ℕ) → List (List ℕ)
with_store None names = names
with_store (Some name) names = insert_key (slice_cmp nat_cmp) names name

-- the store of a key is put among the names, or the key is misnamed
abbrev pub PutsStore : List ℕ → List (List ℕ) → List (List ℕ) → Result (Unit {0}) RowFault → Type 0
PutsStore key old new (Ok _) = (is_misnamed key ≡ false) × (new ≡ with_store (store_of key) old)
PutsStore key old new (Err NoMemory) = Unit {0}
PutsStore key old new (Err (Bad k what)) = (is_misnamed key ≡ true) × (k ≡ key) × (what ≡ BadName)

-- a key as it is written, where nobody asked for it
abbrev pub if_unread : List (List ℕ) → List ℕ → List (List ℕ)
if_unread asked key = cond (is_unread asked key) (written_text key ∷ []) []

-- the fault of a row, with its key as it is written, or want of memory
abbrev pub IsWritten : RowFault → ConfigFault → Type 0
IsWritten fault NoRoom = Unit {0}
IsWritten NoMemory (BadKey k w) = ⊥
IsWritten (Bad key what) (BadKey k w) = (k ≡ written_text key) × (w ≡ what)
