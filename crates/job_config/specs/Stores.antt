-- The stores of a configuration, and the rows of their keys.
use Rattle.std.specs.Prelude.{ℕ, Bool, false, cond, not, ◌&&◌, ◌-◌, nat_le, List, [], ◌∷◌, length, take, drop, map, Option, Some, None, Result, Ok, Err, codes}
use Rattle.std.specs.Option.{option_and_then}
use Rattle.std.specs.List.{find, filter_map}
use Rattle.std.specs.FinMap.{keys}
use Rattle.props_text.specs.Pairs.{Props}
use Rattle.samza_model.specs.Names.{is_system}
use Rattle.samza_model.specs.declared.setups.StoreSetup.{StoreSetup}
use Rattle.config_values.specs.declared.faults.What.TheVariants.{Missing, OutOfRange, BadName}
use Rattle.job_config.specs.declared.keys.Setting.TheVariants.{Stores}
use Rattle.job_config.specs.declared.keys.StoreSetting.{StoreSetting}
use Rattle.job_config.specs.declared.keys.StoreSetting.TheVariants.{Factory, Changelog, CacheSize, BatchSize}
use Rattle.job_config.specs.Keys.{text_of, store_key}
use Rattle.config_values.specs.Values.{same, size, any_text, some_text}
use Rattle.config_values.specs.Lists.{in_order}
use Rattle.job_config.specs.Asking.{Fault, Asks, ◌>>=◌, gives, row, each, unless}

-- what stands behind this front of a text, and before this back of it
abbrev pub behind : List ℕ → List ℕ → Option (List ℕ)
behind front t = cond (nat_le (length front) (length t) && same (take (length front) t) front) (Some (drop (length front) t)) None

abbrev pub before : List ℕ → List ℕ → Option (List ℕ)
before back t = cond (nat_le (length back) (length t) && same (drop (length t - length back) t) back) (Some (take (length t - length back) t)) None

abbrev pub first_of : Option (List ℕ) → Option (List ℕ) → Option (List ℕ)
first_of None u = u
first_of (Some t) u = Some t

abbrev pub named_in : List ℕ → Option (List ℕ)
named_in rest = first_of (before (codes ".factory") rest) (before (codes ".changelog") rest)

-- <n> of `stores.<n>.factory` and of `stores.<n>.changelog`, whatever it is
unfoldable pub store_of : List ℕ → Option (List ℕ)
store_of key = option_and_then named_in (behind (codes "stores.") key)

abbrev pub is_no_store_name : Option (List ℕ) → Bool
is_no_store_name None = false
is_no_store_name (Some name) = not (is_system name)

-- such a key whose <n> isn't a store's name
abbrev pub is_misnamed : List ℕ → Bool
is_misnamed key = is_no_store_name (store_of key)

abbrev pub unless_misnamed : Option (List ℕ) → List (List ℕ) → Result (List (List ℕ)) Fault
unless_misnamed None names = Ok names
unless_misnamed (Some key) names = Err (key, BadName)

-- the names of the stores, in order, or the first key with a name that is none
unfoldable pub store_names : Props → Result (List (List ℕ)) Fault
store_names p = unless_misnamed (find is_misnamed (keys p)) (in_order (filter_map store_of (keys p)))

-- one store or more, since every shipped job needs one, and at most 8
unfoldable pub counted_stores : List StoreSetup → Result (List StoreSetup) Fault
counted_stores [] = Err (text_of Stores, Missing)
counted_stores (s ∷ ss) = cond (nat_le (length (s ∷ ss)) 8) (Ok (s ∷ ss)) (Err (text_of Stores, OutOfRange))

-- a store, as it is where its keys say nothing of sizes
abbrev pub new_store : List ℕ → StoreSetup
new_store name = record { name = name; cache = 1000; batch = 500 }

-- a row of a store: the store with what its key says
unfoldable pub store_row : Props → StoreSetting → StoreSetup → Asks StoreSetup
store_row p Factory store = do
  _ ← row p (store_key Factory store.name) any_text
  gives store
store_row p Changelog store = do
  _ ← row p (store_key Changelog store.name) some_text
  gives store
store_row p CacheSize store = do
  cache ← row p (store_key CacheSize store.name) (size store.cache 1000000)
  gives (record store { cache = cache })
store_row p BatchSize store = do
  batch ← row p (store_key BatchSize store.name) (size store.batch 4096)
  gives (record store { batch = batch })

-- the rows of the stores, each over all stores in order of name
unfoldable pub store_rows : Props → Asks (List StoreSetup)
store_rows p = do
  names ← unless (store_names p)
  made ← each (map new_store names) (store_row p Factory)
  kept ← each made (store_row p Changelog)
  counted ← unless (counted_stores kept)
  cached ← each counted (store_row p CacheSize)
  each cached (store_row p BatchSize)
