-- A store that knows which keys changed since the last commit, and what takes one change back.
use Rattle.std.specs.Prelude.{ℕ, ◌≡◌, ◌≤◌, List, [], ◌∷◌, map, length, Option, Some, None, IfSome, Bool, true, false, if◌then◌else◌, refl}
use Rattle.std.specs.Option.{option_flatten}
use Rattle.std.specs.Ordering.{nat_cmp}
use Rattle.std.specs.Cmp.Lexicographic.{slice_cmp}
use Rattle.std.specs.FinMap as fin
use Rattle.std.specs.Coded.{Coded, code_by, coded×, coded_list, coded_ℕ}
use base.Stored.{coded_unit}
use Rattle.samza_model.specs.declared.messages.Record.{Record}
use Rattle.samza_model.specs.Content.{Content, updated}
use Rattle.samza_model.specs.Limits.{IsWithinLimits}
use Rattle.kv_store.specs.Slots.{Slots, content_of}

-- a set of keys, in the order of their bytes
abbrev pub Keys : Type 0
Keys = fin.FinMap (slice_cmp nat_cmp) (Unit {0})

abbrev pub no_keys : Keys
no_keys = fin.empty

abbrev pub is_in : Keys → List ℕ → Bool
is_in keys key = fin.contains_key keys key

abbrev pub with_key : Keys → List ℕ → Keys
with_key keys key = fin.insert keys key tt

abbrev pub without_key : Keys → List ℕ → Keys
without_key keys key = fin.remove keys key

abbrev pub marked : List (List ℕ) → List (List ℕ × Unit {0})
marked [] = []
marked (k ∷ ks) = (k, tt) ∷ marked ks

-- the set of a list's keys
abbrev pub set_of : List (List ℕ) → Keys
set_of ks = fin.from_entries {R = slice_cmp nat_cmp} (marked ks)

-- the content, and the keys that were set or taken away since the last commit
pub record Tracked : Type 0 where
  pub content : Content
  pub dirty : Keys

abbrev pub tracked_code : Coded Tracked
tracked_code = code_by (Content × Keys) (coded× (fin.code (coded_list coded_ℕ) (coded_list coded_ℕ)) (fin.code (coded_list coded_ℕ) coded_unit))
    (λ s. (s.content, s.dirty)) (λ p. record { content = p.0; dirty = p.1 }) (λ _. refl)

abbrev pub IsDirty : Tracked → List ℕ → Type 0
IsDirty s key = is_in s.dirty key ≡ true

-- the key set to the value, or taken away, and dirty
abbrev pub with_change : Tracked → List ℕ → Option (List ℕ) → Tracked
with_change s key value = record { content = updated s.content key value; dirty = with_key s.dirty key }

-- what takes a change back: the key, the value that it had, and whether the change is what made it dirty
pub record Reversal : Type 0 where
  pub key : List ℕ
  pub value : Option (List ℕ)
  pub unmarks : Bool

abbrev pub unmarked : Keys → List ℕ → Bool → Keys
unmarked keys key unmarks = if unmarks then without_key keys key else keys

-- the store with a change taken back
abbrev pub undone : Tracked → Reversal → Tracked
undone s u = record { content = updated s.content u.key u.value; dirty = unmarked s.dirty u.key u.unmarks }

-- the key with the value that it has now
abbrev pub record_now : Content → List ℕ → Record
record_now c key = record { key = key; value = fin.get c key }

-- a record for each of the keys, with the value that it has in the content, or without one
abbrev pub records_of : Content → List (List ℕ) → List Record
records_of content keys = map (record_now content) keys

-- one record for each dirty key, in the keys' order
abbrev pub unlogged_records : Tracked → List Record
unlogged_records s = records_of s.content (fin.keys s.dirty)

-- the content has at each key that isn't dirty what the store has
abbrev pub AgreesOnClean : Tracked → Content → Type 0
AgreesOnClean s c = (key : List ℕ) → is_in s.dirty key ≡ false → fin.get c key ≡ fin.get s.content key

-- each key and value is within the limits of a record
abbrev pub AreWithinLimits : Content → Type 0
AreWithinLimits c = (key value : List ℕ) → fin.get c key ≡ Some value → IsWithinLimits (record { key = key; value = Some value })

-- what a store keeps: a dirty key has a slot, so that its value can be put back without memory, and nothing is too long
pub record IsTracked (slots : Slots) (dirty : Keys) : Type 0 where
  pub held : (key : List ℕ) → is_in dirty key ≡ true → fin.contains_key slots key ≡ true
  pub short : (key : List ℕ) → is_in dirty key ≡ true → length key ≤ 1024
  pub within : AreWithinLimits (content_of slots)

-- what an undo keeps: nothing in it is too long, and a key that had no slot wasn't dirty
pub record IsUndo (key : List ℕ) (slot : Option (Option (List ℕ))) (unmarks : Bool) : Type 0 where
  pub short : length key ≤ 1024
  pub fits : IfSome (option_flatten slot) (λ value. length value ≤ 65536)
  pub fresh : slot ≡ None → unmarks ≡ true
