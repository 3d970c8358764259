-- What a table's tree holds: at a key its value, or the mark that the key was deleted.
use Rattle.std.specs.Prelude.{ℕ, List, [], ◌∷◌, Option, Some, None}
use Rattle.std.specs.Ordering.{nat_cmp}
use Rattle.std.specs.Cmp.Lexicographic.{slice_cmp}
use Rattle.std.specs.FinMap as map
use Rattle.samza_model.specs.Content.{Content, nothing_stored, updated}

abbrev pub Slots : Type 0
Slots = map.FinMap (slice_cmp nat_cmp) (Option (List ℕ))

-- the content after these updates, the last one made first
abbrev pub left_by : List (List ℕ × Option (List ℕ)) → Content
left_by [] = nothing_stored
left_by (e ∷ es) = updated (left_by es) e.0 e.1

-- the keys that have a value
unfoldable pub content_of : Slots → Content
content_of s = left_by (map.entries s)

-- the slots with one set or taken out
abbrev pub with_slot : Slots → List ℕ → Option (Option (List ℕ)) → Slots
with_slot s k (Some w) = map.insert s k w
with_slot s k None = map.remove s k
