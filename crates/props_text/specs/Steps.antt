-- What the private parts of the reader promise each other, step by step.
use Rattle.std.specs.Prelude.{◌≡◌, ℕ, ◌+◌, List, [], ◌∷◌, Option, Some, None, Result, Ok, Err, option_to_list}
use Rattle.std.specs.FinMap.{entries}
use Rattle.props_text.specs.declared.unit.Placed.{Placed}
use Rattle.props_text.specs.declared.join.Joined.{Joined}
use Rattle.props_text.specs.declared.join.Joined.TheVariants.{PassedOver, GoesOn, Whole}
use Rattle.props_text.specs.declared.faults.PropsFault.{PropsFault}
use Rattle.props_text.specs.Logical.{logical_lines}
use Rattle.props_text.specs.Pairs.{Props, with_unit, unescaped, pairs_onto, props_of}
use Rattle.props_text.specs.Outcome.{FailsProps}

-- the units of a text, of which this is the first and what is behind it
abbrev pub units_behind : Option (ℕ × List Placed) → Result (List ℕ) ℕ
units_behind None = Ok []
units_behind (Some p) = with_unit p.0 (unescaped 0 p.1)

-- the logical lines, where the natural lines behind have the numbers from n on
abbrev pub lines_behind : Joined → ℕ → List (List ℕ) → List (List Placed)
lines_behind PassedOver n ls = logical_lines None n ls
lines_behind (GoesOn begun) n ls = logical_lines (Some begun.items) n ls
lines_behind (Whole line) n ls = line.items ∷ logical_lines None n ls

abbrev pub map_ok : {X Y E : Type 0} → (X → Y) → Result X E → Result Y E
map_ok f (Ok x) = Ok (f x)
map_ok f (Err e) = Err e

-- The map m has these entries. Then the one that holds after the line has those.
abbrev pub Puts : List Placed → List (List ℕ × List ℕ) → List (List ℕ × List ℕ) → Result (Unit {0}) PropsFault → Type 0
Puts line old new (Ok _) = (m : Props) → entries m ≡ old → (n : Props) × (entries n ≡ new) × ((ls : List (List Placed)) → pairs_onto m (line ∷ ls) ≡ pairs_onto n ls)
Puts line old new (Err fault) = (m : Props) → entries m ≡ old → (ls : List (List Placed)) → FailsProps fault (pairs_onto m (line ∷ ls))

-- The same of what goes on at the end of the text.
abbrev pub PutsLast : Option (List Placed) → List (List ℕ × List ℕ) → List (List ℕ × List ℕ) → Result (Unit {0}) PropsFault → Type 0
PutsLast begun old new (Ok _) = (m : Props) → entries m ≡ old → (n : Props) × (entries n ≡ new) × (pairs_onto m (option_to_list begun) ≡ Ok n)
PutsLast begun old new (Err fault) = (m : Props) → entries m ≡ old → FailsProps fault (pairs_onto m (option_to_list begun))

-- The same, where a natural line with the number n is joined to what goes on before it.
abbrev pub Takes : Option (List Placed) → ℕ → List ℕ → List (List ℕ × List ℕ) → List (List ℕ × List ℕ) → Result (Option (List Placed)) PropsFault → Type 0
Takes begun n line old new (Ok after) = (m : Props) → entries m ≡ old → (k : Props) × (entries k ≡ new)
    × ((ls : List (List ℕ)) → pairs_onto m (logical_lines begun n (line ∷ ls)) ≡ pairs_onto k (logical_lines after (n + 1) ls))
Takes begun n line old new (Err fault) = (m : Props) → entries m ≡ old → (ls : List (List ℕ)) → FailsProps fault (pairs_onto m (logical_lines begun n (line ∷ ls)))

abbrev pub map_entries : Result Props ℕ → Result (List (List ℕ × List ℕ)) ℕ
map_entries (Ok m) = Ok (entries m)
map_entries (Err line) = Err line

abbrev pub entries_read : List ℕ → Result (List (List ℕ × List ℕ)) ℕ
entries_read text = map_entries (props_of text)
