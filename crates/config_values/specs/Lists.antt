-- Lists of names.
use Rattle.std.specs.Prelude.{ℕ, Bool, true, false, cond, ◌==◌, nat_le, List, [], ◌∷◌, ◌++◌, length, map, Option, Some, None, Result, Ok, Err}
use Rattle.std.specs.List.{filter, find, list_all, list_any, slice_split, fold}
use Rattle.std.specs.Ordering.{nat_cmp}
use Rattle.std.specs.Cmp.Lexicographic.{slice_cmp}
use Rattle.std.specs.BTreeSet.{insert_key}
use Rattle.samza_model.specs.Names.{is_topic}
use Rattle.config_values.specs.declared.faults.What.{What}
use Rattle.config_values.specs.declared.faults.What.TheVariants.{Missing, OutOfRange, BadName, Unknown}
use Rattle.config_values.specs.Numbers.{trimmed}
use Rattle.config_values.specs.Values.{same}

abbrev pub is_some_text : List ℕ → Bool
is_some_text [] = false
is_some_text (c ∷ cs) = true

-- the entries of a list: it is cut at commas, each entry is trimmed, and empty ones are skipped
unfoldable pub entries_of : List ℕ → List (List ℕ)
entries_of t = filter is_some_text (map trimmed (slice_split (λ c. c == 44) t))

-- the names, with this one behind them where it isn't there yet
abbrev pub with_name : List (List ℕ) → List ℕ → List (List ℕ)
with_name names name = cond (list_any (λ n. same n name) names) names (names ++ name ∷ [])

-- each name once, at its first place
unfoldable pub each_once : List (List ℕ) → List (List ℕ)
each_once names = fold with_name [] names

-- each name once, in order of their bytes
unfoldable pub in_order : List (List ℕ) → List (List ℕ)
in_order names = fold (insert_key (slice_cmp nat_cmp)) [] names

-- one name or more, and at most so many
abbrev pub counted : ℕ → List (List ℕ) → Result (List (List ℕ)) What
counted most [] = Err Missing
counted most (n ∷ ns) = cond (nat_le (length (n ∷ ns)) most) (Ok (n ∷ ns)) (Err OutOfRange)

-- The names of streams in a list, taken in some order. They are spelled as they must be, before they are counted.
abbrev pub names_in : (List (List ℕ) → List (List ℕ)) → ℕ → List ℕ → Result (List (List ℕ)) What
names_in order most t = cond (list_all is_topic (entries_of t)) (counted most (order (entries_of t))) (Err BadName)

-- the inputs, in order of `system.stream`
unfoldable pub inputs : ℕ → Option (List ℕ) → Result (List (List ℕ)) What
inputs most None = Err Missing
inputs most (Some t) = names_in in_order most t

-- the outputs, in the list's order; every shipped job sends, so that one is needed
unfoldable pub outputs : ℕ → Option (List ℕ) → Result (List (List ℕ)) What
outputs most None = Err Missing
outputs most (Some t) = names_in each_once most t

abbrev pub found : Option (List ℕ) → Result (List ℕ) What
found None = Err Unknown
found (Some name) = Ok name

-- the one of these names that a text is
unfoldable pub one_of : List (List ℕ) → Option (List ℕ) → Result (List ℕ) What
one_of names None = Err Missing
one_of names (Some t) = found (find (λ n. same t n) names)
