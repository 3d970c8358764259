-- Logical lines: natural lines joined where a line goes on.
use Rattle.std.specs.Prelude.{ℕ, Bool, true, cond, ◌==◌, ◌||◌, ◌&&◌, ◌+◌, ◌-◌, ◌%◌, List, [], ◌∷◌, ◌++◌, map, take, length, Option, Some, None, is_none, option_to_list}
use Rattle.std.specs.List.{suffix_len}
use Rattle.props_text.specs.declared.unit.Placed.{Placed}
use Rattle.props_text.specs.Lines.{skip_white}

-- a line that ends in an odd number of backslashes goes on
abbrev pub goes_on : List ℕ → Bool
goes_on l = suffix_len (λ c. c == 92) l % 2 == 1

-- no line, or a comment: nothing, or what begins with # or !
abbrev pub is_passed_over : List ℕ → Bool
is_passed_over [] = true
is_passed_over (c ∷ cs) = c == 35 || c == 33

-- the units, each with the number of the natural line in which it stands
abbrev pub placed : ℕ → List ℕ → List Placed
placed n us = map (λ u. record { unit = u; line = n }) us

abbrev pub so_far : Option (List Placed) → List Placed
so_far None = []
so_far (Some us) = us

abbrev pub without_last : List ℕ → List ℕ
without_last us = take (length us - 1) us

-- The logical lines of natural lines, of which the first has the number n. `begun` is what stands already of a line that goes on.
-- Between logical lines a blank line and a comment are passed over. A line that continues another is no comment, where
-- java.util.Properties takes it for one while the logical line is still empty. At the end of the text nothing follows.
unfoldable pub logical_lines : Option (List Placed) → ℕ → List (List ℕ) → List (List Placed)
logical_lines begun n [] = option_to_list begun
logical_lines begun n (l ∷ ls) =
    cond (is_none begun && is_passed_over (skip_white l)) (logical_lines None (n + 1) ls)
    (cond (goes_on l) (logical_lines (Some (so_far begun ++ placed n (without_last (skip_white l)))) (n + 1) ls)
    ((so_far begun ++ placed n (skip_white l)) ∷ logical_lines None (n + 1) ls))
