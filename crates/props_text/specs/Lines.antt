-- Natural lines of a text, and what is white space.
use Rattle.std.specs.Prelude.{ℕ, Bool, false, cond, ◌==◌, ◌||◌, ◌&&◌, List, [], ◌∷◌, ◌++◌, drop}
use Rattle.std.specs.List.{prefix_len}

-- space, tab and form feed
abbrev pub is_white : ℕ → Bool
is_white c = c == 32 || c == 9 || c == 12

abbrev pub starts_with_line_feed : List ℕ → Bool
starts_with_line_feed [] = false
starts_with_line_feed (c ∷ cs) = c == 10

-- the lines, with these units in front of the first
abbrev pub in_front : List ℕ → List (List ℕ) → List (List ℕ)
in_front us [] = us ∷ []
in_front us (l ∷ ls) = (us ++ l) ∷ ls

-- A natural line ends at LF, CR, or CR LF, or at the end of the text.
-- What follows a CR LF is what follows the LF.
unfoldable pub natural_lines : List ℕ → List (List ℕ)
natural_lines [] = [] ∷ []
natural_lines (c ∷ cs) =
    cond (c == 10) ([] ∷ natural_lines cs)
    (cond (c == 13) ([] ∷ drop (cond (starts_with_line_feed cs) 1 0) (natural_lines cs))
    (in_front (c ∷ []) (natural_lines cs)))

-- a line without its leading white space
abbrev pub skip_white : List ℕ → List ℕ
skip_white us = drop (prefix_len is_white us) us

abbrev pub is_line_end : ℕ → Bool
is_line_end c = c == 10 || c == 13

abbrev pub starts_with_line_end : List ℕ → Bool
starts_with_line_end [] = false
starts_with_line_end (c ∷ cs) = is_line_end c

-- how long the line end is with which a text begins: CR LF is one line end
abbrev pub line_end_len : List ℕ → ℕ
line_end_len [] = 0
line_end_len (c ∷ cs) = cond (c == 13 && starts_with_line_feed cs) 2 1
