-- What is shown of a properties text.
use Rattle.std.specs.Prelude.{ℕ, List, ◌∷◌, ◌++◌, [], Result, Ok, Err, codes, decimal}
use Rattle.std.specs.FinMap.{len}
use Rattle.props_text.specs.Pairs.{Props}
use Rattle.props_text.specs.Written.{written}

-- the line of a malformed escape
abbrev pub escape_line : ℕ → List ℕ
escape_line n = codes "line " ++ decimal n ++ codes ": BadEscape" ++ 10 ∷ []

-- the pairs as they are written, or the line of the malformed escape
abbrev pub shown : Result Props ℕ → List ℕ
shown (Ok pairs) = written pairs
shown (Err n) = escape_line n

-- the number of pairs, or the line of the malformed escape
abbrev pub counted : Result Props ℕ → List ℕ
counted (Ok pairs) = decimal (len pairs) ++ 10 ∷ []
counted (Err n) = escape_line n
