-- The entries of a list, one after another.
use Rattle.std.proofs.Common.{ℕ, ◌≡◌, ◌+◌, ◌-◌, ◌<◌, ◌≤◌, ◌==◌, ◌&&◌, List, [], ◌∷◌, ◌++◌, length, take, drop, map, Bool, true, false, Option, Some, None, MatchOption, Bor, refl, sym, ◌∙◌, ap, arith}
use Rattle.std.specs.List.{filter, list_all, position_or_len, slice_split}
use Rattle.std.proofs.lemmas.List.{take_all, length-drop}
use Rattle.std.proofs.lemmas.List.Sums.{fails_before_first}
use Rattle.std.proofs.lemmas.List.Splits.{slice_split_none, slice_split_first}
use Rattle.config_values.specs.Numbers.{trimmed}
use Rattle.config_values.specs.Lists.{entries_of, is_some_text}
use Rattle.samza_model.specs.Names.{is_topic}
use Rattle.config_values.specs.Spelling.{is_ascii}
use Rattle.config_values.specs.Parts.{kept}
use Rattle.config_values.proofs.Spelled.{topic_in_ascii}

-- the entries of what is left of a list, if anything is
abbrev pub entries_left : Option (List ℕ) → List (List ℕ)
entries_left None = []
entries_left (Some rest) = entries_of rest

-- how much is left of a list: one more than its length, if anything is
abbrev pub size_left : Option (List ℕ) → ℕ
size_left None = 0
size_left (Some rest) = length rest + 1

abbrev is_comma : ℕ → Bool
is_comma c = c == 44

kept_first : (x : List ℕ) (xs : List (List ℕ)) → filter is_some_text (x ∷ xs) ≡ kept x ++ filter is_some_text xs
kept_first [] xs = refl
kept_first (c ∷ cs) xs = refl

kept_last : (x : List ℕ) → filter is_some_text (x ∷ []) ≡ kept x
kept_last [] = refl
kept_last (c ∷ cs) = refl

pub entries_end : (t entry : List ℕ) → length t ≤ position_or_len (λ c. c == 44) t → entry ≡ trimmed t → entries_of t ≡ kept entry
unfolding entries_of
entries_end t entry h e =
    ap (λ ps. filter is_some_text (map trimmed ps)) (slice_split_none is_comma t (λ k d below. fails_before_first is_comma t k d (omega arith)))
    ∙ kept_last (trimmed t) ∙ ap kept (sym e)

pub entries_more : (t entry front rest : List ℕ) → position_or_len (λ c. c == 44) t < length t → front ≡ take (position_or_len (λ c. c == 44) t) t
    → rest ≡ drop (position_or_len (λ c. c == 44) t + 1) t → entry ≡ trimmed front → entries_of t ≡ kept entry ++ entries_of rest
unfolding entries_of
entries_more t entry front rest h f r e =
    ap (λ ps. filter is_some_text (map trimmed ps)) (slice_split_first is_comma t 0 h)
    ∙ kept_first (trimmed (take (position_or_len is_comma t) t)) (map trimmed (slice_split is_comma (drop (position_or_len is_comma t + 1) t)))
    ∙ ap (λ x. kept x ++ filter is_some_text (map trimmed (slice_split is_comma (drop (position_or_len is_comma t + 1) t)))) (ap trimmed (sym f) ∙ sym e)
    ∙ ap (λ x. kept entry ++ filter is_some_text (map trimmed (slice_split is_comma x))) (sym r)

pub entries_behind : (t entry : List ℕ) (comma : ℕ) → comma ≡ position_or_len (λ c. c == 44) t → comma < length t → entry ≡ trimmed (take comma t)
    → entries_of t ≡ kept entry ++ entries_of (take (length t - (comma + 1)) (drop (comma + 1) t))
entries_behind t entry comma is h e =
    entries_more t entry (take comma t) (take (length t - (comma + 1)) (drop (comma + 1) t)) (omega arith) (ap (λ (k : ℕ). take k t) is)
    (take_all (length t - (comma + 1)) (drop (comma + 1) t) (omega (arith, length-drop (comma + 1) t)) ∙ ap (λ (k : ℕ). drop (k + 1) t) is) e

and_left : (a b : Bool) → (a && b) ≡ true → a ≡ true
and_left true b is = refl
and_left false b is = is

first_in_ascii : (entry : List ℕ) (rest : List (List ℕ)) → list_all is_topic (kept entry ++ rest) ≡ true → list_all is_ascii entry ≡ true
first_in_ascii [] rest h = refl
first_in_ascii (c ∷ cs) rest h = topic_in_ascii (c ∷ cs) (and_left (is_topic (c ∷ cs)) (list_all is_topic rest) h)

only_in_ascii : (entry : List ℕ) → list_all is_topic (kept entry) ≡ true → list_all is_ascii entry ≡ true
only_in_ascii [] h = refl
only_in_ascii (c ∷ cs) h = topic_in_ascii (c ∷ cs) (and_left (is_topic (c ∷ cs)) true h)

-- the first entry of a list of names of streams is in ASCII
pub entry_in_ascii : (entry : List ℕ) (all : List (List ℕ)) (behind : Option (Bor (List ℕ))) → MatchOption behind (all ≡ kept entry) (λ rest. all ≡ kept entry ++ entries_of rest.now)
    → list_all is_topic all ≡ true → list_all is_ascii entry ≡ true
entry_in_ascii entry all None e h = only_in_ascii entry (sym (ap (list_all is_topic) e) ∙ h)
entry_in_ascii entry all (Some rest) e h = first_in_ascii entry (entries_of rest.now) (sym (ap (list_all is_topic) e) ∙ h)
