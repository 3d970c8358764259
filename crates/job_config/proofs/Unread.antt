-- The keys that nobody asked for, a key at a time.
use Rattle.std.proofs.Common.{ℕ, ◌≡◌, ◌+◌, ◌≤◌, List, [], ◌∷◌, ◌++◌, length, drop, map, Bool, true, false, cond, sym, ◌∙◌, ap, append_assoc}
use Rattle.std.proofs.lemmas.List.{drop_all, append-nil}
use Rattle.std.specs.List.{filter}
use Rattle.std.specs.FinMap as map
use Rattle.props_text.specs.Pairs.{Props}
use Rattle.props_text.specs.Written.{written_text}
use Rattle.job_config.specs.Table.{is_unread, unread}
use Rattle.job_config.specs.Parts.{if_unread}

abbrev unread_of : List (List ℕ) → List (List ℕ) → List (List ℕ)
unread_of asked ks = map written_text (filter (is_unread asked) ks)

one_kept : (b : Bool) (key : List ℕ) (old rest : List (List ℕ))
    → (old ++ cond b (written_text key ∷ []) []) ++ map written_text rest ≡ old ++ map written_text (cond b (key ∷ rest) rest)
one_kept true key old rest = append_assoc old (written_text key ∷ []) (map written_text rest)
one_kept false key old rest = ap (λ ks. ks ++ map written_text rest) (append-nil old)

pub unread_more : (asked ks : List (List ℕ)) (i : ℕ) (key : List ℕ) (old new w : List (List ℕ)) → drop i ks ≡ key ∷ drop (i + 1) ks → new ≡ old ++ if_unread asked key
    → old ++ map written_text (filter (is_unread asked) (drop i ks)) ≡ w → new ++ map written_text (filter (is_unread asked) (drop (i + 1) ks)) ≡ w
unread_more asked ks i key old new w at is was =
    ap (λ ns. ns ++ unread_of asked (drop (i + 1) ks)) is
    ∙ one_kept (is_unread asked key) key old (filter (is_unread asked) (drop (i + 1) ks))
    ∙ sym (ap (λ xs. old ++ unread_of asked xs) at) ∙ was

pub unread_end : (p : Props) (asked : List (List ℕ)) (i : ℕ) (old : List (List ℕ)) → length (map.keys p) ≤ i
    → old ++ map written_text (filter (is_unread asked) (drop i (map.keys p))) ≡ map written_text (filter (is_unread asked) (map.keys p)) → old ≡ unread p asked
unfolding unread
unread_end p asked i old h is = sym (append-nil old) ∙ sym (ap (λ xs. old ++ unread_of asked xs) (drop_all i (map.keys p) h)) ∙ is
