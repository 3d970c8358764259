-- The key's length, a unit at a time.
use Rattle.std.proofs.Common.{◌≡◌, ℕ, ◌+◌, ◌<◌, ◌≤◌, Bool, true, false, cond, List, [], length, get_or, drop, refl, sym, ap, ◌∙◌, add-one, arith, drop-cons}
use Rattle.std.proofs.lemmas.List.{drop_all}
use Rattle.props_text.specs.declared.unit.Placed.{Placed}
use Rattle.props_text.specs.Pairs.{key_len, ends_key, escapes_next}

pub key_len-at : (escaped : Bool) (line : List Placed) (i : ℕ) (d : Placed) → i < length line
    → key_len escaped (drop i line) ≡ cond (ends_key escaped (get_or line i d).unit) 0 (key_len (escapes_next escaped (get_or line i d).unit) (drop (i + 1) line) + 1)
unfolding key_len
key_len-at escaped line i d h =
    ap (key_len escaped) (drop-cons line i d h)
    ∙ ap (λ n. cond (ends_key escaped (get_or line i d).unit) 0 (key_len (escapes_next escaped (get_or line i d).unit) (drop n line) + 1)) (sym (add-one i))

pub key_len-stops : (escaped : Bool) (line : List Placed) (i n : ℕ) (d : Placed) → i < length line → ends_key escaped (get_or line i d).unit ≡ true
    → i + key_len escaped (drop i line) ≡ n → i ≡ n
key_len-stops escaped line i n d h ends e =
    let zero : key_len escaped (drop i line) ≡ 0 = key_len-at escaped line i d h ∙ ap (λ b. cond b 0 (key_len (escapes_next escaped (get_or line i d).unit) (drop (i + 1) line) + 1)) ends in
    omega arith

pub key_len-more : (escaped next : Bool) (line : List Placed) (i n : ℕ) (d : Placed) → i < length line → ends_key escaped (get_or line i d).unit ≡ false
    → next ≡ escapes_next escaped (get_or line i d).unit → i + key_len escaped (drop i line) ≡ n → i + 1 + key_len next (drop (i + 1) line) ≡ n
key_len-more escaped next line i n d h on is e =
    let more : key_len escaped (drop i line) ≡ key_len (escapes_next escaped (get_or line i d).unit) (drop (i + 1) line) + 1 =
    key_len-at escaped line i d h ∙ ap (λ b. cond b 0 (key_len (escapes_next escaped (get_or line i d).unit) (drop (i + 1) line) + 1)) on in
    let same : key_len next (drop (i + 1) line) ≡ key_len (escapes_next escaped (get_or line i d).unit) (drop (i + 1) line) = ap (λ b. key_len b (drop (i + 1) line)) is in
    omega arith

none_left : (escaped : Bool) → key_len escaped [] ≡ 0
unfolding key_len
none_left escaped = refl

pub key_len-end : (escaped : Bool) (line : List Placed) (i n : ℕ) → length line ≤ i → i + key_len escaped (drop i line) ≡ n → i ≡ n
key_len-end escaped line i n h e =
    let zero : key_len escaped (drop i line) ≡ 0 = ap (key_len escaped) (drop_all i line h) ∙ none_left escaped in
    omega arith
