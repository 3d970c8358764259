-- Names.
use Rattle.std.proofs.Common.{ℕ, ◌≡◌, ◌+◌, ◌≤◌, ◌==◌, ◌&&◌, nat_le, List, [], ◌∷◌, length, take, drop, Bool, not, ◌||◌, true, false, refl, sym, ◌∙◌, ap, arith, drop-drop}
use Rattle.std.specs.List.{list_all, position_or_len, before_first, after_first}
use Rattle.std.proofs.lemmas.List.{length-drop, length-append, take-append-drop}
use Rattle.std.proofs.lemmas.Bool.{leb-true}
use Rattle.std.specs.Cmp.Lexicographic.{pointwise}
use Rattle.samza_model.specs.Names.{is_between, is_name_byte, is_system, is_stream, is_topic}

and_left : (a b : Bool) → (a && b) ≡ true → a ≡ true
and_left true b is = refl
and_left false b is = is

and_right : (a b : Bool) → (a && b) ≡ true → b ≡ true
and_right true b is = is
and_right false b is = absurd cc

and_both : (a b : Bool) → a ≡ true → b ≡ true → (a && b) ≡ true
and_both a b p q = cc

-- names are short
pub system_short : (name : List ℕ) → is_system name ≡ true → length name ≤ 64
system_short name is =
    leb-true (length name) 64 (and_right (nat_le 1 (length name)) (nat_le (length name) 64) (and_left (is_between 1 64 (length name)) (list_all is_name_byte name) is))

stream_short : (name : List ℕ) → is_stream name ≡ true → length name ≤ 180
stream_short name is =
    let range = is_between 1 180 (length name) in
    let bytes = list_all (λ c. is_name_byte c || c == 46) name in
    let one = not (pointwise ◌==◌ name (46 ∷ [])) in
    let two = not (pointwise ◌==◌ name (46 ∷ 46 ∷ [])) in
    leb-true (length name) 180 (and_right (nat_le 1 (length name)) (nat_le (length name) 180) (and_left range bytes (and_left (range && bytes) one (and_left (range && bytes && one) two is))))

pub topic_short : (name : List ℕ) → is_topic name ≡ true → length name ≤ 245
topic_short name is =
    let p = position_or_len (λ c. c == 46) name in
    let a : length (take p name) ≤ 64 = system_short (take p name) (and_left (is_system (take p name)) (is_stream (drop (p + 1) name)) is) in
    let b : length (drop (p + 1) name) ≤ 180 = stream_short (drop (p + 1) name) (and_right (is_system (take p name)) (is_stream (drop (p + 1) name)) is) in
    let all : length (take p name) + length (drop p name) ≡ length name = sym (length-append (take p name) (drop p name)) ∙ ap length (take-append-drop p name) in
    omega (arith, a, b, all, length-drop p name, length-drop (p + 1) name)
