-- Counts and their spellings.
use Rattle.std.proofs.Common.{◌≡◌, ℕ, ◌<◌, ◌^◌, Bool, true, false, cond, ◌&&◌, List, Option, Some, None, MatchOption, Result, Ok, Err, decimal, nat_lt, refl, ap, sym, ◌∙◌, subst, true≢false, arith, ltb-true, lt-ltb, unwrap_or}
use Rattle.std.specs.Result.{result_ok}
use Rattle.std.specs.Str.{IsUtf8}
use Rattle.std.specs.Str.Parse.{digits_value, ParsesUnsigned}
use Rattle.std.proofs.lemmas.Slice.Eq.{slice_eq-Decides}
use Rattle.std.proofs.lemmas.Bool.Decides.{Decides-eqb}
use Rattle.std.proofs.lemmas.Fmt.{decimal_is_IsNumeral, parse-decimal, IsAscii-decimal}
use Rattle.std.proofs.lemmas.Str.{IsUtf8-from_ascii}
use Rattle.shipped_jobs.specs.WordCount.{count_spelled, count_end, is_text}

-- what a text spells: its only number, or none
abbrev pub SpellsAtMost : List ℕ → Option ℕ → Type 0
SpellsAtMost text o = MatchOption o ((n : ℕ) → n < 2 ^ 64 → decimal n ≡ text → ⊥) (λ n. (m : ℕ) → m < 2 ^ 64 → decimal m ≡ text → m ≡ n)

text_from_test : (x y : List ℕ) → is_text x y ≡ true → x ≡ y
text_from_test x y h = (slice_eq-Decides Decides-eqb x y (is_text x y) refl).0 h

test_from_text : (x y : List ℕ) → x ≡ y → is_text x y ≡ true
test_from_text x y h = (slice_eq-Decides Decides-eqb x y (is_text x y) refl).1 h

both_true : (a b : Bool) → a ≡ true → b ≡ true → (a && b) ≡ true
both_true a b p q = ap (λ x. x && b) p ∙ q

first_true : (a b : Bool) → (a && b) ≡ true → a ≡ true
first_true true b h = refl
first_true false b h = h

second_true : (a b : Bool) → (a && b) ≡ true → b ≡ true
second_true true b h = h
second_true false b h = absurd (true≢false (sym h))

-- a count is what its spelling stands for
pub count_of-decimal : (text : List ℕ) (n : ℕ) → n < count_end → decimal n ≡ text → Some n ≡ count_spelled text
count_of-decimal text n low is =
    let value : digits_value 10 text ≡ n = ap (digits_value 10) (sym is) ∙ (decimal_is_IsNumeral n (omega arith)).1 in
    let test : (nat_lt (digits_value 10 text) count_end && is_text (decimal (digits_value 10 text)) text) ≡ true =
    both_true _ _ (lt-ltb _ _ (subst (λ x. x < count_end) (sym value) low)) (test_from_text _ _ (ap decimal value ∙ is)) in
    sym (ap (λ b. cond b (Some (digits_value 10 text)) None) test ∙ ap Some value)

-- and what is no count's spelling stands for none
pub count_of-none : (text : List ℕ) → ((n : ℕ) → n < count_end → decimal n ≡ text → ⊥) → None ≡ count_spelled text
count_of-none text none = elim (nat_lt (digits_value 10 text) count_end && is_text (decimal (digits_value 10 text)) text)
    as (λ b. (nat_lt (digits_value 10 text) count_end && is_text (decimal (digits_value 10 text)) text) ≡ b → None ≡ cond b (Some (digits_value 10 text)) None) [
      | true ↦ λ h. absurd (none (digits_value 10 text) (ltb-true _ _ (first_true _ _ h)) (text_from_test _ _ (second_true _ _ h)))
      | false ↦ λ h. refl
    ] refl

pub spells_from_parse : {E : Type 0} (text : List ℕ) (r : Result ℕ E) → ParsesUnsigned 64 10 text r → SpellsAtMost text (result_ok r)
spells_from_parse {E = E} text (Ok x) parsed = λ m low is. sym (ap (λ r. unwrap_or (result_ok r) x) (parse-decimal {E = E} 64 m text (Ok x) low low (sym is) parsed))
spells_from_parse {E = E} text (Err e) parsed = λ n low is. let h : ◌≡◌ {A = Result ℕ E} (Err e) (Ok n) = parse-decimal {E = E} 64 n text (Err e) low low (sym is) parsed in cc

-- the text is the number's spelling
pub spelled_is : (text spelled bytes : List ℕ) (n : ℕ) → true ≡ is_text bytes text → bytes ≡ spelled → spelled ≡ decimal n → decimal n ≡ text
spelled_is text spelled bytes n same b s = sym (b ∙ s) ∙ text_from_test bytes text (sym same)

pub no_spelling : (text : List ℕ) → (IsUtf8 text → ⊥) → (n : ℕ) → n < 2 ^ 64 → decimal n ≡ text → ⊥
no_spelling text bad n low is = bad (subst IsUtf8 is (IsUtf8-from_ascii (decimal n) (IsAscii-decimal n low)))
