-- Natural lines, a unit at a time.
use Rattle.std.proofs.Common.{◌≡◌, ℕ, ◌+◌, ◌<◌, ◌≤◌, ◌||◌, ◌&&◌, ◌==◌, Bool, true, false, cond, List, [], ◌∷◌, ◌++◌, length, get_or, take, drop, refl, sym, ap, ◌∙◌, append_assoc, add-one, arith, drop-cons}
use Rattle.std.proofs.lemmas.List.{take_all, append-nil, drop_all}
use Rattle.std.proofs.Math.Seq.{take-suc}
use Rattle.std.proofs.lemmas.Bool.{false≢true, eqb-true}
use Rattle.props_text.specs.Lines.{natural_lines, in_front, is_line_end, starts_with_line_feed, starts_with_line_end, line_end_len}

neither : {A : Type 0} (a b : Bool) (x y z : A) → (a || b) ≡ false → cond a x (cond b y z) ≡ z
neither true b x y z e = absurd (false≢true (sym e))
neither false true x y z e = absurd (false≢true (sym e))
neither false false x y z e = refl

pub natural_lines-plain : (c : ℕ) (cs : List ℕ) → is_line_end c ≡ false → natural_lines (c ∷ cs) ≡ in_front (c ∷ []) (natural_lines cs)
unfolding natural_lines
natural_lines-plain c cs e = neither (c == 10) (c == 13) _ _ _ e

pub in_front-in_front : (us vs : List ℕ) (ls : List (List ℕ)) → in_front us (in_front vs ls) ≡ in_front (us ++ vs) ls
in_front-in_front us vs [] = refl
in_front-in_front us vs (l ∷ ls) = ap (λ k. k ∷ ls) (sym (append_assoc us vs l))

pub natural_lines-at : (text : List ℕ) (i : ℕ) → i < length text → is_line_end (get_or text i 0) ≡ false
    → natural_lines (drop i text) ≡ in_front (get_or text i 0 ∷ []) (natural_lines (drop (i + 1) text))
natural_lines-at text i h e = rw (add-one, drop-cons text i 0 h) (natural_lines-plain _ _ e)

not_both : (c : ℕ) → (c == 10) ≡ true → (c == 13) ≡ true → ⊥
not_both c a b = omega (arith, eqb-true c 10 a, eqb-true c 13 b)

-- behind a carriage return, with or without a line feed
after_return : (c d : ℕ) (ds : List ℕ) (v : Bool) → (d == 10) ≡ v → drop (cond v 1 0) (natural_lines (d ∷ ds)) ≡ natural_lines (drop (cond v 2 1) (c ∷ d ∷ ds))
unfolding natural_lines
after_return c d ds false e = refl
after_return c d ds true e = ap (λ w. drop 1 (cond w ([] ∷ natural_lines ds) (cond (d == 13) ([] ∷ drop (cond (starts_with_line_feed ds) 1 0) (natural_lines ds)) (in_front (d ∷ []) (natural_lines ds))))) e

returned : (c : ℕ) (cs : List ℕ) → drop (cond (starts_with_line_feed cs) 1 0) (natural_lines cs) ≡ natural_lines (drop (cond (starts_with_line_feed cs) 2 1) (c ∷ cs))
unfolding natural_lines
returned c [] = refl
returned c (d ∷ ds) = after_return c d ds (d == 10) refl

behind_either : (a b : Bool) (c : ℕ) (cs : List ℕ) (x : List (List ℕ)) → (a || b) ≡ true → (a ≡ true → b ≡ true → ⊥)
    → cond a ([] ∷ natural_lines cs) (cond b ([] ∷ drop (cond (starts_with_line_feed cs) 1 0) (natural_lines cs)) x) ≡ [] ∷ natural_lines (drop (cond (b && starts_with_line_feed cs) 2 1) (c ∷ cs))
behind_either true true c cs x e apart = absurd (apart refl refl)
behind_either true false c cs x e apart = refl
behind_either false true c cs x e apart = ap (λ ls. [] ∷ ls) (returned c cs)
behind_either false false c cs x e apart = absurd (false≢true e)

-- what stands behind a line end
pub natural_lines-behind : (text : List ℕ) → starts_with_line_end text ≡ true → natural_lines text ≡ [] ∷ natural_lines (drop (line_end_len text) text)
unfolding natural_lines
natural_lines-behind [] e = absurd (false≢true e)
natural_lines-behind (c ∷ cs) e = behind_either (c == 10) (c == 13) c cs (in_front (c ∷ []) (natural_lines cs)) e (not_both c)

one_or_two : (b : Bool) (cs : List ℕ) → (1 ≤ cond (b && starts_with_line_feed cs) 2 1) × (cond (b && starts_with_line_feed cs) 2 1 ≤ length cs + 1)
one_or_two true [] = (omega arith, omega arith)
one_or_two true (d ∷ ds) = elim (d == 10) as (λ v. (1 ≤ cond v 2 1) × (cond v 2 1 ≤ length (d ∷ ds) + 1)) [ true ↦ (omega arith, omega arith) | false ↦ (omega arith, omega arith) ]
one_or_two false cs = (omega arith, omega arith)

pub line_end_len-bounds : (text : List ℕ) → starts_with_line_end text ≡ true → (1 ≤ line_end_len text) × (line_end_len text ≤ length text)
line_end_len-bounds [] e = absurd (false≢true e)
line_end_len-bounds (c ∷ cs) e = let h = one_or_two (c == 13) cs in (h.0, omega (arith, h.1))

-- a text's lines with nothing in front
pub in_front-none : (text : List ℕ) → in_front [] (natural_lines text) ≡ natural_lines text
unfolding natural_lines
in_front-none [] = refl
in_front-none (c ∷ cs) =
    let rest = cond (c == 13) ([] ∷ drop (cond (starts_with_line_feed cs) 1 0) (natural_lines cs)) (in_front (c ∷ []) (natural_lines cs)) in
    let plain : in_front [] rest ≡ rest = elim (c == 13) as (λ b. let z : List (List ℕ) = cond b ([] ∷ drop (cond (starts_with_line_feed cs) 1 0) (natural_lines cs)) (in_front (c ∷ []) (natural_lines cs)) in in_front [] z ≡ z) [
      | true ↦ refl
      | false ↦ in_front-in_front [] (c ∷ []) (natural_lines cs)
    ] in
    elim (c == 10) as (λ b. let z : List (List ℕ) = cond b ([] ∷ natural_lines cs) rest in in_front [] z ≡ z) [ true ↦ refl | false ↦ plain ]

-- the lines with one unit more in front
pub split_more : (text : List ℕ) (i : ℕ) → i < length text → is_line_end (get_or text i 0) ≡ false
    → in_front (take i text) (natural_lines (drop i text)) ≡ natural_lines text
    → in_front (take (i + 1) text) (natural_lines (drop (i + 1) text)) ≡ natural_lines text
split_more text i h plain e =
    ap (λ us. in_front us (natural_lines (drop (i + 1) text))) (rw add-one (take-suc text i 0 h))
    ∙ sym (in_front-in_front (take i text) (get_or text i 0 ∷ []) (natural_lines (drop (i + 1) text)))
    ∙ ap (in_front (take i text)) (sym (natural_lines-at text i h plain)) ∙ e

one_line : (us : List ℕ) → in_front us (natural_lines []) ≡ us ∷ []
unfolding natural_lines
one_line us = ap (λ l. l ∷ []) (append-nil us)

pub split_end : (text : List ℕ) (i : ℕ) → length text ≤ i → in_front (take i text) (natural_lines (drop i text)) ≡ natural_lines text → natural_lines text ≡ text ∷ []
split_end text i h e = sym e ∙ ap (λ us. in_front us (natural_lines (drop i text))) (take_all i text h)
    ∙ ap (λ us. in_front text (natural_lines us)) (drop_all i text h) ∙ one_line text
