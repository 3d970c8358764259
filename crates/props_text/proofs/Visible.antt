-- What is written is visible, and is read back a unit at a time.
use Rattle.std.proofs.Common.{◌≡◌, ℕ, ◌+◌, ◌*◌, ◌/◌, ◌%◌, ◌^◌, ◌<◌, ◌≤◌, ◌==◌, Bool, true, false, cond, List, [], ◌∷◌, ◌++◌, length, Option, Some, None, Result, Ok, Err, refl, ap, ◌∙◌, arith, append_assoc, length-append}
use Rattle.std.specs.List.{AllByRecursion}
use Rattle.std.specs.Option.{option_and_then}
use Rattle.std.proofs.lemmas.List.{map-append, length-map}
use Rattle.props_text.specs.declared.unit.Placed.{Placed}
use Rattle.props_text.specs.Lines.{is_white, is_line_end}
use Rattle.props_text.specs.Logical.{placed}
use Rattle.props_text.specs.Pairs.{ends_key, escapes_next, key_len, hex_digit, hex_unit, escape_of, with_unit, unescaped}
use Rattle.props_text.specs.Written.{upper_digit, is_special, is_plain, escape_text, written_unit, written_text, AreUnits}

abbrev pub Visible : List ℕ → Type 0
Visible us = AllByRecursion (λ c. (33 ≤ c) × (c ≤ 126)) us

pub Visible-append : (us vs : List ℕ) → Visible us → Visible vs → Visible (us ++ vs)
Visible-append [] vs h k = k
Visible-append (u ∷ us) vs h k = (h.0, Visible-append us vs h.1 k)

digit_visible : (d : ℕ) → d < 16 → (48 ≤ upper_digit d) × (upper_digit d ≤ 70)
digit_visible d h = grind arith

special_visible : (u : ℕ) → is_special u ≡ true → (33 ≤ u) × (u ≤ 126)
special_visible u e = grind arith

plain_visible : (u : ℕ) → is_plain u ≡ true → (33 ≤ u) × (u ≤ 126)
plain_visible u e = grind arith

pub not_white : (c : ℕ) → 33 ≤ c → is_white c ≡ false
not_white c h = grind arith

pub no_end : (c : ℕ) → 33 ≤ c → is_line_end c ≡ false
no_end c h = grind arith

hex_digit-upper : (d : ℕ) → d < 16 → hex_digit (upper_digit d) ≡ Some d
hex_digit-upper d h = grind arith

four_digits : (u : ℕ) → u < 2 ^ 16 → 16 * (16 * (16 * (u / 16 / 16 / 16) + u / 16 / 16 % 16) + u / 16 % 16) + u % 16 ≡ u
four_digits u h = omega arith

pub first_digit : (u : ℕ) → u < 2 ^ 16 → u / 16 / 16 / 16 < 16
first_digit u h = omega arith

special_stays : (u : ℕ) → is_special u ≡ true → escape_of u ≡ u
special_stays u e = grind arith

special_no_u : (u : ℕ) → is_special u ≡ true → (u == 117) ≡ false
special_no_u u e = grind arith

pub special_else : (u : ℕ) → is_special u ≡ false → (u == 92) ≡ false
special_else u e = grind arith

plain_no_end : (u : ℕ) → is_special u ≡ false → is_plain u ≡ true → ends_key false u ≡ false
plain_no_end u e p = grind arith

digit_no_end : (d : ℕ) → d < 16 → ends_key false (upper_digit d) ≡ false
digit_no_end d h = grind arith

pub digit_no_slash : (d : ℕ) → d < 16 → (upper_digit d == 92) ≡ false
digit_no_slash d h = grind arith

unit_visible : (b c : Bool) (u : ℕ) → u < 2 ^ 16 → is_special u ≡ b → is_plain u ≡ c → Visible (cond b (92 ∷ u ∷ []) (cond c (u ∷ []) (escape_text u)))
unit_visible true c u h e p = ((omega arith, omega arith), (special_visible u e, tt))
unit_visible false true u h e p = (plain_visible u p, tt)
unit_visible false false u h e p =
    let v : (d : ℕ) → d < 16 → (33 ≤ upper_digit d) × (upper_digit d ≤ 126) = λ d l. let w = digit_visible d l in (omega (arith, w.0), omega (arith, w.1)) in
    ((omega arith, omega arith), ((omega arith, omega arith), (v (u / 16 / 16 / 16) (first_digit u h), (v (u / 16 / 16 % 16) (omega arith), (v (u / 16 % 16) (omega arith), (v (u % 16) (omega arith), tt))))))

pub written_text-visible : (us : List ℕ) → AreUnits us → Visible (written_text us)
unfolding written_unit
written_text-visible [] h = tt
written_text-visible (u ∷ us) h = Visible-append (written_unit u) (written_text us) (unit_visible (is_special u) (is_plain u) u h.0 refl refl) (written_text-visible us h.1)

-- ---- a written text is unescaped to what it was

alone : (p : Placed) (us : List ℕ) (rest : List Placed) → (p.unit == 92) ≡ false → unescaped 0 rest ≡ Ok us → unescaped 0 (p ∷ rest) ≡ Ok (p.unit ∷ us)
unfolding unescaped
alone p us [] e h = ap (λ b. cond b (Ok []) (Ok (p.unit ∷ []))) e ∙ (let n : [] ≡ us = cc in ap (λ l. Ok (p.unit ∷ l)) n)
alone p us (q ∷ ps) e h =
    ap (λ b. cond b (cond (q.unit == 117) (elim (hex_unit ps) [ None ↦ Err p.line | Some u ↦ with_unit u (unescaped 5 (q ∷ ps)) ]) (with_unit (escape_of q.unit) (unescaped 1 (q ∷ ps)))) (with_unit p.unit (unescaped 0 (q ∷ ps)))) e
    ∙ ap (with_unit p.unit) h

behind_slash : (n : ℕ) (q : Placed) (us : List ℕ) (rest : List Placed) → (q.unit == 117) ≡ false → escape_of q.unit ≡ q.unit → unescaped 0 rest ≡ Ok us
    → unescaped 0 (record { unit = 92; line = n } ∷ q ∷ rest) ≡ Ok (q.unit ∷ us)
unfolding unescaped
behind_slash n q us rest other same h =
    ap (λ b. cond b (elim (hex_unit rest) [ None ↦ Err n | Some u ↦ with_unit u (unescaped 5 (q ∷ rest)) ]) (with_unit (escape_of q.unit) (unescaped 1 (q ∷ rest)))) other
    ∙ ap (λ c. with_unit c (unescaped 1 (q ∷ rest))) same ∙ ap (with_unit q.unit) h

behind_u : (n u : ℕ) (q a b c d : Placed) (us : List ℕ) (rest : List Placed) → q.unit ≡ 117 → hex_unit (a ∷ b ∷ c ∷ d ∷ rest) ≡ Some u → unescaped 0 rest ≡ Ok us
    → unescaped 0 (record { unit = 92; line = n } ∷ q ∷ a ∷ b ∷ c ∷ d ∷ rest) ≡ Ok (u ∷ us)
unfolding unescaped
behind_u n u q a b c d us rest is value h =
    ap (λ (x : ℕ). cond (x == 117) (elim (hex_unit (a ∷ b ∷ c ∷ d ∷ rest)) [ None ↦ Err n | Some u ↦ with_unit u (unescaped 5 (q ∷ a ∷ b ∷ c ∷ d ∷ rest)) ]) (with_unit (escape_of x) (unescaped 1 (q ∷ a ∷ b ∷ c ∷ d ∷ rest)))) is
    ∙ ap (λ (o : Option ℕ). elim o as (λ _. Result (List ℕ) ℕ) [ None ↦ Err n | Some u ↦ with_unit u (unescaped 5 (q ∷ a ∷ b ∷ c ∷ d ∷ rest)) ]) value
    ∙ ap (with_unit u) h

chained : (a b c d w x y z : ℕ) → hex_digit a ≡ Some w → hex_digit b ≡ Some x → hex_digit c ≡ Some y → hex_digit d ≡ Some z
    → option_and_then (λ a. option_and_then (λ b. option_and_then (λ c. option_and_then (λ d. Some (16 * (16 * (16 * a + b) + c) + d)) (hex_digit d)) (hex_digit c)) (hex_digit b)) (hex_digit a)
    ≡ Some (16 * (16 * (16 * w + x) + y) + z)
chained a b c d w x y z e f g h = rw (e, f, g, h) refl

unit_back : (b c : Bool) (n u : ℕ) (us : List ℕ) (rest : List Placed) → u < 2 ^ 16 → is_special u ≡ b → is_plain u ≡ c → unescaped 0 rest ≡ Ok us
    → unescaped 0 (placed n (cond b (92 ∷ u ∷ []) (cond c (u ∷ []) (escape_text u))) ++ rest) ≡ Ok (u ∷ us)
unit_back true c n u us rest l e p h = behind_slash n (record { unit = u; line = n }) us rest (special_no_u u e) (special_stays u e) h
unit_back false true n u us rest l e p h = alone (record { unit = u; line = n }) us rest (special_else u e) h
unit_back false false n u us rest l e p h =
    behind_u n u (record { unit = 117; line = n }) (record { unit = upper_digit (u / 16 / 16 / 16); line = n }) (record { unit = upper_digit (u / 16 / 16 % 16); line = n })
    (record { unit = upper_digit (u / 16 % 16); line = n }) (record { unit = upper_digit (u % 16); line = n }) us rest refl
    (chained (upper_digit (u / 16 / 16 / 16)) (upper_digit (u / 16 / 16 % 16)) (upper_digit (u / 16 % 16)) (upper_digit (u % 16)) _ _ _ _ (hex_digit-upper _ (first_digit u l)) (hex_digit-upper _ (omega arith)) (hex_digit-upper _ (omega arith)) (hex_digit-upper _ (omega arith)) ∙ ap Some (four_digits u l)) h

none_escaped : unescaped 0 [] ≡ Ok []
unfolding unescaped
none_escaped = refl

pub unescaped-written : (n : ℕ) (us : List ℕ) → AreUnits us → unescaped 0 (placed n (written_text us)) ≡ Ok us
unfolding written_unit
unescaped-written n [] h = none_escaped
unescaped-written n (u ∷ us) h =
    ap (unescaped 0) (map-append (λ (c : ℕ). let p : Placed = record { unit = c; line = n } in p) (written_unit u) (written_text us))
    ∙ unit_back (is_special u) (is_plain u) n u us (placed n (written_text us)) h.0 refl refl (unescaped-written n us h.1)

-- ---- the key's length

key_over : (escaped : Bool) (p : Placed) (rest : List Placed) → ends_key escaped p.unit ≡ false → key_len escaped (p ∷ rest) ≡ key_len (escapes_next escaped p.unit) rest + 1
unfolding key_len
key_over escaped p rest e = ap (λ b. cond b 0 (key_len (escapes_next escaped p.unit) rest + 1)) e

key_plain : (p : Placed) (rest : List Placed) (k : ℕ) → ends_key false p.unit ≡ false → (p.unit == 92) ≡ false → key_len false rest ≡ k → key_len false (p ∷ rest) ≡ k + 1
key_plain p rest k e f h = key_over false p rest e ∙ ap (λ b. key_len b rest + 1) f ∙ ap (λ n. n + 1) h

key_slash : (n : ℕ) (q : Placed) (rest : List Placed) (k : ℕ) → key_len false rest ≡ k → key_len false (record { unit = 92; line = n } ∷ q ∷ rest) ≡ k + 1 + 1
key_slash n q rest k h = key_over false (record { unit = 92; line = n }) (q ∷ rest) refl ∙ ap (λ n. n + 1) (key_over true q rest refl ∙ ap (λ n. n + 1) h)

unit_key : (b c : Bool) (n u : ℕ) (rest : List Placed) → u < 2 ^ 16 → is_special u ≡ b → is_plain u ≡ c
    → let out = cond b (92 ∷ u ∷ []) (cond c (u ∷ []) (escape_text u)) in key_len false (placed n out ++ rest) ≡ length out + key_len false rest
unit_key true c n u rest l e p = key_slash n (record { unit = u; line = n }) rest _ refl ∙ omega arith
unit_key false true n u rest l e p = key_plain (record { unit = u; line = n }) rest _ (plain_no_end u e p) (special_else u e) refl ∙ omega arith
unit_key false false n u rest l e p =
    let d : (k : ℕ) (after : List Placed) (m : ℕ) → k < 16 → key_len false after ≡ m → key_len false (record { unit = upper_digit k; line = n } ∷ after) ≡ m + 1
    = λ k after m below h. key_plain (record { unit = upper_digit k; line = n }) after m (digit_no_end k below) (digit_no_slash k below) h in
    key_slash n (record { unit = 117; line = n }) _ _
    (d (u / 16 / 16 / 16) _ _ (first_digit u l) (d (u / 16 / 16 % 16) _ _ (omega arith) (d (u / 16 % 16) _ _ (omega arith) (d (u % 16) _ _ (omega arith) refl))))
    ∙ omega arith

pub key_len-written : (n : ℕ) (us : List ℕ) (rest : List Placed) → AreUnits us → key_len false rest ≡ 0 → key_len false (placed n (written_text us) ++ rest) ≡ length (placed n (written_text us))
unfolding written_unit
key_len-written n [] rest h z = z
key_len-written n (u ∷ us) rest h z =
    let f : ℕ → Placed = λ c. record { unit = c; line = n } in
    ap (λ l. key_len false (l ++ rest)) (map-append f (written_unit u) (written_text us))
    ∙ ap (key_len false) (append_assoc (placed n (written_unit u)) (placed n (written_text us)) rest)
    ∙ unit_key (is_special u) (is_plain u) n u (placed n (written_text us) ++ rest) h.0 refl refl
    ∙ ap (λ k. length (written_unit u) + k) (key_len-written n us rest h.1 z)
    ∙ omega (arith, length-map (written_unit u ++ written_text us) f, length-map (written_text us) f, length-append (written_unit u) (written_text us))
