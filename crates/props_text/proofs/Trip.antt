-- What is written is read as it was: its lines, and the whole of it.
use Rattle.std.proofs.Common.{◌≡◌, ℕ, ◌+◌, ◌%◌, ◌/◌, ◌^◌, ◌<◌, ◌==◌, ◌||◌, Bool, true, false, cond, T, List, [], ◌∷◌, ◌++◌, length, take, drop, reverse, Some, None, Ok, refl, sym, ap, subst, ◌∙◌, arith, append_assoc}
use Rattle.std.specs.List.{flat_map, AllByRecursion, prefix_len, suffix_len}
use Rattle.std.specs.Ordering.{nat_cmp}
use Rattle.std.specs.Cmp.Lexicographic.{slice_cmp}
use Rattle.std.specs.FinMap.{entries, empty, insert, entries_sorted, entries-insert, same_entries_map}
use Rattle.std.proofs.lemmas.Bool.{eqb-true}
use Rattle.std.proofs.lemmas.Cmp.{nat_list_cmp_total}
use Rattle.std.proofs.lemmas.List.{map-append, reverse-append, append-nil}
use Rattle.std.proofs.Math.Seq.{take-append_seam, drop-append_seam}
use Rattle.props_text.specs.declared.unit.Placed.{Placed}
use Rattle.props_text.specs.Lines.{is_white, natural_lines, in_front, skip_white}
use Rattle.props_text.specs.Logical.{goes_on, is_passed_over, placed, logical_lines, without_last}
use Rattle.props_text.specs.Pairs.{Props, ◌>>=◌, key_len, skip_blank, skip_mark, unescaped, pair_of, pairs_onto}
use Rattle.props_text.specs.Written.{upper_digit, is_special, is_plain, escape_text, written_unit, written_text, written_pair, AreUnits, WrittenComesBack}
use Rattle.props_text.specs.Sorted.{rises}
use Rattle.props_text.proofs.Ends.{natural_lines-plain}
use Rattle.props_text.proofs.Puts.{no_lines, entries-none}
use Rattle.props_text.proofs.Search.{put-last}
use Rattle.props_text.proofs.Visible.{Visible, Visible-append, written_text-visible, unescaped-written, key_len-written, not_white, no_end, special_else, digit_no_slash}

-- a pair's line, without its line end
abbrev line_of : List ℕ × List ℕ → List ℕ
line_of p = written_text p.0 ++ 61 ∷ written_text p.1

line_visible : (p : List ℕ × List ℕ) → AreUnits p.0 → AreUnits p.1 → Visible (line_of p)
line_visible p h k = Visible-append (written_text p.0) (61 ∷ written_text p.1) (written_text-visible p.0 h) ((omega arith, omega arith), written_text-visible p.1 k)

-- ---- a line is a natural line

line_ended : (rest : List ℕ) → natural_lines (10 ∷ rest) ≡ [] ∷ natural_lines rest
unfolding natural_lines
line_ended rest = refl

natural_line : (us rest : List ℕ) → Visible us → natural_lines (us ++ 10 ∷ rest) ≡ us ∷ natural_lines rest
natural_line [] rest h = line_ended rest
natural_line (u ∷ us) rest h = natural_lines-plain u (us ++ 10 ∷ rest) (no_end u h.0.0) ∙ ap (in_front (u ∷ [])) (natural_line us rest h.1)

no_text : natural_lines [] ≡ [] ∷ []
unfolding natural_lines
no_text = refl

-- ---- a line is a logical line

stripped : (us : List ℕ) → Visible us → skip_white us ≡ us
stripped [] h = refl
stripped (u ∷ us) h = ap (λ b. drop (cond b (1 + prefix_len is_white us) 0) (u ∷ us)) (not_white u h.0.0)

plain_first : (u : ℕ) → is_special u ≡ false → (u == 35 || u == 33) ≡ false
plain_first u e = grind arith

no_comment : (b c : Bool) (u : ℕ) (rest : List ℕ) → is_special u ≡ b → is_plain u ≡ c → is_passed_over (cond b (92 ∷ u ∷ []) (cond c (u ∷ []) (escape_text u)) ++ rest) ≡ false
no_comment true c u rest e p = refl
no_comment false true u rest e p = plain_first u e
no_comment false false u rest e p = refl

not_passed : (us rest : List ℕ) → is_passed_over (written_text us ++ 61 ∷ rest) ≡ false
unfolding written_unit
not_passed [] rest = refl
not_passed (u ∷ us) rest = ap is_passed_over (append_assoc (written_unit u) (written_text us) (61 ∷ rest)) ∙ no_comment (is_special u) (is_plain u) u (written_text us ++ 61 ∷ rest) refl refl

abbrev slashes : List ℕ → ℕ
slashes us = suffix_len (λ c. c == 92) us

slashes-other : (us : List ℕ) (u : ℕ) → (u == 92) ≡ false → slashes (us ++ u ∷ []) ≡ 0
slashes-other us u e = ap (prefix_len (λ c. c == 92)) (reverse-append us (u ∷ [])) ∙ ap (λ b. cond b (1 + prefix_len (λ c. c == 92) (reverse us)) 0) e

slashes-slash : (us : List ℕ) → slashes (us ++ 92 ∷ []) ≡ 1 + slashes us
slashes-slash us = ap (prefix_len (λ c. c == 92)) (reverse-append us (92 ∷ []))

two_more : (n : ℕ) → n % 2 ≡ 0 → (1 + (1 + n)) % 2 ≡ 0
two_more n h = omega arith

special_even : (us : List ℕ) (u : ℕ) (b : Bool) → (u == 92) ≡ b → slashes us % 2 ≡ 0 → slashes (us ++ 92 ∷ u ∷ []) % 2 ≡ 0
special_even us u true e h =
    let is : u ≡ 92 = eqb-true u 92 e in
    ap (λ l. slashes l % 2) (ap (λ v. us ++ 92 ∷ v ∷ []) is ∙ sym (append_assoc us (92 ∷ []) (92 ∷ [])))
    ∙ ap (λ n. n % 2) (slashes-slash (us ++ 92 ∷ []) ∙ ap (λ n. 1 + n) (slashes-slash us)) ∙ two_more (slashes us) h
special_even us u false e h = ap (λ l. slashes l % 2) (sym (append_assoc us (92 ∷ []) (u ∷ []))) ∙ ap (λ n. n % 2) (slashes-other (us ++ 92 ∷ []) u e)

unit_even : (b c : Bool) (us : List ℕ) (u : ℕ) → u < 2 ^ 16 → is_special u ≡ b → is_plain u ≡ c → slashes us % 2 ≡ 0
    → slashes (us ++ cond b (92 ∷ u ∷ []) (cond c (u ∷ []) (escape_text u))) % 2 ≡ 0
unit_even true c us u l e p h = special_even us u (u == 92) refl h
unit_even false true us u l e p h = ap (λ n. n % 2) (slashes-other us u (special_else u e))
unit_even false false us u l e p h =
    let front = 92 ∷ 117 ∷ upper_digit (u / 16 / 16 / 16) ∷ upper_digit (u / 16 / 16 % 16) ∷ upper_digit (u / 16 % 16) ∷ [] in
    ap (λ l. slashes l % 2) (sym (append_assoc us front (upper_digit (u % 16) ∷ [])))
    ∙ ap (λ n. n % 2) (slashes-other (us ++ front) (upper_digit (u % 16)) (digit_no_slash (u % 16) (omega arith)))

text_even : (us vs : List ℕ) → AreUnits vs → slashes us % 2 ≡ 0 → slashes (us ++ written_text vs) % 2 ≡ 0
unfolding written_unit
text_even us [] h e = ap (λ l. slashes l % 2) (append-nil us) ∙ e
text_even us (v ∷ vs) h e =
    ap (λ l. slashes l % 2) (sym (append_assoc us (written_unit v) (written_text vs)))
    ∙ text_even (us ++ written_unit v) vs h.1 (unit_even (is_special v) (is_plain v) us v h.0 refl refl e)

not_odd : (n : ℕ) → n % 2 ≡ 0 → (n % 2 == 1) ≡ false
not_odd n h = ap (λ k. k == 1) h

stays : (p : List ℕ × List ℕ) → AreUnits p.1 → goes_on (line_of p) ≡ false
stays p h = not_odd _ (
    ap (λ l. slashes l % 2) (sym (append_assoc (written_text p.0) (61 ∷ []) (written_text p.1)))
    ∙ text_even (written_text p.0 ++ 61 ∷ []) p.1 h (ap (λ n. n % 2) (slashes-other (written_text p.0) 61 refl)))

logical_line : (n : ℕ) (l : List ℕ) (ls : List (List ℕ)) → skip_white l ≡ l → is_passed_over l ≡ false → goes_on l ≡ false
    → logical_lines None n (l ∷ ls) ≡ placed n l ∷ logical_lines None (n + 1) ls
unfolding logical_lines
logical_line n l ls s p g =
    ap (λ v. cond (is_passed_over v) (logical_lines None (n + 1) ls) (cond (goes_on l) (logical_lines (Some (placed n (without_last v))) (n + 1) ls) (placed n v ∷ logical_lines None (n + 1) ls))) s
    ∙ ap (λ b. cond b (logical_lines None (n + 1) ls) (cond (goes_on l) (logical_lines (Some (placed n (without_last l))) (n + 1) ls) (placed n l ∷ logical_lines None (n + 1) ls))) p
    ∙ ap (λ b. cond b (logical_lines (Some (placed n (without_last l))) (n + 1) ls) (placed n l ∷ logical_lines None (n + 1) ls)) g

no_more : (n : ℕ) → logical_lines None n ([] ∷ []) ≡ []
unfolding logical_lines
no_more n = refl

-- ---- a line's pair

blank_free : (n : ℕ) (us : List ℕ) → Visible us → skip_blank (placed n us) ≡ placed n us
blank_free n [] h = refl
blank_free n (u ∷ us) h = ap (λ b. drop (cond b (1 + prefix_len (λ p. is_white p.unit) (placed n us)) 0) (placed n (u ∷ us))) (not_white u h.0.0)

mark_ends : (n : ℕ) (us : List ℕ) → key_len false (placed n (61 ∷ us)) ≡ 0
unfolding key_len
mark_ends n us = refl

pair_cut : (front back : List Placed) (k v : List ℕ) → key_len false (front ++ back) ≡ length front → unescaped 0 front ≡ Ok k
    → unescaped 0 (skip_blank (skip_mark (skip_blank back))) ≡ Ok v → pair_of (front ++ back) ≡ Ok (k, v)
unfolding pair_of
pair_cut front back k v len key value =
    ap (λ n. unescaped 0 (take n (front ++ back)) >>= λ key. unescaped 0 (skip_blank (skip_mark (skip_blank (drop n (front ++ back))))) >>= λ value. Ok (key, value)) len
    ∙ ap (λ l. unescaped 0 l >>= λ key. unescaped 0 (skip_blank (skip_mark (skip_blank (drop (length front) (front ++ back))))) >>= λ value. Ok (key, value)) (take-append_seam front back)
    ∙ ap (λ l. unescaped 0 front >>= λ key. unescaped 0 (skip_blank (skip_mark (skip_blank l))) >>= λ value. Ok (key, value)) (drop-append_seam front back)
    ∙ ap (λ r. r >>= λ key. unescaped 0 (skip_blank (skip_mark (skip_blank back))) >>= λ value. Ok (key, value)) key
    ∙ ap (λ r. r >>= λ value. Ok (k, value)) value

line_pair : (n : ℕ) (p : List ℕ × List ℕ) → AreUnits p.0 → AreUnits p.1 → pair_of (placed n (line_of p)) ≡ Ok p
line_pair n p h k =
    let f : ℕ → Placed = λ c. record { unit = c; line = n } in
    ap pair_of (map-append f (written_text p.0) (61 ∷ written_text p.1))
    ∙ pair_cut (placed n (written_text p.0)) (placed n (61 ∷ written_text p.1)) p.0 p.1
    (key_len-written n p.0 (placed n (61 ∷ written_text p.1)) h (mark_ends n (written_text p.1)))
    (unescaped-written n p.0 h)
    (ap (unescaped 0) (blank_free n (written_text p.1) (written_text-visible p.1 k)) ∙ unescaped-written n p.1 k)

-- ---- the whole

put_line : (m : Props) (line : List Placed) (ls : List (List Placed)) (p : List ℕ × List ℕ) → pair_of line ≡ Ok p → (length line ≡ 0 → ⊥)
    → pairs_onto m (line ∷ ls) ≡ pairs_onto (insert m p.0 p.1) ls
unfolding pairs_onto
put_line m [] ls p e some = absurd (some refl)
put_line m (q ∷ qs) ls p e some = ap (λ r. r >>= λ pair. pairs_onto (insert m pair.0 pair.1) ls) e

some_placed : (n : ℕ) (us vs : List ℕ) → length (placed n (us ++ 61 ∷ vs)) ≡ 0 → ⊥
some_placed n [] vs e = omega arith
some_placed n (u ∷ us) vs e = omega arith

one_line : (p : List ℕ × List ℕ) (rest : List ℕ) → AreUnits p.0 → AreUnits p.1 → natural_lines (written_pair p ++ rest) ≡ line_of p ∷ natural_lines rest
one_line p rest h k =
    ap natural_lines (append_assoc (written_text p.0) (61 ∷ (written_text p.1 ++ 10 ∷ [])) rest ∙ ap (λ l. written_text p.0 ++ 61 ∷ l) (append_assoc (written_text p.1) (10 ∷ []) rest)
    ∙ sym (append_assoc (written_text p.0) (61 ∷ written_text p.1) (10 ∷ rest)))
    ∙ natural_line (line_of p) rest (line_visible p h k)

abbrev AllOfUnits : List (List ℕ × List ℕ) → Type 0
AllOfUnits es = AllByRecursion (λ p. AreUnits p.0 × AreUnits p.1) es

put_on : (es : List (List ℕ × List ℕ)) (n : ℕ) (m : Props) → AllOfUnits es → T (rises (entries m ++ es))
    → (k : Props) × (entries k ≡ entries m ++ es) × (pairs_onto m (logical_lines None n (natural_lines (flat_map written_pair es))) ≡ Ok k)
put_on [] n m h r = (m, sym (append-nil (entries m)), ap (λ ls. pairs_onto m (logical_lines None n ls)) no_text ∙ ap (pairs_onto m) (no_more n) ∙ no_lines m)
put_on (p ∷ es) n m h r =
    let next : Props = insert m p.0 p.1 in
    let has : entries next ≡ entries m ++ p ∷ [] = entries-insert nat_list_cmp_total m p.0 p.1 ∙ put-last (slice_cmp nat_cmp) nat_list_cmp_total p.0 p.1 (entries m) es r in
    let same : entries next ++ es ≡ entries m ++ p ∷ es = ap (λ l. l ++ es) has ∙ append_assoc (entries m) (p ∷ []) es in
    let k = put_on es (n + 1) next h.1 (subst (λ l. T (rises l)) (sym same) r) in
    let rest = flat_map written_pair es in (
      k.0,
      k.1 ∙ same,
      ap (λ ls. pairs_onto m (logical_lines None n ls)) (one_line p rest h.0.0 h.0.1)
          ∙ ap (pairs_onto m) (logical_line n (line_of p) (natural_lines rest) (stripped (line_of p) (line_visible p h.0.0 h.0.1)) (not_passed p.0 (written_text p.1)) (stays p h.0.1))
          ∙ put_line m (placed n (line_of p)) (logical_lines None (n + 1) (natural_lines rest)) p (line_pair n p h.0.0 h.0.1) (some_placed n (written_text p.0) (written_text p.1))
          ∙ k.2,
    )

pub comes_back : WrittenComesBack
comes_back m h =
    let k = put_on (entries m) 1 empty h (subst (λ l. T (rises (l ++ entries m))) (sym entries-none) (entries_sorted m)) in
    k.2 ∙ ap Ok (same_entries_map k.0 m (k.1 ∙ ap (λ l. l ++ entries m) entries-none))
