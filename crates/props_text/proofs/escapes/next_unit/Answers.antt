use Rattle.std.proofs.Common.{◌≡◌, ℕ, zero, suc, ◌-◌, ◌≤◌, List, [], ◌∷◌, length, take, drop, get_or, Some, refl, sym, ◌∙◌, ap, arith}
use Rattle.std.proofs.lemmas.List.{length-drop, take_all}
use Rattle.props_text.specs.declared.unit.Placed.{Placed}
use Rattle.props_text.specs.Pairs.{hex_unit, with_unit, unescaped}
use Rattle.props_text.proofs.escapes.next_unit.Goals as goal

skipped : (n : ℕ) (ps : List Placed) → unescaped n ps ≡ unescaped 0 (drop n ps)
unfolding unescaped
skipped zero ps = refl
skipped (suc n) [] = refl
skipped (suc n) (p ∷ ps) = skipped n ps

unit_escape : (t rest behind : List Placed) (u : ℕ) (d : Placed) → 2 ≤ length t → (get_or t 0 d).unit ≡ 92 → (get_or t 1 d).unit ≡ 117
    → rest ≡ drop 2 t → hex_unit rest ≡ Some u → behind ≡ drop 4 rest → unescaped 0 t ≡ with_unit u (unescaped 0 behind)
unfolding unescaped
unit_escape [] rest behind u d two first second is_rest hex is_behind = absurd (omega arith)
unit_escape (p ∷ []) rest behind u d two first second is_rest hex is_behind = absurd (omega arith)
unit_escape (p ∷ q ∷ ps) rest behind u d two first second is_rest hex is_behind =
    let value : hex_unit ps ≡ Some u = ap hex_unit (sym is_rest) ∙ hex in
    rw (first, second, value) (ap (with_unit u) (skipped 5 (q ∷ ps) ∙ ap (unescaped 0) (sym (is_behind ∙ ap (drop 4) is_rest))))

pub returns-in-Some-clause-unit : goal.returns-in-Some-clause-unit
returns-in-Some-clause-unit c =
    let t = c.args.text.now in
    let rest = take (length t - 2) (drop 2 t) in
    unit_escape t rest (take (length rest - 4) (drop 4 rest)) c.in-Some.unit _ c.in-len2-up.len_at_least c.if-first-ne92.false c.if-second-ne117.false
    (take_all _ (drop 2 t) (omega (arith, length-drop 2 t))) (sym c.in-Some.ensures.value) (take_all _ (drop 4 rest) (omega (arith, length-drop 4 rest)))
