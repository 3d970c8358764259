use Rattle.std.proofs.Common.{rules, ◌≡◌, ◌∙◌, ◌++◌, ◌∷◌, [], ℕ, Ok, List, ap, sym, arith}
use Rattle.std.proofs.lemmas.Fmt.{parse-decimal}
use Rattle.std.proofs.lemmas.List.{append_cancel_right}
use Rattle.std.specs.Fmt.{decimal}
use Rattle.file_host.proofs.paths.number_before_end.Goals as goal

pub returns : goal.returns
returns c n lt is =
    let p = c.in_ok-digits.ensures.cases in
    let end : List ℕ = 46 ∷ 108 ∷ 111 ∷ 103 ∷ [] in
    let cut : c.args.file.now ≡ c.in_ok-digits.digits.now ++ end = p.1.1 ∙ ap (λ (t : List ℕ). t ++ end) (sym p.2) in
    let digits : c.in_ok-digits.digits.now ≡ decimal n = append_cancel_right _ _ end (sym cut ∙ is) in
    let parsed : c.parse.result ≡ Ok n = parse-decimal 32 n _ _ lt (omega (arith, lt)) digits c.parse.ensures.value.0 in
    search rules
