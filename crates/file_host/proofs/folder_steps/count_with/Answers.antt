use Rattle.std.proofs.Common.{rules, ◌≡◌, ◌≢◌, ◌∙◌, ◌∷◌, [], ◌<◌, ◌+◌, ◌^◌, ℕ, Option, MatchOption, ap, sym, subst, arith}
use Rattle.std.proofs.lemmas.Fmt.{decimal_injective}
use Rattle.std.proofs.lemmas.List.{append_cancel_right}
use Rattle.std.specs.Fmt.{decimal}
use Rattle.file_host.specs.Places.{file_name}
use Rattle.file_host.proofs.folder_steps.count_with.Goals as goal

pub returns-in-Some-clause-some : goal.returns-in-Some-clause-some
returns-in-Some-clause-some c n lt is =
    let own : c.args.file.now ≡ file_name c.in-Some.partition =
    subst (λ (o : Option ℕ). MatchOption o ((n : ℕ) → n < 2 ^ 32 → c.args.file.now ≢ file_name n) (λ n. c.args.file.now ≡ file_name n)) c.in-Some.is c.in_ok-partition.ensures in
    let digits : decimal c.in-Some.partition ≡ decimal n = append_cancel_right _ _ (46 ∷ 108 ∷ 111 ∷ 103 ∷ []) (sym own ∙ is) in
    let low : c.in-Some.partition < 2 ^ 64 = search rules in
    let same : c.in-Some.partition ≡ n = decimal_injective _ _ low (omega (arith, lt)) digits in
    omega (arith, ap (λ m. m + 1) same, c.saturating_add.ensures)
