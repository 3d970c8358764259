use Rattle.std.proofs.Common.{ℕ, List, ap, sym, ◌∙◌}
use Rattle.std.proofs.lemmas.List.{nil_from_length}
use Rattle.samza_model.specs.Journals.{is_among}
use Rattle.slow_model.proofs.Kept.{among_here, among_others}
use Rattle.slow_model.proofs.journals.+is_among.Goals as goal

pub returns-in_default : goal.returns-in_default
returns-in_default t c = ap (λ (l : List ℕ). is_among l c.args.number) (sym (nil_from_length c.args.numbers.now c.in_default.ensures.cases))

pub returns-then-first-number : goal.returns-then-first-number
returns-then-first-number t c = among_here c.args.numbers.now c.in-Some.others.now c.in-Some.first.now c.args.number c.in-Some.ensures.cases.0 c.if-first-number.true

pub returns : goal.returns
returns t c = c.is_among.ensures ∙ among_others c.args.numbers.now c.in-Some.others.now c.in-Some.first.now c.args.number c.in-Some.ensures.cases.0 c.if-first-number.false
