use Rattle.std.proofs.Common.{List, ℕ, ◌≡◌, filter, ap, ◌∙◌}
use Rattle.samza_model.specs.Journals.{belongs, kept_of}
use Rattle.samza_model.specs.Lawful.{Given}
use Rattle.slow_model.proofs.Kept.{if_ok, kept_as}
use Rattle.slow_model.proofs.journals.kept_of.Goals as goal

pub returns : goal.returns
returns c =
    let s = c.args.setup.now in
    let starts = c.args.starts.now in
    let h = c.args.events.now in
    if_ok c.those_of.result
    (λ made. made.items ≡ filter (belongs c.as_slice.result.now) h)
    (λ made. (k : Given) → k.setup ≡ s → k.starts ≡ starts → made.items ≡ kept_of k h)
    c.those_of.ensures
    (λ made is k setup begin. is ∙ ap (λ (ns : List ℕ). filter (belongs ns) h) (c.as_slice.ensures.value ∙ c.in_ok-numbers.ensures) ∙ kept_as s starts h k setup begin)
