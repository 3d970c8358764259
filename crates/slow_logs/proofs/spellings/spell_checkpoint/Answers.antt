use Rattle.std.proofs.Common.{◌≡◌, [], ◌∷◌, ◌++◌, List, ◌∙◌, ap}
use Rattle.samza_model.specs.declared.messages.Record.{Record}
use Rattle.slow_logs.proofs.Marks.{file_ends}
use Rattle.slow_logs.proofs.spellings.spell_checkpoint.Goals as goal

pub returns-clause-ends : goal.returns-clause-ends
returns-clause-ends c =
    let r = c.in_ok-encode_checkpoint.field-0 in
    let are : c.from_vec.result ≡ r ∷ [] = c.from_vec.ensures ∙ c.in_ok-push.ensures.items ∙ ap (λ (l : List Record). l ++ r ∷ []) c.new-records.ensures.items in
    file_ends c.spell_log.result (c.from_vec.result ∷ []) c.args.c.now r (ap (λ (l : List Record). l ∷ []) are) c.in_ok-encode_checkpoint.ensures.spells c.spell_log.ensures.has
