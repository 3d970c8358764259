use Rattle.std.proofs.Common.{◌≡◌, ◌+◌, ◌≤◌, ◌++◌, List, length, drop, subst, sym, ap, ◌∙◌, arith, rules}
use Rattle.std.specs.Prelude.{Option, IfSome}
use Rattle.std.proofs.lemmas.Grind.{common_steps}
use Rattle.samza_model.specs.declared.messages.Record.{Record}
use Rattle.log_frame.specs.declared.decoding.Decoded.{Decoded}
use Rattle.topic_log.specs.Lists.{IsListed}
use Rattle.topic_log.proofs.Listing.{ListedTo, listed_more}
use Rattle.topic_log.proofs.shelf_logs.records_in.Goals as goal

pub gates-preserved : goal.gates-preserved
gates-preserved c =
    let within = subst (λ (o : Option Decoded). IfSome o (λ d. c.gates.gate + 1 + d.used ≤ length c.args.bytes.now)) c.in-Ok-Some.field-0-is c.in-Ok-Some.ensures.within in
    let batch = subst (λ (o : Option Decoded). IsListed o (drop c.gates.gate c.args.bytes.now)) c.in-Ok-Some.field-0-is c.in-Ok-Some.ensures.batch in
    let made : c.into_vec-more.result.items ≡ c.in-Ok-Some.decoded.records = c.into_vec-more.ensures in
    let added : c.append.new.self.items ≡ c.gates.records.items ++ c.into_vec-more.result.items = search (rules, common_steps) in
    (omega (arith, within), subst (λ (l : List Record). ListedTo c.args.bytes.now (c.gates.gate + (1 + c.in-Ok-Some.decoded.used)) l) (sym (added ∙ ap (λ (l : List Record). c.gates.records.items ++ l) made)) (listed_more c.args.bytes.now c.gates.gate c.in-Ok-Some.decoded.used c.gates.records.items c.in-Ok-Some.decoded.records c.gates.invariant.1 batch))
