use Rattle.shipped_jobs.proofs.Decimals.{count_of-decimal, spelled_is}
use Rattle.shipped_jobs.proofs.counts.count_spelled.Goals as goal

pub returns-then-eq-clause-value : goal.returns-then-eq-clause-value
returns-then-eq-clause-value c = count_of-decimal c.args.text.now c.in-Some.number c.if-number-lt18446744073709551615.true
    (spelled_is c.args.text.now _ _ c.in-Some.number c.if-eq.ensures c.bytes.ensures c.in_ok-spelled.ensures)
