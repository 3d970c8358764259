use Rattle.std.proofs.Common.{◌≤◌, ◌-◌, length}
use Rattle.topic_log.proofs.Listing.{ListedTo}
use Rattle.topic_log.proofs.shelf_logs.records_in.Given as goal

abbrev pub invariant-gates : goal.invariant-gates
invariant-gates l = (l.gate ≤ length l.bytes) × ListedTo l.bytes l.gate l.records.items

abbrev pub decreases-gates : goal.decreases-gates
decreases-gates l = length l.bytes - l.gate
