use Rattle.std.proofs.Common.{arith}
use Rattle.config_values.proofs.Entries.{entries_end, entries_behind}
use Rattle.config_values.proofs.lists.first_entry.Goals as goal

pub returns-else-comma-text-clause-entries : goal.returns-else-comma-text-clause-entries
returns-else-comma-text-clause-entries c = entries_end c.args.text.now _ (omega arith) c.trimmed-else-comma-text.ensures

pub returns-then-comma-text-clause-entries : goal.returns-then-comma-text-clause-entries
returns-then-comma-text-clause-entries c = entries_behind c.args.text.now _ c.place_of-comma.result c.place_of-comma.ensures.at c.if-comma-text.true c.trimmed.ensures
