use Rattle.config_values.proofs.Entries.{entry_in_ascii}
use Rattle.config_values.proofs.lists.topics.Goals as goal

pub bytes_of-requires : goal.bytes_of-requires
bytes_of-requires c = entry_in_ascii c.first_entry.result.0.now _ c.first_entry.result.1 c.first_entry.ensures.entries (rw c.in-Some.is at c.loop-rest.invariant.spelled)
