use Rattle.std.proofs.Common.{◌≡◌, option_copied}
use Rattle.std.specs.List.{list_all}
use Rattle.samza_model.specs.Names.{is_topic}
use Rattle.config_values.specs.Lists.{entries_of}
use Rattle.config_values.proofs.Entries.{entries_left, size_left}
use Rattle.config_values.proofs.lists.are_topics.Given as goal

abbrev pub invariant-loop-rest : goal.invariant-loop-rest
invariant-loop-rest l = list_all is_topic (entries_left (option_copied l.rest)) ≡ list_all is_topic (entries_of l.text)

abbrev pub decreases-loop-rest : goal.decreases-loop-rest
decreases-loop-rest l = size_left (option_copied l.rest)
