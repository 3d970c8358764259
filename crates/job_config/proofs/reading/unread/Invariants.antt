use Rattle.std.proofs.Common.{◌≡◌, ◌++◌, drop, map}
use Rattle.std.specs.List.{filter}
use Rattle.std.specs.FinMap as map
use Rattle.props_text.specs.Written.{written_text}
use Rattle.job_config.specs.Table.{is_unread}
use Rattle.job_config.proofs.reading.unread.Given as goal

abbrev pub invariant-loop-place : goal.invariant-loop-place
invariant-loop-place l =
    l.keys.items ++ map written_text (filter (is_unread l.asked) (drop l.place (map.keys l.pairs))) ≡ map written_text (filter (is_unread l.asked) (map.keys l.pairs))
