use Rattle.props_text.proofs.Puts.{rises-read, map_read}
use Rattle.props_text.proofs.reading.read.Goals as goal

pub from_tree-requires : goal.from_tree-requires
from_tree-requires c = rises-read _ _ c.in_ok-tree.ensures

pub returns-clause-pairs : goal.returns-clause-pairs
returns-clause-pairs c = map_read _ _ _ c.in_ok-tree.ensures c.in_ok-from_tree.ensures
