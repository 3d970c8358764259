use Rattle.std.proofs.Common.{length}
use Rattle.slow_model.proofs.windows.+window_open.Given as goal

abbrev pub decreases-window_open : goal.decreases-window_open
decreases-window_open l = length l.events.now
