use Rattle.std.proofs.Common.{length}
use Rattle.slow_model.proofs.windows.+window_answers.Given as goal

abbrev pub decreases-window_answers : goal.decreases-window_answers
decreases-window_answers l = length l.events.now
