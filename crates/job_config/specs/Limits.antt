-- The rows of the table that bound a run: numbers, intervals and a flag, from the containers to the batch.
use Rattle.std.specs.Prelude.{None, Some}
use Rattle.props_text.specs.Pairs.{Props}
use Rattle.job_config.specs.declared.table.Limits.{Limits}
use Rattle.job_config.specs.declared.keys.Setting.TheVariants.{Containers, Workers, Concurrency, WindowMs, CommitMs, AsyncCommit, Batch}
use Rattle.job_config.specs.Keys.{text_of}
use Rattle.config_values.specs.Values.{bounded, millis, flag}
use Rattle.job_config.specs.Asking.{Asks, ◌>>=◌, gives, row}

unfoldable pub limit_rows : Props → Asks Limits
limit_rows p = do
  containers ← row p (text_of Containers) (bounded 1 1 256)
  workers ← row p (text_of Workers) (bounded 0 0 32)
  concurrency ← row p (text_of Concurrency) (bounded 1 1 64)
  window_ms ← row p (text_of WindowMs) (millis None)
  commit_ms ← row p (text_of CommitMs) (millis (Some 60000))
  async_commit ← row p (text_of AsyncCommit) flag
  batch ← row p (text_of Batch) (bounded 1 1 1000000)
  gives (record { containers = containers; workers = workers; concurrency = concurrency; window_ms = window_ms; commit_ms = commit_ms; async_commit = async_commit; batch = batch })
