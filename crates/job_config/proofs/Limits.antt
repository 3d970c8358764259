-- What bounds a run is within its bounds.
use Rattle.std.proofs.Common.{◌≡◌, ℕ, List, Some, None, Ok, subst, arith}
use Rattle.std.specs.FinMap.{get}
use Rattle.props_text.specs.Pairs.{Props}
use Rattle.job_config.specs.declared.keys.Setting.TheVariants.{Containers, Workers, Concurrency, WindowMs, CommitMs, AsyncCommit, Batch}
use Rattle.job_config.specs.declared.table.Limits.{Limits}
use Rattle.job_config.specs.Keys.{text_of}
use Rattle.config_values.specs.Values.{bounded, flag, millis}
use Rattle.job_config.specs.Asking.{row}
use Rattle.job_config.specs.Limits.{limit_rows}
use Rattle.job_config.specs.Bounds.{IsInterval, IsWithin}
use Rattle.job_config.proofs.Within.{bounded_within, millis_interval}
use Rattle.job_config.proofs.Yields.{through, just_given, row_gave}

pub record AreWithin (l : Limits) : Type 0 where
  pub containers : IsWithin 1 256 l.containers
  pub workers : IsWithin 0 32 l.workers
  pub concurrency : IsWithin 1 64 l.concurrency
  pub batch : IsWithin 1 1000000 l.batch
  pub window : IsInterval l.window_ms
  pub commit : IsInterval l.commit_ms

pub limits_within : (p : Props) (asked : List (List ℕ)) (r : Limits × List (List ℕ)) → limit_rows p asked ≡ Ok r → AreWithin r.0
unfolding limit_rows
limits_within p asked r is =
    let containers = through (row p (text_of Containers) (bounded 1 1 256) asked) _ r is in
    let workers = through (row p (text_of Workers) (bounded 0 0 32) containers.0.1) _ r containers.2 in
    let concurrency = through (row p (text_of Concurrency) (bounded 1 1 64) workers.0.1) _ r workers.2 in
    let window = through (row p (text_of WindowMs) (millis None) concurrency.0.1) _ r concurrency.2 in
    let commit = through (row p (text_of CommitMs) (millis (Some 60000)) window.0.1) _ r window.2 in
    let async = through (row p (text_of AsyncCommit) flag commit.0.1) _ r commit.2 in
    let batch = through (row p (text_of Batch) (bounded 1 1 1000000) async.0.1) _ r async.2 in
    let made : Limits = record { containers = containers.0.0; workers = workers.0.0; concurrency = concurrency.0.0; window_ms = window.0.0; commit_ms = commit.0.0; async_commit = async.0.0; batch = batch.0.0 } in
    subst AreWithin (just_given made batch.0.1 r batch.2) (record {
      containers = bounded_within 1 1 256 (get p (text_of Containers)) containers.0.0 (omega arith, omega arith) (row_gave p (text_of Containers) (bounded 1 1 256) asked containers.0 containers.1);
      workers = bounded_within 0 0 32 (get p (text_of Workers)) workers.0.0 (omega arith, omega arith) (row_gave p (text_of Workers) (bounded 0 0 32) containers.0.1 workers.0 workers.1);
      concurrency = bounded_within 1 1 64 (get p (text_of Concurrency)) concurrency.0.0 (omega arith, omega arith) (row_gave p (text_of Concurrency) (bounded 1 1 64) workers.0.1 concurrency.0 concurrency.1);
      batch = bounded_within 1 1 1000000 (get p (text_of Batch)) batch.0.0 (omega arith, omega arith) (row_gave p (text_of Batch) (bounded 1 1 1000000) async.0.1 batch.0 batch.1);
      window = millis_interval None (get p (text_of WindowMs)) window.0.0 tt (row_gave p (text_of WindowMs) (millis None) concurrency.0.1 window.0 window.1);
      commit = millis_interval (Some 60000) (get p (text_of CommitMs)) commit.0.0 (omega arith, omega arith) (row_gave p (text_of CommitMs) (millis (Some 60000)) window.0.1 commit.0 commit.1);
    })
