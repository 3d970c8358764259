-- The keys of the table, as they are spelled.
use Rattle.std.specs.Prelude.{ℕ, List, ◌++◌, codes}
use Rattle.job_config.specs.declared.keys.Setting.{Setting}
use Rattle.job_config.specs.declared.keys.Setting.TheVariants.{JobName, TaskClass, Inputs, Outputs, Table, Stores, Containers, Workers, Concurrency, WindowMs, CommitMs, AsyncCommit, Batch}
use Rattle.job_config.specs.declared.keys.StoreSetting.{StoreSetting}
use Rattle.job_config.specs.declared.keys.StoreSetting.TheVariants.{Factory, Changelog, CacheSize, BatchSize}
use Rattle.job_config.specs.declared.keys.StreamSetting.{StreamSetting}
use Rattle.job_config.specs.declared.keys.StreamSetting.TheVariants.{OwnStart, SystemStart, OwnReset, SystemReset, Bootstrap, Priority}

-- the keys of the job as a whole
unfoldable pub text_of : Setting → List ℕ
text_of JobName = codes "job.name"
text_of TaskClass = codes "task.class"
text_of Inputs = codes "task.inputs"
text_of Outputs = codes "app.outputs"
text_of Table = codes "app.table"
text_of Stores = codes "stores"
text_of Containers = codes "job.container.count"
text_of Workers = codes "job.container.thread.pool.size"
text_of Concurrency = codes "task.max.concurrency"
text_of WindowMs = codes "task.window.ms"
text_of CommitMs = codes "task.commit.ms"
text_of AsyncCommit = codes "task.async.commit"
text_of Batch = codes "task.consumer.batch.size"

-- the keys of a store: stores.<n>. and a word
abbrev pub store_word : StoreSetting → List ℕ
store_word Factory = codes "factory"
store_word Changelog = codes "changelog"
store_word CacheSize = codes "object.cache.size"
store_word BatchSize = codes "write.batch.size"

unfoldable pub store_key : StoreSetting → List ℕ → List ℕ
store_key setting name = codes "stores." ++ name ++ codes "." ++ store_word setting

-- the keys of a stream: systems.<s>.streams.<t>. and a word, or for all of the system's systems.<s>.default.stream. and it
abbrev pub own_key : List ℕ → List ℕ → List ℕ → List ℕ
own_key system stream word = codes "systems." ++ system ++ codes ".streams." ++ stream ++ codes "." ++ word

abbrev pub system_key : List ℕ → List ℕ → List ℕ
system_key system word = codes "systems." ++ system ++ codes ".default.stream." ++ word

unfoldable pub stream_key : StreamSetting → List ℕ → List ℕ → List ℕ
stream_key OwnStart system stream = own_key system stream (codes "samza.offset.default")
stream_key SystemStart system stream = system_key system (codes "samza.offset.default")
stream_key OwnReset system stream = own_key system stream (codes "samza.reset.offset")
stream_key SystemReset system stream = system_key system (codes "samza.reset.offset")
stream_key Bootstrap system stream = own_key system stream (codes "samza.bootstrap")
stream_key Priority system stream = own_key system stream (codes "samza.priority")
