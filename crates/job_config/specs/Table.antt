-- The table of a job's configuration: its keys in order, each with what its value says.
use Rattle.std.specs.Prelude.{ℕ, Bool, not, List, [], map, None, Result, Ok, Err}
use Rattle.std.specs.List.{filter, list_any}
use Rattle.std.specs.FinMap.{keys}
use Rattle.props_text.specs.Pairs.{Props}
use Rattle.props_text.specs.Written.{written_text}
use Rattle.samza_model.specs.declared.classes.Class.{Class}
use Rattle.samza_model.specs.declared.classes.Class.TheVariants as class_is
use Rattle.job_config.specs.declared.config.JobConfig.{JobConfig}
use Rattle.config_values.specs.declared.shipped.Shipped.{Shipped}
use Rattle.config_values.specs.declared.shipped.Shipped.TheVariants.{WordCount, Dedupe, SessionCount, TableJoin}
use Rattle.job_config.specs.declared.keys.Setting.TheVariants.{JobName, TaskClass, Inputs, Outputs, Table}
use Rattle.job_config.specs.Keys.{text_of}
use Rattle.config_values.specs.Values.{same, class, job_name}
use Rattle.config_values.specs.Lists.{inputs, outputs, one_of}
use Rattle.job_config.specs.Limits.{limit_rows}
use Rattle.job_config.specs.Stores.{store_rows}
use Rattle.job_config.specs.Streams.{stream_rows}
use Rattle.job_config.specs.Asking.{Fault, Asks, ◌>>=◌, gives, row}

-- the class with what it is given: a table's stream is one of the inputs
unfoldable pub class_row : Props → List (List ℕ) → Shipped → Asks Class
class_row p names WordCount = gives class_is.WordCount
class_row p names Dedupe = gives class_is.Dedupe
class_row p names SessionCount = gives class_is.SessionCount
class_row p names TableJoin = do
  table ← row p (text_of Table) (one_of names)
  gives (class_is.TableJoin table)

-- The table. Its rows are asked for one after another; the first bad key ends it.
unfoldable pub table : Props → Asks JobConfig
table p = do
  job ← row p (text_of JobName) job_name
  shipped ← row p (text_of TaskClass) class
  names ← row p (text_of Inputs) (inputs 16)
  outputs ← row p (text_of Outputs) (outputs 8)
  class ← class_row p names shipped
  stores ← store_rows p
  limits ← limit_rows p
  inputs ← stream_rows p names
  gives (record { job = job; class = class; inputs = inputs; outputs = outputs; stores = stores; containers = limits.containers; workers = limits.workers; concurrency = limits.concurrency; window_ms = limits.window_ms; commit_ms = limits.commit_ms; timeout_ms = None; async_commit = limits.async_commit; batch = limits.batch; unread = [] })

-- a key that nobody asked for
abbrev pub is_unread : List (List ℕ) → List ℕ → Bool
is_unread asked key = not (list_any (same key) asked)

-- the keys that nobody asked for, in order of their units, each as it is written
unfoldable pub unread : Props → List (List ℕ) → List (List ℕ)
unread p asked = map written_text (filter (is_unread asked) (keys p))

abbrev pub finished : Props → Result (JobConfig × List (List ℕ)) Fault → Result JobConfig Fault
finished p (Ok r) = Ok (record r.0 { unread = unread p r.1 })
finished p (Err e) = Err (written_text e.0, e.1)

-- What a configuration's pairs say: the values of the table and the keys that nobody asked for, or the first bad key, as
-- it is written, and what is wrong with it.
unfoldable pub config_of : Props → Result JobConfig Fault
config_of p = finished p (table p [])
