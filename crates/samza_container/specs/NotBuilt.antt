-- What a configuration may ask for and isn't built yet.
use Rattle.std.specs.Prelude.{ℕ, Bool, true, false, cond, nat_lt, List, [], ◌∷◌, length, Option, Some, None, is_some, codes}
use Rattle.samza_model.specs.declared.classes.Class.{Class}
use Rattle.samza_model.specs.declared.classes.Class.TheVariants.{WordCount}
use Rattle.samza_model.specs.declared.setups.OffsetDefault.{OffsetDefault}
use Rattle.samza_model.specs.declared.setups.OffsetDefault.TheVariants.{Oldest, Upcoming}
use Rattle.job_config.specs.declared.config.InputConfig.{InputConfig}
use Rattle.job_config.specs.declared.config.JobConfig.{JobConfig}
use Rattle.job_config.specs.Keys.{system_key}

-- a job other than the count of words
abbrev pub is_other_job : Class → Bool
is_other_job WordCount = false
is_other_job class = true

abbrev pub is_upcoming : OffsetDefault → Bool
is_upcoming Oldest = false
is_upcoming Upcoming = true

-- whether a thing is asked for, and the key that is named for it
abbrev pub Row : Type 0
Row = Bool × List ℕ

-- of the input: its system's keys are named, whatever key said so
abbrev pub input_rows : List InputConfig → List Row
input_rows [] = []
input_rows (i ∷ more) =
    (is_upcoming i.fallback, system_key i.system (codes "samza.offset.default"))
    ∷ (i.reset, system_key i.system (codes "samza.reset.offset"))
    ∷ []

-- the rows, in the order of the table of keys
abbrev pub rows : JobConfig → List Row
rows c =
    (is_other_job c.class, codes "task.class")
    ∷ (nat_lt 1 (length c.inputs), codes "task.inputs")
    ∷ (nat_lt 1 c.containers, codes "job.container.count")
    ∷ (nat_lt 0 c.workers, codes "job.container.thread.pool.size")
    ∷ (is_some c.window_ms, codes "task.window.ms")
    ∷ (c.async_commit, codes "task.async.commit")
    ∷ input_rows c.inputs

-- the key of the first row that holds
abbrev pub first_asked : List Row → Option (List ℕ)
first_asked [] = None
first_asked (r ∷ rs) = cond r.0 (Some r.1) (first_asked rs)

unfoldable pub first_not_built : JobConfig → Option (List ℕ)
first_not_built c = first_asked (rows c)
