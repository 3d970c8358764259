-- What is promised where the reading of a configuration fails.
use Rattle.std.specs.Prelude.{◌≡◌, Result, Err}
use Rattle.job_config.specs.declared.faults.ConfigFault.{ConfigFault}
use Rattle.job_config.specs.declared.faults.ConfigFault.TheVariants.{Bad, NoMemory}
use Rattle.job_config.specs.declared.rows.RowFault.{RowFault}
use Rattle.job_config.specs.declared.rows.RowFault.TheVariants.{Bad as BadRow, NoMemory as NoRoom}
use Rattle.job_config.specs.declared.config.JobConfig.{JobConfig}
use Rattle.job_config.specs.Asking.{Fault}

-- the first bad key and what is wrong with it, or want of memory, which is free
abbrev pub FailsRow : {A : Type 0} → RowFault → Result A Fault → Type 0
FailsRow NoRoom r = Unit {0}
FailsRow (BadRow key what) r = r ≡ Err (key, what)

-- the same of a configuration's fault
abbrev pub of_row : ConfigFault → RowFault
of_row NoMemory = NoRoom
of_row (Bad key what) = BadRow key what

abbrev pub IsFault : ConfigFault → Result JobConfig Fault → Type 0
IsFault fault config = FailsRow (of_row fault) config
