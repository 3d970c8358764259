-- What the jobs do, by their classes.
use Rattle.std.specs.Prelude.{Option, Some, None}
use Rattle.samza_model.specs.declared.classes.Class.{Class}
use Rattle.samza_model.specs.declared.classes.Class.TheVariants.{WordCount}
use Rattle.samza_model.specs.Meaning.{Meaning}
use Rattle.shipped_jobs.specs.WordCount.{word_count}

-- the meaning of a class's job; the other classes have none yet
abbrev pub meaning_of : Class → Option Meaning
meaning_of WordCount = Some word_count
meaning_of _ = None
