-- How a turn goes on behind an act.
use Rattle.std.specs.Prelude.{Option, Some, None}
use Rattle.samza_model.specs.Runs.{End}
use Rattle.core_parts.specs.declared.courses.Course.{Course}
use Rattle.core_parts.specs.declared.courses.Course.TheVariants.{GoesOn, Done, Failed}

-- how a turn ends at an act; None where it goes on
abbrev pub course_seen : Course → Option End
course_seen GoesOn = None
course_seen Done = Some None
course_seen (Failed why) = Some (Some why)
