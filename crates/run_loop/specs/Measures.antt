-- How much a run may yet do.
use Rattle.std.specs.Prelude.{ℕ, ◌+◌, ◌-◌, ◌*◌, List, [], ◌∷◌, length, slice_index_or}
use Rattle.samza_model.specs.declared.flights.Flight.{Flight}
use Rattle.core_steps.specs.Cores.{CoreValue, next_at}

-- how many acts these callbacks may make, at most 1,024 each
abbrev pub acts_left : List Flight → ℕ
acts_left [] = 0
acts_left (f ∷ fs) = (1024 - length f.answers) + acts_left fs

-- how many turns are left at most: one for each message that wasn't delivered, and one for each act
abbrev pub turns_left : CoreValue → ℕ
turns_left u = 1025 * (slice_index_or u.ends 0 0 - next_at u 0) + acts_left u.callbacks.flights
