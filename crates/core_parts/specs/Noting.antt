-- The callbacks that a mark doesn't cover, one event after another.
use Rattle.std.specs.Prelude.{ℕ, List, [], ◌∷◌, Option, Some, None, nat_le, if◌then◌else◌}
use Rattle.samza_model.specs.declared.events.Event.{Event}
use Rattle.samza_model.specs.declared.events.Event.TheVariants.{Deliver, Did, Complete, Failed, WindowDid, WindowEnded}

abbrev pub noted_number : (ℕ → ℕ) → Event → Option ℕ
noted_number lows (Deliver n p o m t) = if nat_le (lows p) o then Some n else None
noted_number lows (Did n i act answer) = None
noted_number lows (Complete n) = None
noted_number lows (Failed f) = None
noted_number lows (WindowDid i act answer) = None
noted_number lows WindowEnded = None

abbrev pub listed : Option ℕ → List ℕ
listed None = []
listed (Some n) = n ∷ []

-- the same of what was told of it
abbrev pub noted_in : (ℕ → ℕ) → Option (ℕ × ℕ × ℕ) → Option ℕ
noted_in lows None = None
noted_in lows (Some t) = if nat_le (lows t.1) t.2 then Some t.0 else None
