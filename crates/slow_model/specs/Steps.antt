-- What one event more makes of what the earlier ones left.
use Rattle.std.specs.Prelude.{ℕ, ◌-◌, ◌^◌, ◌==◌, min, nat_le, slice_index_or, suc, List, [], ◌∷◌, ◌++◌, Bool, true, false, Option, Some, None, if◌then◌else◌}
use Rattle.std.specs.Option.{option_map}
use Rattle.samza_model.specs.declared.acts.Answer.{Answer}
use Rattle.samza_model.specs.declared.turns.Failure.{Failure}
use Rattle.samza_model.specs.declared.setups.Setup.{Setup}
use Rattle.samza_model.specs.declared.flights.Flight.{Flight}
use Rattle.samza_model.specs.declared.events.Event.{Event}
use Rattle.samza_model.specs.declared.events.Event.TheVariants.{Deliver, Did, Complete, Failed, WindowDid, WindowEnded}
use Rattle.samza_model.specs.Content.{State, changed}
use Rattle.samza_model.specs.Events.{begun, answered, without, without_turn, flight_of, flights, is_at, is_still_open, low}

-- where the callback with this number stands
abbrev pub place_in : ℕ → List Flight → Option ℕ
place_in n [] = None
place_in n (f ∷ fs) = if f.number == n then Some 0 else option_map suc (place_in n fs)

-- the callbacks in flight behind one event more
abbrev pub flown : Setup → Event → List Flight → List Flight
flown s (Deliver n p o m t) fs = fs ++ begun s n p o m t ∷ []
flown s (Did n i act answer) fs = answered n answer fs
flown s (Complete n) fs = without n fs
flown s (Failed f) fs = without_turn f.turn fs
flown s (WindowDid i act answer) fs = fs
flown s WindowEnded fs = fs

-- the state behind one event more
abbrev pub acted : Event → State → State
acted (Did n i act answer) s = changed s act
acted (WindowDid i act answer) s = changed s act
acted _ s = s

-- the failure that an event is
abbrev pub failure_at : Event → Option Failure
failure_at (Failed f) = Some f
failure_at _ = None

-- whether a window is open behind one event more
abbrev pub opened : Event → Bool → Bool
opened (WindowDid i act answer) was = true
opened WindowEnded was = false
opened (Failed f) was = is_still_open f.turn was
opened _ was = was

-- the answers of windows behind one event more
abbrev pub window_answered : Event → List Answer → List Answer
window_answered (WindowDid i act answer) answers = answers ++ answer ∷ []
window_answered WindowEnded answers = []
window_answered _ answers = answers

abbrev pub is_delivery : Event → Bool
is_delivery (Deliver n p o m t) = true
is_delivery _ = false

abbrev pub is_delivery_of : ℕ → Event → Bool
is_delivery_of q (Deliver n p o m t) = p == q
is_delivery_of q _ = false

-- the event is the completion of a callback on this input and offset, behind these
abbrev pub covers : Setup → ℕ → ℕ → List Event → Event → Bool
covers s p o h (Complete n) = is_at p o (flight_of n (flights s h))
covers s p o h _ = false

-- a size, at most the greatest number of 64 bits
abbrev pub capped : ℕ → ℕ
capped n = min n (2 ^ 64 - 1)

-- the low of each input behind these events, where the inputs begin at these offsets
abbrev pub lows_from : Setup → List ℕ → List Event → ℕ → ℕ
lows_from s starts h q = low s (slice_index_or starts q 0) h q

-- the callbacks that aren't below these lows, with the one that an event begins
abbrev pub listed : (ℕ → ℕ) → Event → List ℕ → List ℕ
listed lows (Deliver n p o m t) ns = if nat_le (lows p) o then n ∷ ns else ns
listed lows _ ns = ns
