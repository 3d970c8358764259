-- What happened to a task, as a list of events, the newest first: each definition says what one event more changes.
use Rattle.std.specs.Prelude.{ℕ, ◌+◌, ◌-◌, ◌==◌, ◌&&◌, ◌||◌, zero, suc, List, [], ◌∷◌, ◌++◌, length, take, drop, Bool, true, false, Option, Some, None, slice_index_or, if◌then◌else◌}
use Rattle.samza_model.specs.declared.messages.Record.{Record}
use Rattle.samza_model.specs.declared.messages.Ssp.{Ssp}
use Rattle.samza_model.specs.declared.acts.Answer.{Answer}
use Rattle.samza_model.specs.declared.turns.Turn.{Turn}
use Rattle.samza_model.specs.declared.turns.Turn.TheVariants.{Call, Window}
use Rattle.samza_model.specs.declared.turns.Failure.{Failure}
use Rattle.samza_model.specs.declared.setups.Setup.{Setup}
use Rattle.samza_model.specs.declared.setups.InputSetup.{InputSetup}
use Rattle.samza_model.specs.declared.setups.OffsetDefault.TheVariants.{Oldest}
use Rattle.samza_model.specs.declared.flights.Flight.{Flight}
use Rattle.samza_model.specs.declared.events.Event.{Event}
use Rattle.samza_model.specs.declared.events.Event.TheVariants.{Deliver, Did, Complete, Failed, WindowDid, WindowEnded}
use Rattle.samza_model.specs.Content.{State, changed}

abbrev pub no_input : InputSetup
no_input = record {
  ssp = record { system = []; stream = []; partition = 0 };
  fallback = Oldest;
  reset = false;
}

-- the p-th input's partition
abbrev pub ssp_at : Setup → ℕ → Ssp
ssp_at s p = (slice_index_or s.inputs p no_input).ssp

-- a callback that begins
abbrev pub begun : Setup → ℕ → ℕ → ℕ → Record → ℕ → Flight
begun s number input offset body moment = record {
  number = number;
  input = input;
  envelope = record { ssp = ssp_at s input; offset = offset; body = body };
  delivered = moment;
  answers = [];
}

abbrev pub with_answer : Answer → Flight → Flight
with_answer answer f = record {
  number = f.number;
  input = f.input;
  envelope = f.envelope;
  delivered = f.delivered;
  answers = f.answers ++ answer ∷ [];
}

-- of a list of callbacks, the one with this number
abbrev pub flight_of : ℕ → List Flight → Option Flight
flight_of n [] = None
flight_of n (f ∷ fs) = if f.number == n then Some f else flight_of n fs

-- the one with this number has an answer more
abbrev pub answered : ℕ → Answer → List Flight → List Flight
answered n answer [] = []
answered n answer (f ∷ fs) = if f.number == n then with_answer answer f ∷ fs else f ∷ answered n answer fs

-- the one with this number is taken out
abbrev pub without : ℕ → List Flight → List Flight
without n [] = []
without n (f ∷ fs) = if f.number == n then fs else f ∷ without n fs

abbrev pub without_turn : Turn → List Flight → List Flight
without_turn (Call n) fs = without n fs
without_turn Window fs = fs

-- the callbacks in flight, in the order of their delivery
unfoldable pub flights : Setup → List Event → List Flight
flights s [] = []
flights s (Deliver n p o m t ∷ h) = flights s h ++ begun s n p o m t ∷ []
flights s (Did n i act answer ∷ h) = answered n answer (flights s h)
flights s (Complete n ∷ h) = without n (flights s h)
flights s (Failed f ∷ h) = without_turn f.turn (flights s h)
flights s (WindowDid i act answer ∷ h) = flights s h
flights s (WindowEnded ∷ h) = flights s h

-- how many callbacks began
unfoldable pub deliveries : List Event → ℕ
deliveries [] = 0
deliveries (Deliver n p o m t ∷ h) = deliveries h + 1
deliveries (Did n i act answer ∷ h) = deliveries h
deliveries (Complete n ∷ h) = deliveries h
deliveries (Failed f ∷ h) = deliveries h
deliveries (WindowDid i act answer ∷ h) = deliveries h
deliveries (WindowEnded ∷ h) = deliveries h

-- how many of them on this input
unfoldable pub deliveries_of : ℕ → List Event → ℕ
deliveries_of q [] = 0
deliveries_of q (Deliver n p o m t ∷ h) = if p == q then deliveries_of q h + 1 else deliveries_of q h
deliveries_of q (Did n i act answer ∷ h) = deliveries_of q h
deliveries_of q (Complete n ∷ h) = deliveries_of q h
deliveries_of q (Failed f ∷ h) = deliveries_of q h
deliveries_of q (WindowDid i act answer ∷ h) = deliveries_of q h
deliveries_of q (WindowEnded ∷ h) = deliveries_of q h

-- the callback is on this input and offset
abbrev pub is_at : ℕ → ℕ → Option Flight → Bool
is_at p o None = false
is_at p o (Some f) = f.input == p && f.envelope.offset == o

-- a callback on this input and offset is complete
unfoldable pub is_covered : Setup → ℕ → ℕ → List Event → Bool
is_covered s p o [] = false
is_covered s p o (Deliver n q u m t ∷ h) = is_covered s p o h
is_covered s p o (Did n i act answer ∷ h) = is_covered s p o h
is_covered s p o (Complete n ∷ h) = is_at p o (flight_of n (flights s h)) || is_covered s p o h
is_covered s p o (Failed f ∷ h) = is_covered s p o h
is_covered s p o (WindowDid i act answer ∷ h) = is_covered s p o h
is_covered s p o (WindowEnded ∷ h) = is_covered s p o h

-- from here on, past the offsets that are covered, at most so many
unfoldable pub past : (ℕ → Bool) → ℕ → ℕ → ℕ
past covered at zero = at
past covered at (suc n) = if covered at then past covered (at + 1) n else at

-- An input's low: the least offset, from its start on, that isn't covered. Each covered offset was delivered, so it lies at most as
-- many behind the start as there were deliveries.
abbrev pub low : Setup → ℕ → List Event → ℕ → ℕ
low s start h p = past (λ o. is_covered s p o h) start (deliveries_of p h)

-- the first failure
abbrev pub earlier : Option Failure → Failure → Option Failure
earlier None f = Some f
earlier (Some e) f = Some e

unfoldable pub first_failure : List Event → Option Failure
first_failure [] = None
first_failure (Deliver n p o m t ∷ h) = first_failure h
first_failure (Did n i act answer ∷ h) = first_failure h
first_failure (Complete n ∷ h) = first_failure h
first_failure (Failed f ∷ h) = earlier (first_failure h) f
first_failure (WindowDid i act answer ∷ h) = first_failure h
first_failure (WindowEnded ∷ h) = first_failure h

-- a failed turn leaves a window open, unless it was the window's
abbrev pub is_still_open : Turn → Bool → Bool
is_still_open (Call n) was = was
is_still_open Window was = false

-- a window has made an act, and has neither ended nor failed
unfoldable pub window_open : List Event → Bool
window_open [] = false
window_open (Deliver n p o m t ∷ h) = window_open h
window_open (Did n i act answer ∷ h) = window_open h
window_open (Complete n ∷ h) = window_open h
window_open (Failed f ∷ h) = is_still_open f.turn (window_open h)
window_open (WindowDid i act answer ∷ h) = true
window_open (WindowEnded ∷ h) = false

-- what windows were answered since the last one ended
unfoldable pub window_answers : List Event → List Answer
window_answers [] = []
window_answers (Deliver n p o m t ∷ h) = window_answers h
window_answers (Did n i act answer ∷ h) = window_answers h
window_answers (Complete n ∷ h) = window_answers h
window_answers (Failed f ∷ h) = window_answers h
window_answers (WindowDid i act answer ∷ h) = window_answers h ++ answer ∷ []
window_answers (WindowEnded ∷ h) = []

-- what the stores hold and the outputs were sent, from a state on
unfoldable pub state_after : State → List Event → State
state_after s [] = s
state_after s (Deliver n p o m t ∷ h) = state_after s h
state_after s (Did n i act answer ∷ h) = changed (state_after s h) act
state_after s (Complete n ∷ h) = state_after s h
state_after s (Failed f ∷ h) = state_after s h
state_after s (WindowDid i act answer ∷ h) = changed (state_after s h) act
state_after s (WindowEnded ∷ h) = state_after s h

-- the first so many events, and those behind them
abbrev pub older : ℕ → List Event → List Event
older a h = drop (length h - a) h

abbrev pub newer : ℕ → List Event → List Event
newer a h = take (length h - a) h
