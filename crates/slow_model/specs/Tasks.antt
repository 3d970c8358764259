-- A task whose job and partitions are told, from empty stores and nothing sent on; and what of it is looked at for its next event.
use Rattle.std.specs.Prelude.{ℕ, ◌+◌, ◌-◌, ◌≡◌, ◌&&◌, List, [], length, map, Option, Some, None, Bool, false, not, nat_le, nat_lt, is_none, if◌then◌else◌}
use Rattle.std.specs.Option.{option_map}
use Rattle.samza_model.specs.declared.messages.Record.{Record}
use Rattle.samza_model.specs.declared.turns.Why.TheVariants.{Expired}
use Rattle.samza_model.specs.declared.turns.Failure.{Failure}
use Rattle.samza_model.specs.declared.setups.Setup.{Setup}
use Rattle.samza_model.specs.declared.flights.Flight.{Flight}
use Rattle.samza_model.specs.declared.events.Event.{Event}
use Rattle.samza_model.specs.declared.events.Event.TheVariants.{Deliver}
use Rattle.samza_model.specs.Content.{State, nothing_stored}
use Rattle.samza_model.specs.Events.{flights, deliveries, deliveries_of, low, first_failure, window_open, window_answers, state_after}
use Rattle.samza_model.specs.Lawful.{Given, MayDeliver, MayExpire, MayWindow, call_event, window_event, course, failure_of}
use Rattle.samza_model.specs.Meaning.{Meaning}
use Rattle.samza_model.specs.Partition.{Partition, message}
use Rattle.slow_model.specs.declared.tasks.PlainInput.{PlainInput}

abbrev pub part_of : PlainInput → Partition
part_of i = record { first = i.first; records = i.records }

-- empty stores, and nothing sent
abbrev pub blank : Setup → State
blank s = record { stores = map (λ _. nothing_stored) s.stores; sent = map (λ _. []) s.outputs }

-- what an opening of such a task fixes
abbrev pub given_of : Meaning → Setup → List PlainInput → Given
given_of job s inputs = record {
  job = Some job;
  setup = s;
  parts = map (λ (i : PlainInput). Some (part_of i)) inputs;
  starts = map (λ (i : PlainInput). i.start) inputs;
  ends = map (λ (i : PlainInput). i.end) inputs;
  state = blank s;
}

-- no callback may begin on this input
abbrev pub NoDelivery : Given → List Event → ℕ → Type 0
NoDelivery k g p = (n o : ℕ) (m : Record) → MayDeliver k g n p o m → ⊥

-- the event is a delivery of this input at this moment, and may come
abbrev pub IsDelivery : Given → List Event → ℕ → ℕ → Event → Type 0
IsDelivery k g p t (Deliver n q o m u) = (q ≡ p) × (u ≡ t) × MayDeliver k g n q o m
IsDelivery k g p t _ = ⊥

-- no event of a window may come
abbrev pub NoWindow : Given → List Event → Type 0
NoWindow k g = (e : Event) → MayWindow k g e → ⊥

-- nothing failed, and no window is open
abbrev pub is_quiet : List Event → Bool
is_quiet g = is_none (first_failure g) && not (window_open g)

-- a callback may begin at this offset, as far as the events say
abbrev pub begins : Setup → ℕ → List Event → ℕ → ℕ → Bool
begins s start g p o = nat_lt (length (flights s g)) s.concurrency
    && nat_lt o (low s start g p + s.span) && is_quiet g

abbrev pub delivered : List Event → ℕ → ℕ → ℕ → Record → Event
delivered g p o t m = Deliver (deliveries g) p o m t

-- the delivery of an input's next message, where it may come
abbrev pub next_of : Setup → PlainInput → List Event → ℕ → ℕ → ℕ → Option Event
next_of s i g p t o = if nat_lt o i.end && begins s i.start g p o
    then option_map (delivered g p o t) (message (part_of i) o) else None

abbrev pub next_delivery : Setup → PlainInput → List Event → ℕ → ℕ → Option Event
next_delivery s i g p t = next_of s i g p t (i.start + deliveries_of p g)

-- what the job's act makes of a callback, and of a window
abbrev pub next_act : Meaning → Setup → List Event → Flight → Event
next_act job s g f = call_event f (state_after (blank s) g) (job.act f.envelope f.answers)
    (course s (length f.answers) (job.act f.envelope f.answers))

abbrev pub next_window : Meaning → Setup → List Event → Event
next_window job s g = window_event (window_answers g) (state_after (blank s) g)
    (job.window (window_answers g))
    (course s (length (window_answers g)) (job.window (window_answers g)))

-- no callback of this number ran out of time at this moment
abbrev pub NoExpiry : Given → List Event → ℕ → ℕ → Type 0
NoExpiry k g n now = (f : Failure) (may : MayExpire k g n f) → may.now ≡ now → ⊥

abbrev pub is_late : Option ℕ → ℕ → Bool
is_late None passed = false
is_late (Some limit) passed = nat_le limit passed

-- the failure of a callback at this moment, where its time ran out
abbrev pub expiry : Setup → ℕ → Flight → Option Failure
expiry s now f = if is_late s.timeout_ms (now - f.delivered)
    then Some (failure_of f (Expired f.delivered now)) else None
