-- Which events may come.
use Rattle.std.specs.Prelude.{ℕ, ◌+◌, ◌-◌, ◌≡◌, ◌<◌, ◌≤◌, ◌⊎◌, List, [], ◌∷◌, length, Option, Some, None, IfSome, IsSomeAnd, false, nat_lt, slice_index_or, if◌then◌else◌}
use Rattle.samza_model.specs.declared.messages.Record.{Record}
use Rattle.samza_model.specs.declared.messages.Envelope.{Envelope}
use Rattle.samza_model.specs.declared.acts.Act.{Act}
use Rattle.samza_model.specs.declared.acts.Answer.{Answer}
use Rattle.samza_model.specs.declared.turns.Turn.{Turn}
use Rattle.samza_model.specs.declared.turns.Turn.TheVariants.{Call, Window}
use Rattle.samza_model.specs.declared.turns.Why.{Why}
use Rattle.samza_model.specs.declared.turns.Why.TheVariants.{TooMany, Expired}
use Rattle.samza_model.specs.declared.turns.Failure.{Failure}
use Rattle.samza_model.specs.declared.setups.Setup.{Setup}
use Rattle.samza_model.specs.declared.flights.Flight.{Flight}
use Rattle.samza_model.specs.declared.events.Event.{Event}
use Rattle.samza_model.specs.declared.events.Event.TheVariants.{Deliver, Did, Complete, Failed, WindowDid, WindowEnded}
use Rattle.samza_model.specs.Content.{State, answer_of}
use Rattle.samza_model.specs.Events.{flight_of, flights, deliveries, deliveries_of, low, first_failure, window_open, window_answers, state_after}
use Rattle.samza_model.specs.Meaning.{Meaning}
use Rattle.samza_model.specs.Partition.{Partition, message}
use Rattle.samza_model.specs.Runs.{End, end_at}

-- What an opening of a task fixes: the job and the partitions where they are told, the setup, the offsets at which each input begins
-- and ends, and the state.
pub record Given : Type 0 where
  pub job : Option Meaning
  pub setup : Setup
  pub parts : List (Option Partition)
  pub starts : List ℕ
  pub ends : List ℕ
  pub state : State

abbrev pub start_at : Given → ℕ → ℕ
start_at k p = slice_index_or k.starts p 0

abbrev pub end_at_input : Given → ℕ → ℕ
end_at_input k p = slice_index_or k.ends p 0

-- the p-th input's partition, where it is told
abbrev pub part_at : Given → ℕ → Option Partition
part_at k p = slice_index_or k.parts p None

-- the act is the job's, where the job is told
abbrev pub IsAct : Option Meaning → Envelope → List Answer → Act → Type 0
IsAct None e answers act = Unit {0}
IsAct (Some job) e answers act = act ≡ job.act e answers

abbrev pub IsWindowAct : Option Meaning → List Answer → Act → Type 0
IsWindowAct None answers act = Unit {0}
IsWindowAct (Some job) answers act = act ≡ job.window answers

-- how a turn ends at an act behind so many answers: one that would go on behind 1,023 of them is one too many
abbrev pub ends_or_goes_on : ℕ → Option End → Option End
ends_or_goes_on made (Some end) = Some end
ends_or_goes_on made None = if nat_lt made 1023 then None else Some (Some TooMany)

abbrev pub course : Setup → ℕ → Act → Option End
course s made act = ends_or_goes_on made (end_at s act)

-- the failure of a callback, and of a window
abbrev pub failure_of : Flight → Why → Failure
failure_of f why = record { turn = Call f.number; place = Some (f.input, f.envelope.offset); why = why }

abbrev pub window_failure : Why → Failure
window_failure why = record { turn = Window; place = None; why = why }

-- what an act makes of its turn: it is answered, or it ends the turn
abbrev pub call_event : Flight → State → Act → Option End → Event
call_event f state act None = Did f.number (length f.answers) act (answer_of state act)
call_event f state act (Some None) = Complete f.number
call_event f state act (Some (Some why)) = Failed (failure_of f why)

abbrev pub window_event : List Answer → State → Act → Option End → Event
window_event answers state act None = WindowDid (length answers) act (answer_of state act)
window_event answers state act (Some None) = WindowEnded
window_event answers state act (Some (Some why)) = Failed (window_failure why)

-- A callback may begin on an input's next message, while fewer than the setup's concurrency are in flight, within the span behind the
-- input's low, and with no turn failed and no window open.
pub record MayDeliver (k : Given) (g : List Event) (n p o : ℕ) (m : Record) : Type 0 where
  pub input : p < length k.starts
  pub number : n ≡ deliveries g
  pub offset : o ≡ start_at k p + deliveries_of p g
  pub before_end : o < end_at_input k p
  pub body : IfSome (part_at k p) (λ part. message part o ≡ Some m)
  pub room : length (flights k.setup g) < k.setup.concurrency
  pub spanned : o < low k.setup (start_at k p) g p + k.setup.span
  pub sound : first_failure g ≡ None
  pub closed : window_open g ≡ false

-- the event is what the job's act makes of the callback with this number, which is in flight
pub record MayAct (k : Given) (g : List Event) (n : ℕ) (e : Event) : Type 0 where
  pub flight : Flight
  pub flies : flight_of n (flights k.setup g) ≡ Some flight
  pub act : Act
  pub of_job : IsAct k.job flight.envelope flight.answers act
  pub event : e ≡ call_event flight (state_after k.state g) act
      (course k.setup (length flight.answers) act)

-- a callback in flight whose time ran out
pub record MayExpire (k : Given) (g : List Event) (n : ℕ) (f : Failure) : Type 0 where
  pub flight : Flight
  pub flies : flight_of n (flights k.setup g) ≡ Some flight
  pub now : ℕ
  pub late : IsSomeAnd k.setup.timeout_ms (λ t. t ≤ now - flight.delivered)
  pub failure : f ≡ failure_of flight (Expired flight.delivered now)

-- the event is what the job's act makes of a window, while nothing is in flight
pub record MayWindow (k : Given) (g : List Event) (e : Event) : Type 0 where
  pub idle : flights k.setup g ≡ []
  pub sound : first_failure g ≡ None
  pub act : Act
  pub of_job : IsWindowAct k.job (window_answers g) act
  pub event : e ≡ window_event (window_answers g) (state_after k.state g) act
      (course k.setup (length (window_answers g)) act)

abbrev pub MayFail : Given → List Event → Failure → Turn → Type 0
MayFail k g f (Call n) = MayAct k g n (Failed f) ⊎ MayExpire k g n f
MayFail k g f Window = MayWindow k g (Failed f)

-- the event may come behind these
abbrev pub MayCome : Given → List Event → Event → Type 0
MayCome k g (Deliver n p o m t) = MayDeliver k g n p o m
MayCome k g (Did n i act answer) = MayAct k g n (Did n i act answer)
MayCome k g (Complete n) = MayAct k g n (Complete n)
MayCome k g (Failed f) = MayFail k g f f.turn
MayCome k g (WindowDid i act answer) = MayWindow k g (WindowDid i act answer)
MayCome k g WindowEnded = MayWindow k g WindowEnded

-- each event may come behind those before it
unfoldable pub IsLawful : Given → List Event → Type 0
IsLawful k [] = Unit {0}
IsLawful k (e ∷ g) = IsLawful k g × MayCome k g e
