-- What is said of how a task fails.
use Rattle.std.specs.Prelude.{ℕ, ◌-◌, ◌≡◌, ◌<◌, List, [], ◌∷◌, ◌++◌, length, Some, None, false}
use Rattle.samza_model.specs.declared.messages.Envelope.{Envelope}
use Rattle.samza_model.specs.declared.turns.Failure.{Failure}
use Rattle.samza_model.specs.declared.turns.Why.{Why}
use Rattle.samza_model.specs.declared.turns.Why.TheVariants.{Code, TooMany, Limits, Expired}
use Rattle.samza_model.specs.declared.events.Event.{Event}
use Rattle.samza_model.specs.Content.{State}
use Rattle.samza_model.specs.Events.{deliveries_of, first_failure, flights, ssp_at, state_after}
use Rattle.samza_model.specs.Lawful.{Given, IsLawful, end_at_input, part_at, start_at}
use Rattle.samza_model.specs.Meaning.{Meaning}
use Rattle.samza_model.specs.Ran.{HasNoWindows, is_window}
use Rattle.samza_model.specs.Partition.{Partition}
use Rattle.samza_model.specs.Runs.{folds, runs}
use Rattle.history_laws.specs.Deliveries.{first_messages}
use Rattle.history_laws.specs.Folds.{delivered}

-- the turn's time didn't run out
abbrev pub IsNotExpired : Why → Type 0
IsNotExpired (Code code) = Unit {0}
IsNotExpired TooMany = Unit {0}
IsNotExpired Limits = Unit {0}
IsNotExpired (Expired delivered now) = ⊥

-- where the setup has no time limit, no callback's time runs out
abbrev pub NeverExpires : Type 0
NeverExpires = (k : Given) (h : List Event) (f : Failure) → k.setup.timeout_ms ≡ None
    → IsLawful k h → first_failure h ≡ Some f → IsNotExpired f.why

-- where there is one input, a callback fails at one of its offsets
abbrev pub HavePlaces : Type 0
HavePlaces = (k : Given) (h : List Event) (f : Failure) → length k.starts ≡ 1 → IsLawful k h → first_failure h ≡ Some f
    → is_window f.turn ≡ false → (offset : ℕ) × (f.place ≡ Some (0, offset))

-- The failure is the job's own, of the last message that was delivered: it did those before, and failed this one from what they left.
pub record IsOfLast (job : Meaning) (k : Given) (h : List Event) (f : Failure) : Type 0 where
  pub before : List Envelope
  pub last : Envelope
  pub all : delivered k.setup h ≡ before ++ last ∷ []
  pub state : State
  pub done : folds job k.setup before k.state ≡ Some state
  pub why : (runs job k.setup last state).end ≡ Some f.why
  pub left : (runs job k.setup last state).state ≡ state_after k.state h
  pub input : ℕ
  pub among : input < length k.starts
  pub ssp : last.ssp ≡ ssp_at k.setup input
  pub place : f.place ≡ Some (input, last.offset)

abbrev pub IsTheFolds : Type 0
IsTheFolds = (job : Meaning) (k : Given) (h : List Event) (f : Failure) → k.job ≡ Some job → k.setup.concurrency ≡ 1 → HasNoWindows None h
    → IsLawful k h → first_failure h ≡ Some f → IsNotExpired f.why → IsOfLast job k h f

-- The job is told, and the partition of the one input; one message is in flight at a time, with no time limit.
pub record DoesOneByOne (job : Meaning) (k : Given) (part : Partition) : Type 0 where
  pub of_job : k.job ≡ Some job
  pub input : length k.starts ≡ 1
  pub partition : part_at k 0 ≡ Some part
  pub alone : k.setup.concurrency ≡ 1
  pub untimed : k.setup.timeout_ms ≡ None

-- where the job can do all messages up to the input's end, one after another, nothing fails
abbrev pub NeverFails : Type 0
NeverFails = (job : Meaning) (k : Given) (part : Partition) (h : List Event) (left : State) → DoesOneByOne job k part → HasNoWindows None h → IsLawful k h
    → folds job k.setup (first_messages k part (end_at_input k 0 - start_at k 0)) k.state ≡ Some left → first_failure h ≡ None

-- two lists with a failure fail at the same message, behind as many others, and for the same reason
abbrev pub FailsOnce : Type 0
FailsOnce = (job : Meaning) (k : Given) (part : Partition) (g h : List Event) (f e : Failure) → DoesOneByOne job k part
    → HasNoWindows None g → IsLawful k g → first_failure g ≡ Some f
    → HasNoWindows None h → IsLawful k h → first_failure h ≡ Some e
    → (f.place ≡ e.place) × (f.why ≡ e.why) × (deliveries_of 0 g ≡ deliveries_of 0 h)

-- where one list has a failure, no other one comes to the input's end
abbrev pub FailsOrEnds : Type 0
FailsOrEnds = (job : Meaning) (k : Given) (part : Partition) (g h : List Event) (f : Failure) → DoesOneByOne job k part
    → HasNoWindows None g → IsLawful k g → first_failure g ≡ Some f
    → HasNoWindows None h → IsLawful k h → flights k.setup h ≡ [] → first_failure h ≡ None
    → deliveries_of 0 h ≡ end_at_input k 0 - start_at k 0 → ⊥
