-- What a core is to contracts, and what it says of the events.
use Rattle.std.specs.Prelude.{ℕ, ◌+◌, ◌-◌, ◌^◌, ◌≡◌, ◌<◌, ◌≤◌, List, [], ◌∷◌, ◌++◌, length, Option, Some, None, IfSome, true, false, slice_index_or, slice_set, map, filter}
use Rattle.std.specs.List.{AllByRecursion}
use Rattle.samza_model.specs.declared.messages.Record.{Record}
use Rattle.samza_model.specs.declared.acts.Act.{Act}
use Rattle.samza_model.specs.declared.acts.Answer.{Answer}
use Rattle.samza_model.specs.declared.turns.Failure.{Failure}
use Rattle.samza_model.specs.declared.turns.Why.{Why}
use Rattle.samza_model.specs.declared.setups.Setup.{Setup}
use Rattle.samza_model.specs.declared.events.Event.{Event}
use Rattle.samza_model.specs.declared.events.Event.TheVariants.{Deliver, Did, Complete, Failed, WindowDid, WindowEnded}
use Rattle.samza_model.specs.Content.{State, sent_at, answer_of, store_at}
use Rattle.kv_store.specs.Tracked.{AgreesOnClean, no_keys}
use Rattle.samza_model.specs.Meaning.{Meaning}
use Rattle.samza_model.specs.Partition.{Partition, message}
use Rattle.samza_model.specs.declared.flights.Flight.{Flight}
use Rattle.samza_model.specs.Events.{begun, flights, answered, without, deliveries, deliveries_of, is_covered, first_failure, earlier, window_open, window_answers, state_after, older, newer}
use Rattle.samza_model.specs.Lawful.{Given, IsLawful, IsAct, IsWindowAct, start_at, part_at, failure_of, window_failure}
use Rattle.samza_model.specs.declared.acts.Scope.{Scope}
use Rattle.samza_model.specs.Journals.{kept_of, belongs, uncovered_by}
use Rattle.samza_model.specs.Ran.{is_of_window}
use Rattle.samza_model.specs.Requests.{greater_scope, shutdown_of, shutdown_asked}
use Rattle.output_log.specs.Outputs.{cleared_at}
use Rattle.offset_window.specs.Windows.{Window, next_of, delivered, completed}
use Rattle.callback_manager.specs.Callbacks.{CallbacksValue}
use Rattle.core_steps.specs.Changes.{changed_in}
use Rattle.core_steps.specs.Held.{Held, IsSized, state_of, contents_of, held_after, tracked_at}
use Rattle.window_timer.specs.declared.times.Times.{Times}
use Rattle.window_timer.specs.Times.{window_begun, commit_made}
use Rattle.core_steps.specs.Times.{IsTimed}
use Rattle.core_steps.specs.Setups.{IsRunnable}
use Rattle.core_steps.specs.Lanes.{lane_at, left, IsLane, IsOpenAt, AreApart}

pub record CoreValue : Type 0 where
  pub setup : Setup
  pub starts : List ℕ
  pub ends : List ℕ
  pub lanes : List Window
  pub callbacks : CallbacksValue
  pub held : Held
  pub failed : Option Failure
  pub window : Option (List Answer)  -- of a window that is open, what it was answered
  pub since : List Event
  pub kept : List Event
  pub times : Times
  -- the greatest scope of a shutdown that an act asked for
  pub asked : Option Scope
  -- the last mark's number, 0 where there is none
  pub last : ℕ

abbrev pub next_at : CoreValue → ℕ → ℕ
next_at u p = next_of (lane_at u.lanes p)

-- while a window is open, nothing is in flight and nothing failed
abbrev pub IsIdle : CoreValue → List Answer → Type 0
IsIdle u answers = (u.callbacks.flights ≡ []) × (u.failed ≡ None)

pub record IsCore (u : CoreValue) : Type 0 where
  pub inputs : length u.setup.inputs ≡ length u.starts
  pub lanes : length u.lanes ≡ length u.starts
  pub ends : length u.ends ≡ length u.starts
  pub within : (p : ℕ) → p < length u.starts → next_at u p ≤ slice_index_or u.ends p 0
  pub spans : (p : ℕ) → p < length u.starts → (lane_at u.lanes p).span ≡ u.setup.span
  pub limit : u.callbacks.limit ≡ u.setup.concurrency
  pub sized : IsSized u.setup u.held
  pub undone : AllByRecursion (IsOpenAt u.lanes) u.callbacks.flights
  pub apart : AreApart u.callbacks.flights
  pub idle : IfSome u.window (IsIdle u)
  pub timed : IsTimed u.setup u.times
  pub runnable : IsRunnable u.setup
  -- the callbacks that began and those that may yet begin have numbers
  pub few : u.callbacks.next + left u.ends u.lanes < 2 ^ 63

-- a message of this input may be delivered
pub record MayBegin (u : CoreValue) (p : ℕ) : Type 0 where
  pub sound : u.failed ≡ None
  pub closed : u.window ≡ None
  pub more : next_at u p < slice_index_or u.ends p 0
  pub room : length u.callbacks.flights < u.setup.concurrency
  pub near : length (lane_at u.lanes p).done < (lane_at u.lanes p).span
  pub small : next_at u p < 2 ^ 64 - 1

-- what a core doesn't hold: the job and the partitions where they are told, and the state in which it was opened
pub record Outside : Type 0 where
  pub job : Option Meaning
  pub parts : List (Option Partition)
  pub state : State

abbrev pub given : Outside → CoreValue → Given
given o u = record { job = o.job; setup = u.setup; parts = o.parts; starts = u.starts; ends = u.ends; state = o.state }

-- the stores are the content, what wasn't cleared was sent behind the first a events, and the rest before
pub record IsHeld (state : State) (h : List Event) (a : ℕ) (held : Held) : Type 0 where
  pub stores : (state_after state h).stores ≡ contents_of held.stores
  pub as_many : length (state_after state h).sent ≡ length held.unsent
  pub sent : (j : ℕ) → sent_at (state_after state h).sent j ≡ sent_at (state_after state (older a h)).sent j ++ sent_at held.unsent j
  pub cleared : (j : ℕ) → j < length held.unsent → cleared_at held.cleared j ≡ length (sent_at (state_after state (older a h)).sent j)
  -- the content at the last mark is the store's at each key that isn't dirty
  pub clean : (i : ℕ) → i < length held.stores → AgreesOnClean (tracked_at held.stores i) (store_at (state_after state (older a h)).stores i)
  -- and the keys that are dirty are those that the events since set or took away
  pub dirty : (i : ℕ) → i < length held.stores → (tracked_at held.stores i).dirty ≡ changed_in i (newer a h)

-- a window that is open has the answers since the last one ended
abbrev pub IsWindow : List Event → Option (List Answer) → Type 0
IsWindow h (Some answers) = answers ≡ window_answers h
IsWindow h None = (window_open h ≡ false) × (first_failure h ≡ None → window_answers h ≡ [])

-- the core stands behind these events, of which so many are behind the last mark
pub record Stands (o : Outside) (u : CoreValue) (h : List Event) (a : ℕ) : Type 0 where
  pub lawful : IsLawful (given o u) h
  pub number : u.callbacks.next ≡ deliveries h
  pub flies : u.callbacks.flights ≡ flights u.setup h
  pub lanes : (p : ℕ) → p < length u.starts
      → IsLane (λ x. is_covered u.setup p x h) (start_at (given o u) p) (start_at (given o u) p + deliveries_of p h) (lane_at u.lanes p)
  pub held : IsHeld o.state h a u.held
  pub failed : u.failed ≡ first_failure h
  pub window : IsWindow h u.window
  pub asked : u.asked ≡ shutdown_asked h
  pub within : a ≤ length h
  pub since : u.since ≡ newer a h
  pub kept : u.kept ≡ kept_of (given o u) (older a h)

-- by whatever events the core stood before, it stands by them and this one
pub record Adds (may : Outside → CoreValue → Type 0) (old new : CoreValue) (e : Event) : Type 0 where
  pub same : (o : Outside) → given o new ≡ given o old
  pub times : new.times ≡ old.times
  pub last : new.last ≡ old.last
  pub journal : new.since ≡ e ∷ old.since
  pub window : is_of_window e ≡ false → new.window ≡ old.window
  pub history : (o : Outside) (h : List Event) (a : ℕ) → may o old → Stands o old h a → Stands o new (e ∷ h) a

-- nothing but what no event says has changed
pub record Keeps (old new : CoreValue) : Type 0 where
  pub same : (o : Outside) → given o new ≡ given o old
  pub last : new.last ≡ old.last
  pub journal : new.since ≡ old.since
  pub history : (o : Outside) (h : List Event) (a : ℕ) → Stands o old h a → Stands o new h a

-- the body is the partition's, where that is told
abbrev pub IsBody : ℕ → ℕ → Record → Outside → CoreValue → Type 0
IsBody p x m o u = IfSome (part_at (given o u) p) (λ part. message part x ≡ Some m)

abbrev pub IsCallAct : Flight → Act → Outside → CoreValue → Type 0
IsCallAct f act o u = IsAct o.job f.envelope f.answers act

abbrev pub IsWinAct : List Answer → Act → Outside → CoreValue → Type 0
IsWinAct answers act o u = IsWindowAct o.job answers act

-- what each call makes of the core

abbrev pub deliver_event : CoreValue → ℕ → Record → Event
deliver_event u p m = Deliver u.callbacks.next p (next_at u p) m u.times.moment

abbrev pub after_deliver : CoreValue → ℕ → Record → CoreValue
after_deliver u p m =
    record {
      setup = u.setup;
      starts = u.starts;
      ends = u.ends;
      lanes = slice_set u.lanes p (delivered (lane_at u.lanes p));
      callbacks = record { flights = u.callbacks.flights ++ begun u.setup u.callbacks.next p (next_at u p) m u.times.moment ∷ []; next = u.callbacks.next + 1; limit = u.callbacks.limit };
      held = u.held;
      failed = u.failed;
      window = u.window;
      since = deliver_event u p m ∷ u.since;
      kept = u.kept;
      times = u.times;
      asked = u.asked;
      last = u.last;
    }

-- the greatest scope that is asked for behind an act
abbrev pub asked_behind : CoreValue → Act → Option Scope
asked_behind u act = greater_scope u.asked (shutdown_of (Some act))

abbrev pub act_event : CoreValue → Flight → Act → Event
act_event u f act = Did f.number (length f.answers) act (answer_of (state_of u.held) act)

abbrev pub after_act : CoreValue → Flight → Act → CoreValue
after_act u f act =
    record {
      setup = u.setup;
      starts = u.starts;
      ends = u.ends;
      lanes = u.lanes;
      callbacks = record { flights = answered f.number (answer_of (state_of u.held) act) u.callbacks.flights; next = u.callbacks.next; limit = u.callbacks.limit };
      held = held_after u.held act;
      failed = u.failed;
      window = u.window;
      since = act_event u f act ∷ u.since;
      kept = u.kept;
      times = u.times;
      asked = asked_behind u act;
      last = u.last;
    }

abbrev pub after_complete : CoreValue → Flight → CoreValue
after_complete u f =
    record {
      setup = u.setup;
      starts = u.starts;
      ends = u.ends;
      lanes = slice_set u.lanes f.input (completed (lane_at u.lanes f.input) f.envelope.offset);
      callbacks = record { flights = without f.number u.callbacks.flights; next = u.callbacks.next; limit = u.callbacks.limit };
      held = u.held;
      failed = u.failed;
      window = u.window;
      since = Complete f.number ∷ u.since;
      kept = u.kept;
      times = u.times;
      asked = u.asked;
      last = u.last;
    }

abbrev pub after_failure : CoreValue → Flight → Why → CoreValue
after_failure u f why =
    record {
      setup = u.setup;
      starts = u.starts;
      ends = u.ends;
      lanes = u.lanes;
      callbacks = record { flights = without f.number u.callbacks.flights; next = u.callbacks.next; limit = u.callbacks.limit };
      held = u.held;
      failed = earlier u.failed (failure_of f why);
      window = u.window;
      since = Failed (failure_of f why) ∷ u.since;
      kept = u.kept;
      times = u.times;
      asked = u.asked;
      last = u.last;
    }

abbrev pub window_act_event : CoreValue → List Answer → Act → Event
window_act_event u answers act = WindowDid (length answers) act (answer_of (state_of u.held) act)

abbrev pub after_window_act : CoreValue → List Answer → Act → CoreValue
after_window_act u answers act =
    record {
      setup = u.setup;
      starts = u.starts;
      ends = u.ends;
      lanes = u.lanes;
      callbacks = u.callbacks;
      held = held_after u.held act;
      failed = u.failed;
      window = Some (answers ++ answer_of (state_of u.held) act ∷ []);
      since = window_act_event u answers act ∷ u.since;
      kept = u.kept;
      times = u.times;
      asked = asked_behind u act;
      last = u.last;
    }

abbrev pub after_window_end : CoreValue → CoreValue
after_window_end u =
    record {
      setup = u.setup;
      starts = u.starts;
      ends = u.ends;
      lanes = u.lanes;
      callbacks = u.callbacks;
      held = u.held;
      failed = u.failed;
      window = None;
      since = WindowEnded ∷ u.since;
      kept = u.kept;
      times = u.times;
      asked = u.asked;
      last = u.last;
    }

abbrev pub after_window_failure : CoreValue → Why → CoreValue
after_window_failure u why =
    record {
      setup = u.setup;
      starts = u.starts;
      ends = u.ends;
      lanes = u.lanes;
      callbacks = u.callbacks;
      held = u.held;
      failed = Some (window_failure why);
      window = None;
      since = Failed (window_failure why) ∷ u.since;
      kept = u.kept;
      times = u.times;
      asked = u.asked;
      last = u.last;
    }

abbrev pub after_open_window : CoreValue → CoreValue
after_open_window u =
    record {
      setup = u.setup;
      starts = u.starts;
      ends = u.ends;
      lanes = u.lanes;
      callbacks = u.callbacks;
      held = u.held;
      failed = u.failed;
      window = Some [];
      since = u.since;
      kept = u.kept;
      times = window_begun u.times;
      asked = u.asked;
      last = u.last;
    }

-- the core with these times
abbrev pub with_times : CoreValue → Times → CoreValue
with_times u times =
    record {
      setup = u.setup;
      starts = u.starts;
      ends = u.ends;
      lanes = u.lanes;
      callbacks = u.callbacks;
      held = u.held;
      failed = u.failed;
      window = u.window;
      since = u.since;
      kept = u.kept;
      times = times;
      asked = u.asked;
      last = u.last;
    }

-- the callbacks that a mark now doesn't cover
abbrev pub uncovered_now : CoreValue → List ℕ
uncovered_now u = uncovered_by (λ p. (lane_at u.lanes p).low) (u.since ++ u.kept)

-- what was sent is counted and let go, and no key is dirty
pub record IsCleared (old new : Held) : Type 0 where
  pub stores : contents_of new.stores ≡ contents_of old.stores
  pub as_many : length new.unsent ≡ length old.unsent
  pub none : (j : ℕ) → sent_at new.unsent j ≡ []
  pub counted : (j : ℕ) → j < length old.unsent → cleared_at new.cleared j ≡ cleared_at old.cleared j + length (sent_at old.unsent j)
  pub clean : (i : ℕ) → i < length new.stores → (tracked_at new.stores i).dirty ≡ no_keys

-- a mark was made
abbrev pub after_commit : CoreValue → Held → CoreValue
after_commit u held =
    record {
      setup = u.setup;
      starts = u.starts;
      ends = u.ends;
      lanes = u.lanes;
      callbacks = u.callbacks;
      held = held;
      failed = u.failed;
      window = u.window;
      since = [];
      kept = filter (belongs (uncovered_now u)) (u.since ++ u.kept);
      times = commit_made u.times;
      asked = u.asked;
      last = u.last + 1;
    }

-- by whatever events the core stood before, it stands by the same, and all of them are behind a mark
pub record Commits (old new : CoreValue) : Type 0 where
  pub same : (o : Outside) → given o new ≡ given o old
  pub times : new.times ≡ commit_made old.times
  pub last : new.last ≡ old.last + 1
  pub journal : new.since ≡ []
  pub window : new.window ≡ old.window
  pub history : (o : Outside) (h : List Event) (a : ℕ) → Stands o old h a → Stands o new h (length h)
