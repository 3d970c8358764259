-- Each call's step leaves the core standing by the events before and its own.
use Rattle.std.specs.Prelude.{ℕ, ◌≡◌, ◌<◌, List, [], ◌∷◌, length, Option, Some, None, true}
use Rattle.samza_model.specs.declared.messages.Record.{Record}
use Rattle.samza_model.specs.declared.acts.Act.{Act}
use Rattle.samza_model.specs.declared.acts.Answer.{Answer}
use Rattle.samza_model.specs.declared.turns.Why.{Why}
use Rattle.samza_model.specs.declared.events.Event.{Event}
use Rattle.samza_model.specs.declared.events.Event.TheVariants.{Complete, Failed, WindowEnded}
use Rattle.samza_model.specs.declared.flights.Flight.{Flight}
use Rattle.samza_model.specs.Events.{flight_of}
use Rattle.samza_model.specs.Lawful.{start_at, course, failure_of, window_failure}
use Rattle.core_steps.specs.Held.{Held}
use Rattle.core_steps.specs.Lanes.{lane_at}
use Rattle.core_steps.specs.Times.{IsTimed}
use Rattle.window_timer.specs.declared.times.Times.{Times}
use Rattle.core_steps.specs.Cores.{IsHeld, given, CoreValue, Outside, IsCore, Stands, MayBegin, next_at, IsBody, IsCallAct, IsWinAct, deliver_event, act_event, window_act_event, after_deliver, after_act, after_complete, after_failure, after_window_act, after_window_end, after_window_failure, after_open_window, with_times, after_commit, IsCleared}

abbrev pub DeliverStands : Type 0
DeliverStands = (u : CoreValue) (p : ℕ) (m : Record) → IsCore u → p < length u.starts → MayBegin u p
    → (o : Outside) (h : List Event) (a : ℕ) → IsBody p (next_at u p) m o u → Stands o u h a → Stands o (after_deliver u p m) (deliver_event u p m ∷ h) a

abbrev pub ActStands : Type 0
ActStands = (u : CoreValue) (n : ℕ) (f : Flight) (act : Act) → IsCore u → flight_of n u.callbacks.flights ≡ Some f → course u.setup (length f.answers) act ≡ None
    → (o : Outside) (h : List Event) (a : ℕ) → IsCallAct f act o u → Stands o u h a → Stands o (after_act u f act) (act_event u f act ∷ h) a

abbrev pub CompleteStands : Type 0
CompleteStands = (u : CoreValue) (n : ℕ) (f : Flight) (act : Act) → IsCore u → flight_of n u.callbacks.flights ≡ Some f → course u.setup (length f.answers) act ≡ Some None
    → (o : Outside) (h : List Event) (a : ℕ) → IsCallAct f act o u → Stands o u h a → Stands o (after_complete u f) (Complete f.number ∷ h) a

abbrev pub FailureStands : Type 0
FailureStands = (u : CoreValue) (n : ℕ) (f : Flight) (act : Act) (why : Why) → IsCore u → flight_of n u.callbacks.flights ≡ Some f → course u.setup (length f.answers) act ≡ Some (Some why)
    → (o : Outside) (h : List Event) (a : ℕ) → IsCallAct f act o u → Stands o u h a → Stands o (after_failure u f why) (Failed (failure_of f why) ∷ h) a

abbrev pub WindowActStands : Type 0
WindowActStands = (u : CoreValue) (answers : List Answer) (act : Act) → IsCore u → u.window ≡ Some answers → course u.setup (length answers) act ≡ None
    → (o : Outside) (h : List Event) (a : ℕ) → IsWinAct answers act o u → Stands o u h a → Stands o (after_window_act u answers act) (window_act_event u answers act ∷ h) a

abbrev pub WindowEndStands : Type 0
WindowEndStands = (u : CoreValue) (answers : List Answer) (act : Act) → IsCore u → u.window ≡ Some answers → course u.setup (length answers) act ≡ Some None
    → (o : Outside) (h : List Event) (a : ℕ) → IsWinAct answers act o u → Stands o u h a → Stands o (after_window_end u) (WindowEnded ∷ h) a

abbrev pub WindowFailureStands : Type 0
WindowFailureStands = (u : CoreValue) (answers : List Answer) (act : Act) (why : Why) → IsCore u → u.window ≡ Some answers → course u.setup (length answers) act ≡ Some (Some why)
    → (o : Outside) (h : List Event) (a : ℕ) → IsWinAct answers act o u → Stands o u h a → Stands o (after_window_failure u why) (Failed (window_failure why) ∷ h) a

abbrev pub OpenWindowStands : Type 0
OpenWindowStands = (u : CoreValue) → u.window ≡ None → u.failed ≡ None
    → (o : Outside) (h : List Event) (a : ℕ) → Stands o u h a → Stands o (after_open_window u) h a

abbrev pub TimesStand : Type 0
TimesStand = (u : CoreValue) (t : Times) → (o : Outside) (h : List Event) (a : ℕ) → Stands o u h a → Stands o (with_times u t) h a

abbrev pub CommitStands : Type 0
CommitStands = (u : CoreValue) (held : Held) → IsCore u → IsCleared u.held held
    → (o : Outside) (h : List Event) (a : ℕ) → Stands o u h a → Stands o (after_commit u held) h (length h)

abbrev pub DeliverKeeps : Type 0
DeliverKeeps = (u : CoreValue) (p : ℕ) (m : Record) → IsCore u → p < length u.starts → MayBegin u p → IsCore (after_deliver u p m)

abbrev pub ActKeeps : Type 0
ActKeeps = (u : CoreValue) (f : Flight) (act : Act) → IsCore u → IsCore (after_act u f act)

abbrev pub CompleteKeeps : Type 0
CompleteKeeps = (u : CoreValue) (f : Flight) → IsCore u → flight_of f.number u.callbacks.flights ≡ Some f → IsCore (after_complete u f)

abbrev pub FailureKeeps : Type 0
FailureKeeps = (u : CoreValue) (f : Flight) (why : Why) → IsCore u → flight_of f.number u.callbacks.flights ≡ Some f → IsCore (after_failure u f why)

abbrev pub WindowActKeeps : Type 0
WindowActKeeps = (u : CoreValue) (answers : List Answer) (act : Act) → IsCore u → u.window ≡ Some answers → IsCore (after_window_act u answers act)

abbrev pub WindowEndKeeps : Type 0
WindowEndKeeps = (u : CoreValue) → IsCore u → IsCore (after_window_end u)

abbrev pub WindowFailureKeeps : Type 0
WindowFailureKeeps = (u : CoreValue) (why : Why) → IsCore u → IsCore (after_window_failure u why)

abbrev pub OpenWindowKeeps : Type 0
OpenWindowKeeps = (u : CoreValue) → IsCore u → u.callbacks.flights ≡ [] → u.failed ≡ None → IsCore (after_open_window u)

abbrev pub TimesKeep : Type 0
TimesKeep = (u : CoreValue) (t : Times) → IsCore u → IsTimed u.setup t → IsCore (with_times u t)

-- of a core just made
pub record IsFresh (u : CoreValue) : Type 0 where
  pub next : u.callbacks.next ≡ 0
  pub none : u.callbacks.flights ≡ []
  pub sound : u.failed ≡ None
  pub closed : u.window ≡ None
  pub since : u.since ≡ []
  pub kept : u.kept ≡ []
  pub unasked : u.asked ≡ None

abbrev pub FreshStands : Type 0
FreshStands = (u : CoreValue) (o : Outside) → IsFresh u → IsHeld o.state [] 0 u.held
    → ((p : ℕ) → p < length u.starts → lane_at u.lanes p ≡ record { low = start_at (given o u) p; done = []; span = u.setup.span })
    → Stands o u [] 0

abbrev pub CommitKeeps : Type 0
CommitKeeps = (u : CoreValue) (held : Held) → IsCore u → IsCleared u.held held → IsCore (after_commit u held)
