-- A task's journal: what it keeps of its events.
use Rattle.std.specs.Prelude.{ℕ, ◌==◌, ◌||◌, List, [], ◌∷◌, Bool, false, nat_le, filter, if◌then◌else◌}
use Rattle.samza_model.specs.declared.turns.Turn.{Turn}
use Rattle.samza_model.specs.declared.turns.Turn.TheVariants.{Call, Window}
use Rattle.samza_model.specs.declared.events.Event.{Event}
use Rattle.samza_model.specs.declared.events.Event.TheVariants.{Deliver, Did, Complete, Failed, WindowDid, WindowEnded}
use Rattle.samza_model.specs.Events.{low, older, newer}
use Rattle.samza_model.specs.Lawful.{Given, start_at}

-- the callbacks whose offset isn't below the low of its input, the newest first
unfoldable pub uncovered_by : (ℕ → ℕ) → List Event → List ℕ
uncovered_by lows [] = []
uncovered_by lows (Deliver n p o m t ∷ h) =
    if nat_le (lows p) o then n ∷ uncovered_by lows h else uncovered_by lows h
uncovered_by lows (Did n i act answer ∷ h) = uncovered_by lows h
uncovered_by lows (Complete n ∷ h) = uncovered_by lows h
uncovered_by lows (Failed f ∷ h) = uncovered_by lows h
uncovered_by lows (WindowDid i act answer ∷ h) = uncovered_by lows h
uncovered_by lows (WindowEnded ∷ h) = uncovered_by lows h

abbrev pub is_among : List ℕ → ℕ → Bool
is_among [] n = false
is_among (m ∷ ms) n = m == n || is_among ms n

abbrev pub is_turn_among : List ℕ → Turn → Bool
is_turn_among ns (Call n) = is_among ns n
is_turn_among ns Window = false

-- the event belongs to one of these callbacks
abbrev pub belongs : List ℕ → Event → Bool
belongs ns (Deliver n p o m t) = is_among ns n
belongs ns (Did n i act answer) = is_among ns n
belongs ns (Complete n) = is_among ns n
belongs ns (Failed f) = is_turn_among ns f.turn
belongs ns (WindowDid i act answer) = false
belongs ns WindowEnded = false

abbrev pub lows_of : Given → List Event → ℕ → ℕ
lows_of k h p = low k.setup (start_at k p) h p

-- the callbacks that a mark behind these events doesn't cover
abbrev pub uncovered : Given → List Event → List ℕ
uncovered k h = uncovered_by (lows_of k h) h

-- the events that a mark behind them keeps
abbrev pub kept_of : Given → List Event → List Event
kept_of k h = filter (belongs (uncovered k h)) h

-- a journal: the events since the last mark, and those of the ones before that are kept
pub record Trimmed : Type 0 where
  pub since : List Event
  pub kept : List Event

-- the journal of a task whose last mark is behind the first so many events
abbrev pub trim : Given → List Event → ℕ → Trimmed
trim k h a = record { since = newer a h; kept = kept_of k (older a h) }
