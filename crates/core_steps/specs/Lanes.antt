-- A window of offsets, and what it says of the events.
use Rattle.std.specs.Prelude.{ℕ, ◌+◌, ◌-◌, ◌≡◌, ◌<◌, ◌≤◌, ◌&&◌, ◌==◌, List, [], ◌∷◌, length, Bool, true, false, Some, slice_index_or}
use Rattle.std.specs.List.{AllByRecursion}
use Rattle.samza_model.specs.declared.flights.Flight.{Flight}
use Rattle.samza_model.specs.Events.{is_at}
use Rattle.offset_window.specs.Windows.{Window, next_of, is_inside, is_done}

abbrev pub lane_at : List Window → ℕ → Window
lane_at lanes p = slice_index_or lanes p (record { low = 0; done = []; span = 0 })

-- how many offsets the windows haven't delivered yet, up to these ends
abbrev pub left : List ℕ → List Window → ℕ
left [] ws = 0
left (e ∷ es) [] = 0
left (e ∷ es) (w ∷ ws) = (e - next_of w) + left es ws

-- how many offsets there are from these starts to these ends
abbrev pub between : List ℕ → List ℕ → ℕ
between [] es = 0
between (s ∷ ss) [] = 0
between (s ∷ ss) (e ∷ es) = (e - s) + between ss es

-- a window of this span from which nothing was delivered yet
abbrev pub begun_lane : ℕ → ℕ → Window
begun_lane span start = record { low = start; done = []; span = span }

-- the window tells which offsets, from the start on and below the next one, are covered
pub record IsLane (covered : ℕ → Bool) (start upto : ℕ) (w : Window) : Type 0 where
  pub after : start ≤ w.low
  pub next : next_of w ≡ upto
  pub below : (o : ℕ) → start ≤ o → o < w.low → covered o ≡ true
  pub done : (o : ℕ) → w.low ≤ o → is_done w o ≡ covered o
  pub stops : is_done w w.low ≡ false

-- a callback's offset was delivered and isn't complete
pub record IsOpenAt (lanes : List Window) (f : Flight) : Type 0 where
  pub input : f.input < length lanes
  pub inside : is_inside (lane_at lanes f.input) f.envelope.offset ≡ true
  pub undone : is_done (lane_at lanes f.input) f.envelope.offset ≡ false

abbrev pub is_same_place : Flight → Flight → Bool
is_same_place f g = is_at f.input f.envelope.offset (Some g)

-- no two callbacks are on one offset
abbrev pub AreApart : List Flight → Type 0
AreApart [] = Unit {0}
AreApart (f ∷ fs) = AllByRecursion (λ g. is_same_place f g ≡ false) fs × AreApart fs
