-- Callbacks in a slab, by their tickets.
use Rattle.std.specs.Prelude.{ℕ, ◌≡◌, ◌≢◌, ◌+◌, ◌-◌, ◌^◌, ◌<◌, ◌≤◌, ◌==◌, suc, List, [], ◌∷◌, ◌++◌, length, take, Option, Some, None, true, is_some, unwrap_or, if◌then◌else◌}
use Rattle.std.specs.List.{AllByRecursion}
use Rattle.std.specs.Option.{option_map}
use Rattle.slab.specs.Slab.{Slab, get, with_value}
use Rattle.samza_model.specs.declared.acts.Answer.{Answer}
use Rattle.samza_model.specs.declared.flights.Flight.{Flight}
use Rattle.callback_manager.specs.declared.callbacks.Entry.{Entry}
use Rattle.callback_manager.specs.declared.callbacks.Ticket.{Ticket}

abbrev pub no_entry : Entry
no_entry = record { input = 0; envelope = record { ssp = record { system = []; stream = []; partition = 0 }; offset = 0; body = record { key = []; value = None } }; answers = []; delivered = 0 }

abbrev pub entry_at : Slab Entry → ℕ → Entry
entry_at s key = unwrap_or (get s key) no_entry

abbrev pub flight_from : ℕ → Entry → Flight
flight_from n e = record { number = n; input = e.input; envelope = e.envelope; delivered = e.delivered; answers = e.answers }

abbrev pub flights_in : Slab Entry → List Ticket → List Flight
flights_in s [] = []
flights_in s (t ∷ ts) = flight_from t.number (entry_at s t.key) ∷ flights_in s ts

-- no two tickets have one key
abbrev pub AreApart : List Ticket → Type 0
AreApart [] = Unit {0}
AreApart (t ∷ ts) = AllByRecursion (λ (u : Ticket). u.key ≢ t.key) ts × AreApart ts

-- each ticket's callback stands in the slab, at a key of its own
pub record IsKept (s : Slab Entry) (ts : List Ticket) : Type 0 where
  pub there : AllByRecursion (λ (t : Ticket). is_some (get s t.key) ≡ true) ts
  pub apart : AreApart ts

-- the numbers rise from the first one on, and are below the last
abbrev pub AreRising : ℕ → ℕ → List Ticket → Type 0
AreRising from upto [] = from ≤ upto
AreRising from upto (t ∷ ts) = (from ≤ t.number) × AreRising (t.number + 1) upto ts

-- what is kept of the callbacks, the next one's number, and how many there may be
pub record IsManaged (next limit : ℕ) (s : Slab Entry) (ts : List Ticket) : Type 0 where
  pub kept : IsKept s ts
  pub rising : AreRising 0 next ts
  pub few : length ts ≤ limit
  pub fits : limit < 2 ^ 32

abbrev pub place_in : ℕ → List Ticket → Option ℕ
place_in n [] = None
place_in n (t ∷ ts) = if t.number == n then Some 0 else option_map suc (place_in n ts)

abbrev pub more : Answer → Entry → Entry
more a e = record { input = e.input; envelope = e.envelope; answers = e.answers ++ a ∷ []; delivered = e.delivered }

abbrev pub less : Entry → Entry
less e = record { input = e.input; envelope = e.envelope; answers = take (length e.answers - 1) e.answers; delivered = e.delivered }

abbrev pub with_changed : Slab Entry → ℕ → (Entry → Entry) → Option Entry → Slab Entry
with_changed s key f None = s
with_changed s key f (Some e) = with_value s key (f e)

abbrev pub with_more : Slab Entry → ℕ → Answer → Slab Entry
with_more s key a = with_changed s key (more a) (get s key)

abbrev pub with_less : Slab Entry → ℕ → Slab Entry
with_less s key = with_changed s key less (get s key)
