-- What is said of an input's low.
use Rattle.std.specs.Prelude.{ℕ, ◌+◌, ◌≡◌, ◌<◌, ◌≤◌, List, [], None, true, false}
use Rattle.samza_model.specs.declared.events.Event.{Event}
use Rattle.samza_model.specs.Events.{deliveries_of, first_failure, flights, is_covered, low}
use Rattle.samza_model.specs.Lawful.{Given, IsLawful, start_at}

-- the offset isn't covered, and all from the start on that are below it are
pub record IsLow (k : Given) (h : List Event) (p o : ℕ) : Type 0 where
  pub from : start_at k p ≤ o
  pub below : (x : ℕ) → start_at k p ≤ x → x < o → is_covered k.setup p x h ≡ true
  pub stops : is_covered k.setup p o h ≡ false

abbrev pub IsLeast : Type 0
IsLeast = (k : Given) (h : List Event) (p : ℕ) → IsLawful k h → IsLow k h p (low k.setup (start_at k p) h p)

abbrev pub IsUnique : Type 0
IsUnique = (k : Given) (h : List Event) (p o : ℕ) → IsLawful k h → IsLow k h p o → o ≡ low k.setup (start_at k p) h p

abbrev pub IsEndWhereIdle : Type 0
IsEndWhereIdle = (k : Given) (h : List Event) (p : ℕ) → IsLawful k h → flights k.setup h ≡ [] → first_failure h ≡ None
    → low k.setup (start_at k p) h p ≡ start_at k p + deliveries_of p h
