-- The numbers of the callbacks in flight rise.
use Rattle.std.proofs.Common.{ℕ, zero, suc, ◌+◌, ◌≡◌, ◌<◌, ◌≤◌, List, [], ◌∷◌, ◌++◌, length, Some, refl, arith, rules, slice_get, None, get_or}
use Rattle.std.specs.List.{remove}
use Rattle.slab.specs.Slab.{Slab}
use Rattle.callback_manager.specs.declared.callbacks.Entry.{Entry}
use Rattle.callback_manager.specs.declared.callbacks.Ticket.{Ticket}
use Rattle.callback_manager.specs.Callbacks.{numbers}
use Rattle.callback_manager.specs.Tickets.{AreRising, flights_in}
use Rattle.callback_manager.proofs.Kept.{no_ticket}

pub rising_more : (from next key : ℕ) (ts : List Ticket) → AreRising from next ts → AreRising from (next + 1) (ts ++ record { number = next; key = key } ∷ [])
rising_more from next key [] rising = (rising, omega arith)
rising_more from next key (t ∷ ts) rising = (rising.0, rising_more (t.number + 1) next key ts rising.1)

rising_lower : (from low next : ℕ) (ts : List Ticket) → low ≤ from → AreRising from next ts → AreRising low next ts
rising_lower from low next [] le rising = omega (arith, le, rising)
rising_lower from low next (t ∷ ts) le rising = (omega (arith, le, rising.0), rising.1)

pub rising_removed : (from next : ℕ) (ts : List Ticket) (i : ℕ) → AreRising from next ts → AreRising from next (remove ts i)
rising_removed from next [] zero rising = rising
rising_removed from next [] (suc i) rising = rising
rising_removed from next (t ∷ ts) zero rising = rising_lower (t.number + 1) from next ts (omega (arith, rising.0)) rising.1
rising_removed from next (t ∷ ts) (suc i) rising = (rising.0, rising_removed (t.number + 1) next ts i rising.1)

pub removed_few : (ts : List Ticket) (i : ℕ) → length (remove ts i) ≤ length ts
removed_few [] zero = omega arith
removed_few [] (suc i) = omega arith
removed_few (t ∷ ts) zero = omega arith
removed_few (t ∷ ts) (suc i) = omega (arith, removed_few ts i)

-- the number at a place
pub number_at : (s : Slab Entry) (ts : List Ticket) (i : ℕ) → i < length ts → slice_get (numbers (flights_in s ts)) i ≡ Some (get_or ts i no_ticket).number
number_at s [] i lt = absurd (omega (arith, lt))
number_at s (u ∷ ts) zero lt = refl
number_at s (u ∷ ts) (suc i) lt = number_at s ts i (omega (arith, lt))

pub no_number_at : (s : Slab Entry) (ts : List Ticket) (i : ℕ) → length ts ≤ i → None ≡ slice_get (numbers (flights_in s ts)) i
no_number_at s [] zero le = refl
no_number_at s [] (suc i) le = refl
no_number_at s (u ∷ ts) zero le = absurd (omega (arith, le))
no_number_at s (u ∷ ts) (suc i) le = no_number_at s ts i (omega (arith, le))

some_number : (m n : ℕ) → Some m ≡ Some n → m ≡ n
some_number m n is = cc

above : (s : Slab Entry) (from next : ℕ) (ts : List Ticket) (i n : ℕ) → AreRising from next ts → slice_get (numbers (flights_in s ts)) i ≡ Some n → from ≤ n
above s from next [] i n rising is = absurd (search rules)
above s from next (t ∷ ts) zero n rising is = omega (arith, rising.0, some_number t.number n is)
above s from next (t ∷ ts) (suc i) n rising is = omega (arith, rising.0, above s (t.number + 1) next ts i n rising.1 is)

pub rise : (s : Slab Entry) (from next : ℕ) (ts : List Ticket) (i j m n : ℕ) → AreRising from next ts → i < j → slice_get (numbers (flights_in s ts)) i ≡ Some m → slice_get (numbers (flights_in s ts)) j ≡ Some n → m < n
rise s from next [] i j m n rising lt at at' = absurd (search rules)
rise s from next (t ∷ ts) i zero m n rising lt at at' = absurd (omega (arith, lt))
rise s from next (t ∷ ts) zero (suc j) m n rising lt at at' = omega (arith, some_number t.number m at, above s (t.number + 1) next ts j n rising.1 at')
rise s from next (t ∷ ts) (suc i) (suc j) m n rising lt at at' = rise s (t.number + 1) next ts i j m n rising.1 (omega (arith, lt)) at at'
