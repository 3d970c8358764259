-- Counts of calls and faults.
use Rattle.std.proofs.Common.{ℕ, ◌≤◌, arith}
use Rattle.samza_model.specs.Counters.{next_number, Rose, added}

pub next_later : (n : ℕ) → n ≤ next_number n
next_later n = omega arith

pub added_later : (m n : ℕ) → m ≤ added m n
added_later m n = omega arith

pub rose_later : (a b : ℕ) → Rose a b → a ≤ b
rose_later a b r = omega arith

-- a count that rose and then didn't fall
pub rose_then : (a b c : ℕ) → Rose a b → b ≤ c → Rose a c
rose_then a b c r le = omega arith

-- a count that didn't fall and then rose
pub then_rose : (a b c : ℕ) → a ≤ b → Rose b c → Rose a c
then_rose a b c le r = omega arith

-- a handle's count that rose from 0, added to the host's
pub rose_added : (host handle : ℕ) → Rose 0 handle → Rose host (added host handle)
rose_added host handle r = omega arith

-- of a handle's count that rose from any number
pub rose_added_from : (host before handle : ℕ) → Rose before handle → Rose host (added host handle)
rose_added_from host before handle r = omega arith

-- two handles' counts, of which the first one made the host's rise
pub rose_added_before : (old host handle : ℕ) → Rose old host → Rose old (added host handle)
rose_added_before old host handle r = omega arith
