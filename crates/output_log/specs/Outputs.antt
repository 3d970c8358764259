-- What outputs were sent.
use Rattle.std.specs.Prelude.{ℕ, ◌≡◌, ◌<◌, ◌+◌, ◌-◌, List, [], ◌∷◌, ◌++◌, length, take, slice_index_or, slice_set}
use Rattle.samza_model.specs.declared.messages.Record.{Record}
use Rattle.samza_model.specs.Content.{sent_at}

-- of each output the records that it was sent since it was cleared, oldest first, and how many were cleared before
pub record Sent : Type 0 where
  pub unsent : List (List Record)
  pub cleared : List ℕ

abbrev pub cleared_at : List ℕ → ℕ → ℕ
cleared_at cleared j = slice_index_or cleared j 0

-- how many records the output was sent in all
abbrev pub sent_count : Sent → ℕ → ℕ
sent_count s j = cleared_at s.cleared j + length (sent_at s.unsent j)

-- a record more for the output
abbrev pub with_sent : Sent → ℕ → Record → Sent
with_sent s j body = record { unsent = slice_set s.unsent j (sent_at s.unsent j ++ body ∷ []); cleared = s.cleared }

-- the output without its last record
abbrev pub without_last : Sent → ℕ → Sent
without_last s j = record { unsent = slice_set s.unsent j (take (length (sent_at s.unsent j) - 1) (sent_at s.unsent j)); cleared = s.cleared }

-- all that was sent is cleared
pub record IsCleared (old new : Sent) : Type 0 where
  pub as_many : length new.unsent ≡ length old.unsent
  pub none : (j : ℕ) → j < length old.unsent → sent_at new.unsent j ≡ []
  pub counted : (j : ℕ) → j < length old.unsent → cleared_at new.cleared j ≡ sent_count old j
