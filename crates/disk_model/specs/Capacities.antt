-- What a disk in memory can take.
use Rattle.std.specs.Prelude.{ℕ, ◌+◌}

pub record Capacity : Type 0 where
  -- the number of its files
  pub files : ℕ
  -- the greatest size of one file, and of the bytes that are written in all
  pub room : ℕ
  -- the greatest number of calls
  pub calls : ℕ
  -- how many bytes were written so far
  pub used : ℕ

-- with so many bytes more that were written
abbrev pub with_used : ℕ → Capacity → Capacity
with_used n c = record { files = c.files; room = c.room; calls = c.calls; used = c.used + n }

-- with no bytes that were written
abbrev pub unused : Capacity → Capacity
unused c = record { files = c.files; room = c.room; calls = c.calls; used = 0 }
