-- Where a task's logs stand on its disk.
use Rattle.std.specs.Prelude.{ℕ, ◌+◌, List}

-- the bytes of each file of a disk, by number; a file that isn't there has none
abbrev pub Image : Type 0
Image = ℕ → List ℕ

abbrev pub checkpoint_file : ℕ
checkpoint_file = 0

-- the changelog of the i-th store
abbrev pub changelog_file : ℕ → ℕ
changelog_file i = 1 + i

-- the task's part of the j-th output
abbrev pub output_file : ℕ → ℕ
output_file j = 16 + j
