-- What a disk's calls do to what a read gives, and to the images: what a crash may leave.
use Rattle.std.specs.Prelude.{ℕ, ◌≡◌, ◌≢◌, ◌+◌, ◌-◌, ◌^◌, ◌≤◌, ◌⊎◌, max, List, ◌++◌, length, take, drop, Result, IsErrOf}
use Rattle.samza_model.specs.Counters.{Rose}
use Rattle.samza_model.specs.Files.{Image}
use Rattle.disk_model.specs.declared.names.DiskFault.{DiskFault}
use Rattle.disk_model.specs.declared.names.DiskFault.TheVariants.{Failed}

-- the other files are the same
abbrev pub SameElsewhere : ℕ → Image → Image → Type 0
SameElsewhere file old new = (f : ℕ) → f ≢ file → new f ≡ old f

-- new is old with these bytes at this place of the file
pub record Written (file at : ℕ) (bytes : List ℕ) (old new : Image) : Type 0 where
  pub here : new file ≡ take at (old file) ++ bytes ++ drop (at + length bytes) (old file)
  pub elsewhere : SameElsewhere file old new

-- after a write of n bytes that a crash cuts short: any bytes in its range, any size between, and all else the same
pub record TornWrite (file at n : ℕ) (old new : Image) : Type 0 where
  pub before : take at (new file) ≡ take at (old file)
  pub behind : drop (at + n) (new file) ≡ drop (at + n) (old file)
  pub no_shorter : length (old file) ≤ length (new file)
  pub no_longer : length (new file) ≤ max (length (old file)) (at + n)
  pub elsewhere : SameElsewhere file old new

-- new is old with the file cut to this size
pub record Shortened (file size : ℕ) (old new : Image) : Type 0 where
  pub here : new file ≡ take size (old file)
  pub elsewhere : SameElsewhere file old new

-- after a cut that a crash cuts short: any size between, and any bytes from the size on
pub record TornCut (file size : ℕ) (old new : Image) : Type 0 where
  pub before : take size (new file) ≡ take size (old file)
  pub no_longer : length (new file) ≤ length (old file)
  pub elsewhere : SameElsewhere file old new

-- a call that may have made the file: no count of files but these
pub record MayMake (file old new : ℕ) : Type 0 where
  pub no_fewer : old ≤ new
  pub no_more : new ≤ max old (file + 1)

-- each new image is an old one after a step
abbrev pub Follows : (Image → Image → Type 0) → (Image → Type 0) → (Image → Type 0) → Type 0
Follows step old new = (c : Image) → new c → (d : Image) × old d × step d c

-- each new image is an old one
abbrev pub Keeps : (Image → Type 0) → (Image → Type 0) → Type 0
Keeps old new = (c : Image) → new c → old c

-- neither what a read gives nor an image changes
pub record Stays (before after : Image) (old new : Image → Type 0) : Type 0 where
  pub reads : after ≡ before
  pub images : Keeps old new
  pub none_lost : Keeps new old

-- in each image the file is as it reads
abbrev pub Only : ℕ → Image → (Image → Type 0) → Type 0
Only file reads images = (c : Image) → images c → c file ≡ reads file

-- An image since a number up to the call's start is one since that number at the call's start, or one now,
-- and none of the former is lost.
pub record Joins (start : ℕ) (past since : ℕ → Image → Type 0) (now : Image → Type 0) : Type 0 where
  pub nothing_else : (k : ℕ) (c : Image) → k ≤ start → since k c → past k c ⊎ now c
  pub keeps : (k : ℕ) (c : Image) → k ≤ start → past k c → since k c

-- Each image of a moment since old is an image of old after a step.
pub record LeavesOnly {D : Type 0} (number : D → ℕ) (images : D → Image → Type 0) (since : D → ℕ → Image → Type 0) (old new : D) (step : Image → Image → Type 0) : Type 0 where
  pub later : number old ≤ number new
  pub each : (c : Image) → since new (number old) c → (d : Image) × images old d × step d c
  -- for a run that began earlier
  pub before : (k : ℕ) (c : Image) → k ≤ number old → since new k c → since old k c ⊎ ((d : Image) × images old d × step d c)

-- the count doesn't fall; `Failed` comes only where it rose, and always where the call number stands at its end
pub record HasCause {T : Type 0} (number before now : ℕ) (result : Result T DiskFault) : Type 0 where
  pub later : before ≤ now
  pub failed : IsErrOf result Failed → Rose before now
  pub spent : number ≡ 2 ^ 64 - 1 → IsErrOf result Failed
