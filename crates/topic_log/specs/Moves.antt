-- What a run of device calls leaves.
use Rattle.std.specs.Prelude.{ℕ, ◌≡◌, take}
use Rattle.samza_model.specs.Files.{Image}
use Rattle.disk_model.specs.Images.{SameElsewhere, Follows, Keeps, LeavesOnly}

-- the same image
abbrev pub Same : Image → Image → Type 0
Same old new = new ≡ old

-- the first n bytes of the file are the same, and so are the other files
pub record KeepsFront (file n : ℕ) (old new : Image) : Type 0 where
  pub front : take n (new file) ≡ take n (old file)
  pub elsewhere : SameElsewhere file old new

-- At each moment and now the images are old ones after a step, and what a read gives is one of them.
pub record Moves {D : Type 0} (reads : D → Image) (number : D → ℕ) (images : D → Image → Type 0) (since : D → ℕ → Image → Type 0) (old new : D) (step : Image → Image → Type 0) : Type 0 where
  pub moment : LeavesOnly number images since old new step
  pub now : Follows step (images old) (images new)
  pub read : images new (reads new)

-- nothing but reads was called
pub record Rests {D : Type 0} (reads : D → Image) (number : D → ℕ) (images : D → Image → Type 0) (since : D → ℕ → Image → Type 0) (old new : D) : Type 0 where
  pub moves : Moves reads number images since old new Same
  pub reads_are : reads new ≡ reads old
  pub none_lost : Keeps (images new) (images old)
