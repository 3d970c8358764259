-- What an image of a task's disk is.
use Rattle.std.specs.Prelude.{ℕ, ◌≡◌, ◌<◌, ◌⊎◌, List, length, Option}
use Rattle.samza_model.specs.declared.marks.KeptMark.{KeptMark}
use Rattle.samza_model.specs.Files.{Image, changelog_file, checkpoint_file, output_file}
use Rattle.samza_model.specs.Histories.{History}
use Rattle.samza_model.specs.Lawful.{Given}
use Rattle.samza_model.specs.Marks.{FromMark, MayBegun}
use Rattle.restore_trim.specs.Standing.{OthersStay}

-- it restores to one of the marks or to the begun one, and the files that are none of the task's are as in this one
pub record FromMarks (k : Given) (t : History) (marks : List KeptMark) (begun : Option ℕ) (old new : Image) : Type 0 where
  pub from : FromMark k t marks (length t.parts) new ⊎ MayBegun k t marks begun new
  pub others : OthersStay (length k.setup.stores) (length k.setup.outputs) old new

-- the task's files are as in this one: the checkpoint file, so many changelogs, and so many outputs' logs
pub record SameOfTask (stores outputs : ℕ) (old new : Image) : Type 0 where
  pub checkpoints : new checkpoint_file ≡ old checkpoint_file
  pub changelogs : (i : ℕ) → i < stores → new (changelog_file i) ≡ old (changelog_file i)
  pub logs : (j : ℕ) → j < outputs → new (output_file j) ≡ old (output_file j)
