-- What a commit that answered Device leaves of the marks in a task's files.
use Rattle.std.specs.Prelude.{ℕ, ◌⊎◌, List, [], ◌∷◌}
use Rattle.samza_model.specs.declared.marks.KeptMark.{KeptMark}
use Rattle.samza_model.specs.Events.{older}
use Rattle.samza_model.specs.Files.{Image}
use Rattle.samza_model.specs.Histories.{History, marked, marked_at}
use Rattle.samza_model.specs.Lawful.{Given}
use Rattle.samza_model.specs.Marks.{BeginWithSends, HoldMarks, IsMark, last_mark}

-- the events up to a mark that was begun when there were so many since the last one
abbrev pub up_to : ℕ → History → History
up_to b t = record { before = t.before; since = []; parts = older b t.since ∷ t.parts }

-- the files hold the marks, and each output's log begins with what was sent up to the last of them
pub record HoldAll (k : Given) (t : History) (marks : List KeptMark) (c : Image) : Type 0 where
  pub hold : HoldMarks k t marks c
  pub sends : BeginWithSends k t.before c (marked t)

-- they hold one mark more: the one that was begun
pub record HoldOneMore (k : Given) (t : History) (marks : List KeptMark) (b : ℕ) (c : Image) : Type 0 where
  pub mark : KeptMark
  pub is_mark : IsMark k (marked_at b t) (last_mark marks) mark.checkpoint
  pub hold : HoldAll k (up_to b t) (mark ∷ marks) c

-- they hold the marks, or the begun one more
abbrev pub IsLeft : Given → History → List KeptMark → ℕ → Image → Type 0
IsLeft k t marks b c = HoldAll k t marks c ⊎ HoldOneMore k t marks b c
