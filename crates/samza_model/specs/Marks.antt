-- The marks of a task, what of them stands in its files, and what a crash leaves.
use Rattle.std.specs.Prelude.{ℕ, ◌≡◌, ◌<◌, ◌≤◌, ◌+◌, ◌⊎◌, List, [], ◌∷◌, ◌++◌, length, drop, Option, Some, None, false, slice_get}
use Rattle.samza_model.specs.declared.messages.Record.{Record}
use Rattle.samza_model.specs.declared.checkpoints.Checkpoint.{Checkpoint}
use Rattle.samza_model.specs.declared.marks.KeptMark.{KeptMark}
use Rattle.samza_model.specs.declared.events.Event.{Event}
use Rattle.samza_model.specs.Checkpoint.{StandsFor}
use Rattle.samza_model.specs.Content.{foldrec, sent_at, store_at}
use Rattle.samza_model.specs.Events.{low, flights, first_failure, window_open, state_after}
use Rattle.samza_model.specs.Files.{Image, checkpoint_file, output_file}
use Rattle.samza_model.specs.Histories.{History, all_of, marked, marked_at}
use Rattle.samza_model.specs.Lawful.{Given, start_at}
use Rattle.samza_model.specs.Logs.{HasLog}
use Rattle.samza_model.specs.Restored.{IsNamed, Restores, HoldsContent, id_of, next_at, count_at, store_file}

-- the newest mark's checkpoint
abbrev pub last_mark : List KeptMark → Option Checkpoint
last_mark [] = None
last_mark (m ∷ ms) = m.checkpoint

-- a checkpoint that covers these events: it has the setup's names, the number behind the one before, and each input's low
pub record IsMark (k : Given) (h : List Event) (before mark : Option Checkpoint) : Type 0 where
  pub checkpoint : Checkpoint
  pub is : mark ≡ Some checkpoint
  pub named : IsNamed k.setup checkpoint
  pub id : checkpoint.id ≡ id_of before + 1
  pub next : (p : ℕ) → p < length k.starts
      → next_at mark p ≡ Some (low k.setup (start_at k p) h p)
  pub sound : first_failure h ≡ None
  pub closed : window_open h ≡ false
  pub idle : k.setup.async_commit ≡ false → flights k.setup h ≡ []

-- one mark a part, the newest first, and the opening's behind them
abbrev pub AreMarks : Given → List (List Event) → List KeptMark → Type 0
AreMarks k [] [] = ⊥
AreMarks k [] (m ∷ ms) = ms ≡ []
AreMarks k (p ∷ ps) [] = ⊥
AreMarks k (p ∷ ps) (m ∷ ms) =
    IsMark k (p ++ all_of ps) (last_mark ms) m.checkpoint × AreMarks k ps ms

-- the last record stands for this checkpoint, and the ones before it are these
pub record SpellsLast (mark : Option Checkpoint) (rest : List Record → Type 0) (records : List Record) : Type 0 where
  pub front : List Record
  pub last : Record
  pub split : records ≡ front ++ last ∷ []
  pub checkpoint : Checkpoint
  pub is : mark ≡ Some checkpoint
  pub spells : StandsFor last checkpoint
  pub others : rest front

-- the records stand for the marks since the opening
abbrev pub AreSpelled : List (List Event) → List KeptMark → List Record → Type 0
AreSpelled [] ms records = records ≡ []
AreSpelled (p ∷ ps) [] records = ⊥
AreSpelled (p ∷ ps) (m ∷ ms) records =
    SpellsLast m.checkpoint (λ front. AreSpelled ps ms front) records

-- The checkpoint file has what it had at the opening and the marks since; the first so many records of each changelog make the
-- content at each mark.
pub record HoldMarks (k : Given) (t : History) (marks : List KeptMark) (after : Image) : Type 0 where
  pub log : (had : List Record) → HasLog (t.before checkpoint_file) had
      → (more : List Record) × AreSpelled t.parts marks more × HasLog (after checkpoint_file) (had ++ more)
  pub contents : (n i : ℕ) (m : KeptMark) → slice_get marks n ≡ Some m → i < length k.setup.stores
      → HoldsContent (after (store_file m.checkpoint i)) (count_at m.checkpoint i) (store_at (state_after k.state (all_of (drop n t.parts))).stores i)

-- each output's log has what it had at the opening and what these events sent
abbrev pub HaveSends : Given → Image → Image → List Event → Type 0
HaveSends k before after h = (j : ℕ) (had : List Record) → j < length k.setup.outputs
    → HasLog (before (output_file j)) had
    → HasLog (after (output_file j)) (had ++ sent_at (state_after k.state h).sent j)

-- What stands in a task's files: its marks, each whole changelog makes the content at the last of them, and each output's log has
-- what was sent up to it.
pub record Files (k : Given) (t : History) (marks : List KeptMark) (after : Image) : Type 0 where
  pub hold : HoldMarks k t marks after
  pub all : (i : ℕ) (records : List Record) → i < length k.setup.stores
      → HasLog (after (store_file (last_mark marks) i)) records
      → foldrec records ≡ store_at (state_after k.state (marked t)).stores i
  pub sends : HaveSends k t.before after (marked t)

-- the log begins with these records
pub record BeginsWith (bytes : List ℕ) (front : List Record) : Type 0 where
  pub more : List Record
  pub has : HasLog bytes (front ++ more)

-- each output's log begins with what it had at the opening and what these events sent
abbrev pub BeginWithSends : Given → Image → Image → List Event → Type 0
BeginWithSends k before after h = (j : ℕ) (had : List Record) → j < length k.setup.outputs
    → HasLog (before (output_file j)) had
    → BeginsWith (after (output_file j)) (had ++ sent_at (state_after k.state h).sent j)

-- the image restores to this checkpoint with the content behind these events, and each output's log has what they sent
pub record RestoresTo (k : Given) (before c : Image) (mark : Option Checkpoint) (h : List Event) : Type 0 where
  pub restores : Restores k.setup c mark (state_after k.state h).stores
  pub sends : BeginWithSends k before c h

-- the image restores to one of the newest n + 1 marks
pub record FromMark (k : Given) (t : History) (marks : List KeptMark) (n : ℕ) (c : Image) : Type 0 where
  pub place : ℕ
  pub mark : KeptMark
  pub newer : place ≤ n
  pub is : slice_get marks place ≡ Some mark
  pub to : RestoresTo k t.before c mark.checkpoint (all_of (drop place t.parts))

-- the image restores to a mark that was begun when there were so many events since the last one
pub record FromBegun (k : Given) (t : History) (marks : List KeptMark) (b : ℕ) (c : Image) : Type 0 where
  pub made : Checkpoint
  pub id : made.id ≡ id_of (last_mark marks) + 1
  pub next : (p : ℕ) → p < length k.starts
      → next_at (Some made) p ≡ Some (low k.setup (start_at k p) (marked_at b t) p)
  pub to : RestoresTo k t.before c (Some made) (marked_at b t)

abbrev pub MayBegun : Given → History → List KeptMark → Option ℕ → Image → Type 0
MayBegun k t marks None c = ⊥
MayBegun k t marks (Some b) c = FromBegun k t marks b c

-- every image since a mark restores to that mark or a later one, or to the begun one; each now to the last or the begun one
pub record ImagesStand {D : Type 0} (number : D → ℕ) (images : D → Image → Type 0) (since : D → ℕ → Image → Type 0) (disk : D) (k : Given) (t : History) (marks : List KeptMark) (begun : Option ℕ) : Type 0 where
  pub each : (n : ℕ) (m : KeptMark) → slice_get marks n ≡ Some m
      → (m.at ≤ number disk) × ((c : Image) → since disk m.at c → FromMark k t marks n c ⊎ MayBegun k t marks begun c)
  pub here : (c : Image) → images disk c → FromMark k t marks 0 c ⊎ MayBegun k t marks begun c
