-- What happened to a task since it was opened, by parts between its commits.
use Rattle.std.specs.Prelude.{ℕ, List, [], ◌∷◌, ◌++◌}
use Rattle.samza_model.specs.declared.events.Event.{Event}
use Rattle.samza_model.specs.Events.{older}
use Rattle.samza_model.specs.Files.{Image}
use Rattle.samza_model.specs.Requests.{IsPrompt}

-- the files at the opening, the events since the last commit, and those between commits, each the newest first
pub record History : Type 0 where
  pub before : Image
  pub since : List Event
  pub parts : List (List Event)

abbrev pub all_of : List (List Event) → List Event
all_of [] = []
all_of (p ∷ ps) = p ++ all_of ps

-- all events
abbrev pub whole : History → List Event
whole t = t.since ++ all_of t.parts

-- those that are behind the last mark
abbrev pub marked : History → List Event
marked t = all_of t.parts

-- those that are behind a mark that was begun when there were so many since the last one
abbrev pub marked_at : ℕ → History → List Event
marked_at b t = older b t.since ++ all_of t.parts

abbrev pub with_event : Event → History → History
with_event e t = record { before = t.before; since = e ∷ t.since; parts = t.parts }

abbrev pub with_mark : History → History
with_mark t = record { before = t.before; since = []; parts = t.since ∷ t.parts }

-- no message was delivered once the events of its part asked for a mark
abbrev pub ArePrompt : List (List Event) → Type 0
ArePrompt [] = Unit {0}
ArePrompt (p ∷ ps) = IsPrompt p × ArePrompt ps
