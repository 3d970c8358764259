-- The callbacks in flight.
use Rattle.std.specs.Prelude.{ℕ, ◌-◌, ◌==◌, List, [], ◌∷◌, length, take, map, if◌then◌else◌}
use Rattle.samza_model.specs.declared.messages.Envelope.{Envelope}
use Rattle.samza_model.specs.declared.flights.Flight.{Flight}
use Rattle.callback_manager.specs.declared.callbacks.Entry.{Entry}

-- those in flight in the order in which they began, the next one's number, and how many there may be
pub record CallbacksValue : Type 0 where
  pub flights : List Flight
  pub next : ℕ
  pub limit : ℕ

abbrev pub flight : ℕ → ℕ → Envelope → ℕ → Flight
flight n p e t = record { number = n; input = p; envelope = e; delivered = t; answers = [] }

abbrev pub entry_of : Flight → Entry
entry_of f = record { input = f.input; envelope = f.envelope; answers = f.answers; delivered = f.delivered }

abbrev pub numbers : List Flight → List ℕ
numbers fs = map (λ (f : Flight). f.number) fs

abbrev pub with_less_answers : Flight → Flight
with_less_answers f = record { number = f.number; input = f.input; envelope = f.envelope; delivered = f.delivered; answers = take (length f.answers - 1) f.answers }

-- the one with this number loses its last answer
abbrev pub unanswered : ℕ → List Flight → List Flight
unanswered n [] = []
unanswered n (f ∷ fs) = if f.number == n then with_less_answers f ∷ fs else f ∷ unanswered n fs
