-- The file of a first checkpoint ends with it.
use Rattle.std.proofs.Common.{ℕ, ◌≡◌, List, [], ◌∷◌, Result, Ok, Err, IfOk, refl, subst}
use Rattle.samza_model.specs.declared.messages.Record.{Record}
use Rattle.samza_model.specs.declared.checkpoints.Checkpoint.{Checkpoint}
use Rattle.samza_model.specs.Checkpoint.{Spells}
use Rattle.samza_model.specs.Logs.{HasFrames}
use Rattle.samza_model.specs.Restored.{EndsWith}

first_ends : (c : Checkpoint) (r : Record) → Spells c r → c.id ≡ 1 → EndsWith ((r ∷ []) ∷ []) c
first_ends c r spells first = record { before = []; last = r; split = refl; spells = spells; id = first }

pub file_ends : {E : Type 0} (made : Result (List ℕ) E) (frames : List (List Record)) (c : Checkpoint) (r : Record) → frames ≡ (r ∷ []) ∷ [] → Spells c r
    → IfOk made (λ bytes. HasFrames bytes frames) → IfOk made (λ bytes. c.id ≡ 1 → (fs : List (List Record)) × HasFrames bytes fs × EndsWith fs c)
file_ends (Ok bytes) frames c r are spells has = λ first. ((r ∷ []) ∷ [], subst (λ (fs : List (List Record)). HasFrames bytes fs) are has, first_ends c r spells first)
file_ends (Err e) frames c r are spells has = has
