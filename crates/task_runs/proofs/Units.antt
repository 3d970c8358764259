-- A list of one unit.
use Rattle.std.proofs.Common.{ℕ, ◌≡◌, ◌<◌, List, [], ◌∷◌, length, get_or, is_some, true, Some, refl, sym, ◌∙◌, ap, subst, arith}
use Rattle.samza_model.specs.Files.{Image}
use Rattle.unit_steps.specs.Units.{UnitValue}
use Rattle.run_loop.specs.Stops.{WhyStopped}
use Rattle.run_loop.specs.declared.stops.Stop.{Stop}
use Rattle.run_loop.specs.declared.stops.Stop.TheVariants.{Failed}

pub only_one : {X : Type 0} (xs : List X) → length xs ≡ 1 → (x : X) × (xs ≡ x ∷ [])
only_one [] one = absurd (omega (arith, one))
only_one (x ∷ []) one = (x, refl)
only_one (x ∷ y ∷ ys) one = absurd (omega (arith, one))

pub first_is : {X : Type 0} (xs : List X) (x y : X) → xs ≡ x ∷ [] → y ≡ get_or xs 0 y → x ≡ y
first_is xs x y is at = sym (at ∙ ap (λ l. get_or l 0 y) is)

-- behind a failure the unit has it
pub has_failure : {P D S : Type 0} (tells : Type 0) (reads : D → Image) (faults : D → ℕ) (old new : UnitValue P D S) (stop : Stop) (place : ℕ) → WhyStopped tells reads faults old new stop → stop ≡ Failed place → is_some new.core.failed ≡ true
has_failure tells reads faults old new stop place why is =
    let failed = subst (λ s. WhyStopped tells reads faults old new s) is why in
    ap is_some failed.1.is
