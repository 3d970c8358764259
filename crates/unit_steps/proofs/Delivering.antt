-- A message that is delivered, as the unit's event.
use Rattle.std.proofs.Common.{ℕ, ◌≡◌, ◌<◌, List, [], ◌∷◌, length, Option, Some, false, refl, sym, ◌∙◌, ap, subst, slice_get, arith}
use Rattle.samza_model.specs.declared.messages.Record.{Record}
use Rattle.samza_model.specs.Files.{Image}
use Rattle.samza_model.specs.Meaning.{Meaning}
use Rattle.samza_model.specs.Requests.{due_by}
use Rattle.core_steps.specs.Cores.{CoreValue, IsCore, Adds as CoreAdds, IsBody, next_at, deliver_event}
use Rattle.unit_logs.specs.Standing.{IsSetUp}
use Rattle.unit_steps.specs.Units.{UnitValue, Adds}
use Rattle.unit_steps.proofs.Adding.{adds, with_core}
use Rattle.unit_steps.proofs.Keeping.{body_is, one_start}

pub delivered : {P D S : Type 0} (meaning : P → Meaning) (tells : Type 0) (reads : D → Image) (number : D → ℕ) (images : D → Image → Type 0) (since : D → ℕ → Image → Type 0)
    (old : UnitValue P D S) (core : CoreValue) (p : ℕ) (m : Record) → IsCore old.core → IsSetUp old.core.setup → p < length old.core.starts
    → slice_get old.messages (next_at old.core p) ≡ Some m → CoreAdds (IsBody p (next_at old.core p) m) old.core core (deliver_event old.core p m)
    → (old.core.setup.async_commit ≡ false → due_by old.core.since ≡ false)
    → Adds meaning tells reads number images since old (with_core old core) (deliver_event old.core p m)
delivered meaning tells reads number images since old core p m is_core set_up within at a prompt =
    let first : p ≡ 0 = omega (arith, within, one_start old.core is_core set_up) in
    adds meaning tells reads number images since old core (deliver_event old.core p m) (IsBody p (next_at old.core p) m) a
    (λ o job parts. subst (λ q. IsBody q (next_at old.core p) m o old.core) (sym first) (body_is old.messages o old.core (next_at old.core p) m at parts))
    prompt
