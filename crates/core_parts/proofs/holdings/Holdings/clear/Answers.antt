use Rattle.std.proofs.Common.{refl, subst}
use Rattle.core_steps.specs.Cores.{IsCleared}
use Rattle.core_steps.specs.Held.{Held}
use Rattle.core_steps.proofs.Laws.{cleared_is}
use Rattle.core_parts.specs.contracts.holdings.Holdings.{the_view}
use Rattle.core_parts.proofs.holdings.Holdings.clear.Goals as goal

pub returns : goal.returns
returns c =
    let new : Held = record { stores = c.flush_all.new.stores.items; unsent = c.clear.new.self.unsent; cleared = c.clear.new.self.cleared } in
    subst (λ (h : Held). IsCleared h new) c.self.view_is
    (cleared_is (the_view c.self.inside) c.flush_all.new.stores.items c.self.inside.outputs c.clear.new.self c.flush_all.ensures.contents c.flush_all.ensures.clean refl c.clear.ensures.cleared)
