use Rattle.std.proofs.Common.{◌≡◌, ◌++◌, drop}
use Rattle.std.specs.List.{flat_map}
use Rattle.container_texts.specs.ReportText.{store_line}
use Rattle.container_texts.proofs.reports.put_stores.Given as goal

abbrev pub invariant-loop-store : goal.invariant-loop-store
invariant-loop-store l = l.text ++ flat_map store_line (drop l.store-index l.stores) ≡ l.fn.text ++ flat_map store_line l.stores
