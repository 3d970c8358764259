use Rattle.samza_container.proofs.Exact.{one_stop}
use Rattle.samza_container.proofs.laws.stops_with_one_line.Goals as goal

pub returns : goal.returns
returns c = λ words f e e' task inputs is alone device memory device' memory' small small' why why'. one_stop f alone e e' device memory device' memory' small small' task inputs words is why why'
