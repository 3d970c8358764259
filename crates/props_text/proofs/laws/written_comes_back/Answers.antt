use Rattle.props_text.proofs.Trip.{comes_back}
use Rattle.props_text.proofs.laws.written_comes_back.Goals as goal

pub returns : goal.returns
returns c = comes_back
