use Rattle.std.proofs.Common.{ℕ, nat_le, ap, ◌∙◌}
use Rattle.samza_model.specs.Requests.{byte_bound, size_of}
use Rattle.slow_model.proofs.Kept.{large}
use Rattle.slow_model.proofs.requests.is_large.Goals as goal

pub returns : goal.returns
returns c = ap (λ (n : ℕ). nat_le byte_bound n) c.size_of.ensures ∙ large (size_of c.args.events.now)
