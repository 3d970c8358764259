use Rattle.changelog.proofs.Replaying.{fold_of_read}
use Rattle.changelog.proofs.folds.Fold.into_parts.Goals as goal

pub returns : goal.returns
returns c = λ count records h. fold_of_read count records c.args.self c.in_ok-keys.keys.items h c.in_ok-keys.ensures
