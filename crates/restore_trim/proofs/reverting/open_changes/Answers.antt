use Rattle.std.proofs.Common.{ap}
use Rattle.samza_model.specs.Files.{Image, changelog_file}
use Rattle.restore_trim.proofs.Telling.{no_device}
use Rattle.restore_trim.proofs.reverting.open_changes.Goals as goal

pub returns-in-Err-clause-refused : goal.returns-in-Err-clause-refused
returns-in-Err-clause-refused g c = λ other told f ne.
    ap (λ (i : Image). i f) (c.in-Err.ensures.untouched (no_device (changelog_file c.args.store) c.in-Err.fault c.opening.result c.opening.ensures other) told).0
