use Rattle.checkpoint_log.proofs.Sizes.{record_within}
use Rattle.checkpoint_log.proofs.encoding.encode_checkpoint.Goals as goal

pub returns-clause-limits : goal.returns-clause-limits
returns-clause-limits c = rw (c.in_ok-key_of.ensures, c.in_ok-value_of.ensures.spelled) (record_within c.args.c.now c.requires)
