use Rattle.std.proofs.Common.{rules}
use Rattle.disk_model.proofs.Lending.{counts_in}
use Rattle.disk_model.proofs.handed_out.HandedOut.take_shelf.Goals as goal

pub returns-clause-taken : goal.returns-clause-taken
returns-clause-taken g c = (counts_in c.args.self.now.slots c.as_mut_slice.result.now c.one_in.new.slots c.args.name.now c.as_mut_slice.ensures.value (search rules) c.one_in.ensures.changed c.requires.out).taken

pub returns-clause-held : goal.returns-clause-held
returns-clause-held g c = (counts_in c.args.self.now.slots c.as_mut_slice.result.now c.one_in.new.slots c.args.name.now c.as_mut_slice.ensures.value (search rules) c.one_in.ensures.changed c.requires.out).counts.held

pub returns-clause-disks : goal.returns-clause-disks
returns-clause-disks g c = (counts_in c.args.self.now.slots c.as_mut_slice.result.now c.one_in.new.slots c.args.name.now c.as_mut_slice.ensures.value (search rules) c.one_in.ensures.changed c.requires.out).counts.disks
