use Rattle.std.proofs.Common.{rules}
use Rattle.disk_model.proofs.Lending.{takes}
use Rattle.disk_model.proofs.handed_out.HandedOut.take_disk.Goals as goal

pub returns-clause-held : goal.returns-clause-held
returns-clause-held g c = (takes c.args.self.now.slots c.as_mut_slice.result.now c.put_held.new.slots c.args.name.now c.as_mut_slice.ensures.value (search rules) c.args.value c.put_held.ensures.changed c.requires.out).holds.here

pub returns-clause-elsewhere : goal.returns-clause-elsewhere
returns-clause-elsewhere g c = (takes c.args.self.now.slots c.as_mut_slice.result.now c.put_held.new.slots c.args.name.now c.as_mut_slice.ensures.value (search rules) c.args.value c.put_held.ensures.changed c.requires.out).holds.elsewhere

pub returns-clause-taken : goal.returns-clause-taken
returns-clause-taken g c = (takes c.args.self.now.slots c.as_mut_slice.result.now c.put_held.new.slots c.args.name.now c.as_mut_slice.ensures.value (search rules) c.args.value c.put_held.ensures.changed c.requires.out).taken

pub returns-clause-shelves : goal.returns-clause-shelves
returns-clause-shelves g c = (takes c.args.self.now.slots c.as_mut_slice.result.now c.put_held.new.slots c.args.name.now c.as_mut_slice.ensures.value (search rules) c.args.value c.put_held.ensures.changed c.requires.out).shelves
