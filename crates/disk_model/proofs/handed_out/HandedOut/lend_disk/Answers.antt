use Rattle.std.proofs.Common.{rules}
use Rattle.disk_model.proofs.Lending.{lends}
use Rattle.disk_model.proofs.handed_out.HandedOut.lend_disk.Goals as goal

pub returns-clause-gone : goal.returns-clause-gone
returns-clause-gone g c = (lends c.args.self.now.slots c.as_mut_slice.result.now c.take_held.new.slots c.args.name.now c.as_mut_slice.ensures.value (search rules) c.take_held.ensures.changed c.take_held.ensures.none).holds.here

pub returns-clause-elsewhere : goal.returns-clause-elsewhere
returns-clause-elsewhere g c = (lends c.args.self.now.slots c.as_mut_slice.result.now c.take_held.new.slots c.args.name.now c.as_mut_slice.ensures.value (search rules) c.take_held.ensures.changed c.take_held.ensures.none).holds.elsewhere

pub returns-clause-lent : goal.returns-clause-lent
returns-clause-lent g c = λ some. (lends c.args.self.now.slots c.as_mut_slice.result.now c.take_held.new.slots c.args.name.now c.as_mut_slice.ensures.value (search rules) c.take_held.ensures.changed c.take_held.ensures.none).lent (search rules)

pub returns-clause-refused : goal.returns-clause-refused
returns-clause-refused g c = λ none. (lends c.args.self.now.slots c.as_mut_slice.result.now c.take_held.new.slots c.args.name.now c.as_mut_slice.ensures.value (search rules) c.take_held.ensures.changed c.take_held.ensures.none).refused (search rules)

pub returns-clause-shelves : goal.returns-clause-shelves
returns-clause-shelves g c = (lends c.args.self.now.slots c.as_mut_slice.result.now c.take_held.new.slots c.args.name.now c.as_mut_slice.ensures.value (search rules) c.take_held.ensures.changed c.take_held.ensures.none).shelves
