use Rattle.std.proofs.Common.{inl, inr, rules}
use Rattle.disk_model.proofs.Lending.{counts_out, counts_same}
use Rattle.std.proofs.lemmas.Bool.{cases_Bool}
use Rattle.disk_model.proofs.handed_out.HandedOut.lend_shelf.Goals as goal

pub returns-clause-lent : goal.returns-clause-lent
returns-clause-lent g c = λ is. (counts_out c.args.self.now.slots c.as_mut_slice.result.now c.one_out.new.slots c.args.name.now c.as_mut_slice.ensures.value (search rules) (c.one_out.ensures.changed is) (c.one_out.ensures.there is)).lent

pub returns-clause-held : goal.returns-clause-held
returns-clause-held g c = elim (cases_Bool c.one_out.result) [
  | inl is ↦ (counts_out c.args.self.now.slots c.as_mut_slice.result.now c.one_out.new.slots c.args.name.now c.as_mut_slice.ensures.value (search rules) (c.one_out.ensures.changed is) (c.one_out.ensures.there is)).counts.held
  | inr is ↦ (counts_same c.args.self.now.slots c.as_mut_slice.result.now c.one_out.new.slots c.args.name.now c.as_mut_slice.ensures.value (search rules) (c.one_out.ensures.refused is)).held
]

pub returns-clause-disks : goal.returns-clause-disks
returns-clause-disks g c = elim (cases_Bool c.one_out.result) [
  | inl is ↦ (counts_out c.args.self.now.slots c.as_mut_slice.result.now c.one_out.new.slots c.args.name.now c.as_mut_slice.ensures.value (search rules) (c.one_out.ensures.changed is) (c.one_out.ensures.there is)).counts.disks
  | inr is ↦ (counts_same c.args.self.now.slots c.as_mut_slice.result.now c.one_out.new.slots c.args.name.now c.as_mut_slice.ensures.value (search rules) (c.one_out.ensures.refused is)).disks
]
