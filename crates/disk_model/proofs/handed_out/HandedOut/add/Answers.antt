use Rattle.disk_model.proofs.Lending.{adds}
use Rattle.disk_model.proofs.handed_out.HandedOut.add.Goals as goal

pub returns-clause-held : goal.returns-clause-held
returns-clause-held g c = (adds c.args.self.now.slots.items _ c.args.name.now c.in_ok-name.name c.args.value c.in_ok-push.ensures.items c.requires.not_held c.requires.not_out c.in_ok-name.ensures).holds.here

pub returns-clause-elsewhere : goal.returns-clause-elsewhere
returns-clause-elsewhere g c = (adds c.args.self.now.slots.items _ c.args.name.now c.in_ok-name.name c.args.value c.in_ok-push.ensures.items c.requires.not_held c.requires.not_out c.in_ok-name.ensures).holds.elsewhere

pub returns-clause-disks : goal.returns-clause-disks
returns-clause-disks g c = (adds c.args.self.now.slots.items _ c.args.name.now c.in_ok-name.name c.args.value c.in_ok-push.ensures.items c.requires.not_held c.requires.not_out c.in_ok-name.ensures).disks

pub returns-clause-shelves : goal.returns-clause-shelves
returns-clause-shelves g c = (adds c.args.self.now.slots.items _ c.args.name.now c.in_ok-name.name c.args.value c.in_ok-push.ensures.items c.requires.not_held c.requires.not_out c.in_ok-name.ensures).shelves
