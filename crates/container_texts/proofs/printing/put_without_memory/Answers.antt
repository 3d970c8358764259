use Rattle.std.proofs.Common.{inl, inr, refl, sym, ◌∙◌}
use Rattle.container_texts.specs.declared.faults.RunFault.TheVariants.{Device, NoMemory}
use Rattle.container_texts.proofs.Telling.{device_is, no_device}
use Rattle.container_texts.proofs.printing.put_without_memory.Goals as goal

pub returns-then-is_device-clause-printed : goal.returns-then-is_device-clause-printed
returns-then-is_device-clause-printed g c =
    let e = c.put_line.ensures in
    let device = device_is c.args.stopped.now.fault (sym c.is_device.ensures ∙ c.if-is_device.true) in
    record { cause = Device; cause_is = inl (sym device); status_is = λ other. (e.written other).0; whole = λ other told. (e.written other).1 told; part = e.part }

pub returns-else-is_device-clause-printed : goal.returns-else-is_device-clause-printed
returns-else-is_device-clause-printed g c =
    let e = c.put_line-else-is_device.ensures in
    let other = no_device c.args.stopped.now.fault (sym c.is_device.ensures ∙ c.if-is_device.false) in
    record { cause = NoMemory; cause_is = inr (refl, other); status_is = λ other. (e.written other).0; whole = λ other told. (e.written other).1 told; part = e.part }
