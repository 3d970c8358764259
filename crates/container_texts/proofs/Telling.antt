-- What is told of a fault where there is no memory for its line.
use Rattle.std.proofs.Common.{◌≡◌, ◌≢◌, true, false, refl, sym, ◌∙◌, ap, true≢false}
use Rattle.container_texts.specs.declared.faults.RunFault.{RunFault}
use Rattle.container_texts.specs.declared.faults.RunFault.TheVariants.{Device}
use Rattle.container_texts.specs.Printing.{is_device}

pub device_is : (e : RunFault) → is_device e ≡ true → e ≡ Device
device_is Device is = refl
device_is e is = absurd (true≢false (sym is))

pub no_device : (e : RunFault) → is_device e ≡ false → e ≢ Device
no_device e is device = true≢false (sym (ap is_device device) ∙ is)
