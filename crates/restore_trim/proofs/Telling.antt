-- What a refusal tells of a task's files, whatever the disk tells.
use Rattle.std.proofs.Common.{ℕ, ◌≢◌, refl, sym, subst}
use Rattle.samza_model.specs.Files.{checkpoint_file}
use Rattle.topic_log.specs.declared.faults.LogFault.{LogFault}
use Rattle.topic_log.specs.declared.faults.LogFault.TheVariants.{Device, Damaged, Limit, Broken, NoMemory}
use Rattle.restore_trim.specs.declared.faults.OpenFault.{OpenFault}
use Rattle.restore_trim.specs.declared.faults.OpenFault.TheVariants.{Device as OpenDevice, Damaged as OpenDamaged, Shape, Ahead, Limit as OpenLimit, NoMemory as OpenNoMemory}
use Rattle.restore_trim.specs.Refused.{IsOpeningOf, TellsFile, TellsMark}

-- a log's fault tells its file
pub opening_tells : (file : ℕ) (f : LogFault) (e : OpenFault) → IsOpeningOf file f e → f ≢ Limit → TellsFile file e
opening_tells file Device e is fits = subst (λ x. TellsFile file x) (sym is) tt
opening_tells file (Damaged at) e is fits = subst (λ x. TellsFile file x) (sym is) (refl, refl)
opening_tells file Limit e is fits = absurd (fits refl)
opening_tells file Broken e is fits = absurd is
opening_tells file NoMemory e is fits = subst (λ x. TellsFile file x) (sym is) tt

-- and no device's where that isn't told
pub no_device : (file : ℕ) (f : LogFault) (e : OpenFault) → IsOpeningOf file f e → e ≢ OpenDevice → f ≢ Device
no_device file f e is other same = other (subst (λ (g : LogFault). IsOpeningOf file g e) same is)

-- the checkpoints are told by their file
pub tells_mark : (e : OpenFault) → TellsFile checkpoint_file e → TellsMark e
tells_mark OpenDevice told = tt
tells_mark (OpenDamaged input file at) told = told
tells_mark Shape told = tt
tells_mark (Ahead input s wanted held) told = absurd told
tells_mark OpenLimit told = absurd told
tells_mark OpenNoMemory told = tt
