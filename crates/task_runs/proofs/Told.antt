-- Why a task isn't opened, on an outside that tells its bytes.
use Rattle.std.proofs.Common.{ℕ, ◌≡◌, List, inl, inr, refl, arith}
use Rattle.samza_model.specs.declared.setups.Setup.{Setup}
use Rattle.samza_model.specs.Files.{Image}
use Rattle.restore_trim.specs.declared.faults.OpenFault.{OpenFault}
use Rattle.restore_trim.specs.declared.faults.OpenFault.TheVariants.{Device, Damaged, Shape, Ahead, Limit, NoMemory}
use Rattle.restore_trim.specs.Crashes.{OpeningLeaves}
use Rattle.unit_opening.specs.Inputs.{WhyNoInput}
use Rattle.unit_opening.specs.Refused.{WhyNotOpened}
use Rattle.container_texts.specs.Statuses.{open_status}

no_input_told : (tells : Type 0) (bytes : List ℕ) (partition : ℕ) (e : OpenFault) → tells → WhyNoInput tells bytes partition e → WhyNoInput (Unit {0}) bytes partition e
no_input_told tells bytes partition Device told why = tt
no_input_told tells bytes partition (Damaged input file at) told why = (why.0, why.1, λ _. why.2 told)
no_input_told tells bytes partition Shape told why = absurd why
no_input_told tells bytes partition (Ahead input store wanted held) told why = absurd why
no_input_told tells bytes partition Limit told why = absurd why
no_input_told tells bytes partition NoMemory told why = tt

-- the disk and the shelf tell their bytes
pub opened_told : (tells told : Type 0) (s : Setup) (image : Image) (bytes : List ℕ) (e : OpenFault) → tells → told → WhyNotOpened tells told s image bytes e → WhyNotOpened (Unit {0}) (Unit {0}) s image bytes e
opened_told tells told s image bytes e disk shelf (inl why) = inl (λ _. why disk)
opened_told tells told s image bytes e disk shelf (inr (inl why)) =
    inr (inl (record { mark = why.mark; hold = λ _. why.hold disk; why = no_input_told told bytes _ e shelf why.why }))
opened_told tells told s image bytes e disk shelf (inr (inr p)) = inr (inr (record {
  mark = p.mark;
  hold = λ _. p.hold disk;
  records = p.records;
  read = λ _. p.read shelf;
  next = p.next;
  kept = p.kept;
  honoured = p.honoured;
  past = p.past;
  fault = p.fault;
}))

-- a device's status comes of a device alone
pub device_by : (e : OpenFault) → open_status e ≡ 4 → e ≡ Device
device_by Device four = refl
device_by (Damaged input file at) four = absurd (omega (arith, four))
device_by Shape four = absurd (omega (arith, four))
device_by (Ahead input store wanted held) four = absurd (omega (arith, four))
device_by Limit four = absurd (omega (arith, four))
device_by NoMemory four = absurd (omega (arith, four))

-- where nothing was done
pub nothing_left : (s : Setup) (c : Image) → OpeningLeaves s c c
nothing_left s c = record {
  restores = λ mark contents r. r;
  files = record { kept = λ file frames none has. has; grown = λ mark i frames marked lt has. inl has; lost = λ file none. refl };
  sends = λ j had lt log. log;
  others = λ file other. refl;
}
