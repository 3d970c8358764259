-- The faults of calls that read.
use Rattle.topic_log.specs.declared.faults.LogFault.{LogFault}
use Rattle.topic_log.specs.declared.faults.LogFault.TheVariants.{Device, Damaged, Limit, Broken, NoMemory}

-- the device, or want of memory
abbrev pub IsReadFault : LogFault → Type 0
IsReadFault Device = Unit {0}
IsReadFault (Damaged at) = ⊥
IsReadFault Limit = ⊥
IsReadFault Broken = ⊥
IsReadFault NoMemory = Unit {0}

-- the same, or damage
abbrev pub IsWalkFault : LogFault → Type 0
IsWalkFault Device = Unit {0}
IsWalkFault (Damaged at) = Unit {0}
IsWalkFault Limit = ⊥
IsWalkFault Broken = ⊥
IsWalkFault NoMemory = Unit {0}

-- want of memory, or damage
abbrev pub IsListFault : LogFault → Type 0
IsListFault Device = ⊥
IsListFault (Damaged at) = Unit {0}
IsListFault Limit = ⊥
IsListFault Broken = ⊥
IsListFault NoMemory = Unit {0}
