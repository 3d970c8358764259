-- What the text of a configuration says.
use Rattle.std.specs.Prelude.{ℕ, ◌≡◌, ◌^◌, cond, nat_le, List, length, Result, Ok, Err}
use Rattle.props_text.specs.Pairs.{Props, props_of}
use Rattle.job_config.specs.declared.config.JobConfig.{JobConfig}
use Rattle.job_config.specs.Asking.{Fault}
use Rattle.job_config.specs.Table.{config_of}
use Rattle.container_texts.specs.declared.faults.RunFault.{RunFault}
use Rattle.container_texts.specs.declared.faults.RunFault.TheVariants.{TextLimit, BadEscape, BadKey, NoMemory}

-- the first bad key, if any
abbrev pub of_keys : Result JobConfig Fault → Result JobConfig RunFault
of_keys (Ok config) = Ok config
of_keys (Err bad) = Err (BadKey bad.0 bad.1)

-- the first malformed escape, if any
abbrev pub of_pairs : Result Props ℕ → Result JobConfig RunFault
of_pairs (Ok pairs) = of_keys (config_of pairs)
of_pairs (Err line) = Err (BadEscape line)

-- The configuration that a text says, or the first thing that is wrong with it: its length, an escape, a key. It has at
-- most 1,048,576 bytes.
unfoldable pub said_by : List ℕ → Result JobConfig RunFault
said_by text = cond (nat_le (length text) (2 ^ 20)) (of_pairs (props_of text)) (Err TextLimit)

-- what was answered is what is said, but for want of memory, which is free
abbrev pub IsRefusal : {A : Type 0} → RunFault → Result A RunFault → Type 0
IsRefusal NoMemory said = Unit {0}
IsRefusal fault said = said ≡ Err fault

abbrev pub IsAnswer : {A : Type 0} → Result A RunFault → Result A RunFault → Type 0
IsAnswer (Ok x) said = said ≡ Ok x
IsAnswer (Err fault) said = IsRefusal fault said
