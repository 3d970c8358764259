-- What a function returned, seen by a view, is what reading gives, unless memory ran out.
use Rattle.std.specs.Prelude.{◌≡◌, ℕ, Result, Ok, Err}
use Rattle.props_text.specs.declared.faults.PropsFault.{PropsFault}
use Rattle.props_text.specs.declared.faults.PropsFault.TheVariants.{BadEscape, NoMemory}

-- a malformed escape in this line, or want of memory, which is free
abbrev pub FailsProps : {Y : Type 0} → PropsFault → Result Y ℕ → Type 0
FailsProps NoMemory read = Unit {0}
FailsProps (BadEscape line) read = read ≡ Err line

abbrev pub GivesProps : {X Y : Type 0} → (X → Y) → Result X PropsFault → Result Y ℕ → Type 0
GivesProps view (Ok x) read = read ≡ Ok (view x)
GivesProps view (Err e) read = FailsProps e read
