-- The word of the folder that was entered.
use Rattle.std.specs.Prelude.{ℕ, List, Option}
use Rattle.file_host.specs.declared.entered.Entered.{Entered}

abbrev pub entered_word : Entered → Option (List ℕ)
entered_word e = e.word
