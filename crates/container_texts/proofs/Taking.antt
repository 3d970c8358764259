-- What a sink took of a write.
use Rattle.std.proofs.Common.{ℕ, ◌≡◌, List, ◌++◌, length, Result, Ok, Err, OnOk, OnErr, inl, inr, sym, ◌∙◌, ap, arith}
use Rattle.std.proofs.lemmas.List.{take_all}
use Rattle.samza_model.specs.Counters.{Rose}
use Rattle.edge_io.specs.Received.{TookPart}
use Rattle.container_texts.specs.Printing.{Tried}

pub took_all : (bytes before after : List ℕ) → after ≡ before ++ bytes → TookPart bytes before after
took_all bytes before after is = record { count = length bytes; taken = is ∙ ap (λ (b : List ℕ). before ++ b) (sym (take_all (length bytes) bytes (omega arith))) }

-- whatever the write answered
pub tried : {A E : Type 0} (r : Result A E) (tells : Type 0) (line before after : List ℕ) (faults faults' : ℕ) → OnOk r (tells → after ≡ before ++ line) → OnErr r (tells → TookPart line before after) → OnErr r (Rose faults faults')
    → Tried tells line before after faults faults'
tried (Ok x) tells line before after faults faults' written part rose = record { part = λ told. took_all line before after (written told); whole = inl written }
tried (Err e) tells line before after faults faults' written part rose = record { part = part; whole = inr rose }
