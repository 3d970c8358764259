-- The records of a file that is read at once.
use Rattle.std.proofs.Common.{ℕ, ◌≡◌, ◌+◌, List, [], ◌∷◌, ◌++◌, length, drop, sym, ◌∙◌, ap, arith, append_assoc, length-append}
use Rattle.std.specs.List.{AllByRecursion}
use Rattle.std.proofs.lemmas.List.{drop_at}
use Rattle.samza_model.specs.declared.messages.Record.{Record}
use Rattle.samza_model.specs.Frames.{frame_bytes}
use Rattle.samza_model.specs.Limits.{IsFrameable}
use Rattle.samza_model.specs.Logs.{spelled, joined}
use Rattle.topic_log.specs.Lists.{HasRecords}
use Rattle.topic_log.proofs.Spelling.{spelled-push, joined-push, all_append}

-- the records of the frames up to a gate
pub record ListedTo (bytes : List ℕ) (gate : ℕ) (records : List Record) : Type 0 where
  pub frames : List (List Record)
  pub frameable : AllByRecursion IsFrameable frames
  pub gate_is : gate ≡ length (spelled frames)
  pub front : bytes ≡ spelled frames ++ drop gate bytes
  pub records_are : records ≡ joined frames

pub listed_more : (bytes : List ℕ) (gate used : ℕ) (records more : List Record) → ListedTo bytes gate records → HasRecords (drop gate bytes) more used → ListedTo bytes (gate + (1 + used)) (records ++ more)
listed_more bytes gate used records more so_far batch =
    let frames = so_far.frames ++ more ∷ [] in
    let next : gate + (1 + used) ≡ length (spelled frames) = omega (arith, so_far.gate_is, batch.used_is, ap length (spelled-push so_far.frames more), length-append (spelled so_far.frames) (0x4F ∷ frame_bytes more)) in
    let split : bytes ≡ spelled frames ++ batch.rest =
    so_far.front ∙ ap (λ (l : List ℕ). spelled so_far.frames ++ l) batch.split
    ∙ sym (append_assoc (spelled so_far.frames) (0x4F ∷ frame_bytes more) batch.rest)
    ∙ ap (λ (l : List ℕ). l ++ batch.rest) (sym (spelled-push so_far.frames more)) in
    let behind : drop (gate + (1 + used)) bytes ≡ batch.rest = ap (λ (l : List ℕ). drop (gate + (1 + used)) l) split ∙ drop_at (spelled frames) batch.rest (gate + (1 + used)) (sym next) in
    record {
      frames = frames;
      frameable = all_append IsFrameable so_far.frames (more ∷ []) so_far.frameable (batch.fits, tt);
      gate_is = next;
      front = split ∙ ap (λ (l : List ℕ). spelled frames ++ l) (sym behind);
      records_are = ap (λ (l : List Record). l ++ more) so_far.records_are ∙ sym (joined-push so_far.frames more);
    }
