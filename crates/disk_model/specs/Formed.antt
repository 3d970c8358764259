-- A file's size lies between its least and its greatest one, so what a read gives is an image.
use Rattle.std.specs.Prelude.{ℕ, ◌≡◌, ◌+◌, ◌-◌, ◌≤◌, ◌==◌, if◌then◌else◌, true, false, min, List, [], ◌∷◌, ◌++◌, length, take, drop, refl}
use Rattle.std.proofs.Common.{arith, length-append, length-take, length-drop, ap}
use Rattle.std.proofs.lemmas.List.{take_all}
use Rattle.disk_model.specs.Cells.{put_at}
use Rattle.disk_model.specs.FileStates.{FileState, IsFileImage, after, at_rest, after_all, with_cut, with_written}
use Rattle.disk_model.specs.HeldBytes.{HeldBytes}
use Rattle.disk_model.specs.TraceWords.{calls_noted, now_of, then_of}
use Rattle.disk_model.specs.Traces.{bytes_at, file_state}
use Rattle.disk_model.specs.declared.traces.Entry.{Entry}
use Rattle.disk_model.specs.declared.traces.Entry.TheVariants.{Quiet, Shortened, Synced, Wrote}
use Rattle.disk_model.specs.declared.traces.Trace.{Trace}

pub record Formed (s : FileState) : Type 0 where
  pub low : s.least ≤ length s.now
  pub high : length s.now ≤ s.greatest

pub length-put_at : (at : ℕ) (b c : List ℕ) → length (put_at at b c) ≡ min at (length c) + length b + (length c - (at + length b))
length-put_at at b c =
    omega (arith, length-append (take at c ++ b) (drop (at + length b) c), length-append (take at c) b, length-take at c, length-drop (at + length b) c)

formed_written : (at : ℕ) (b : List ℕ) (s : FileState) → Formed s → Formed (with_written at b s)
formed_written at b s h =
    let n = length-put_at at b s.now in
    let low = h.low in
    let high = h.high in
    record { low = omega arith; high = omega arith }

formed_cut : (size : ℕ) (s : FileState) → Formed s → Formed (with_cut size s)
formed_cut size s h =
    let n = length-take size s.now in
    let low = h.low in
    let high = h.high in
    record { low = omega arith; high = omega arith }

pub formed_rest : (b : List ℕ) → Formed (at_rest b)
formed_rest b = record { low = omega arith; high = omega arith }

formed_after : (w : List ℕ) (f : ℕ) (e : Entry) (s : FileState) → Formed s → Formed (after w f e s)
formed_after w f Quiet s h = h
formed_after w f (Wrote file at from len) s h =
    elim (file == f) as (λ v. Formed (if v then with_written at (take len (drop from w)) s else s)) [
      | true ↦ formed_written at (take len (drop from w)) s h
      | false ↦ h
    ]
formed_after w f (Shortened file size) s h =
    elim (file == f) as (λ v. Formed (if v then with_cut size s else s)) [ true ↦ formed_cut size s h | false ↦ h ]
formed_after w f (Synced file) s h =
    elim (file == f) as (λ v. Formed (if v then at_rest s.now else s)) [ true ↦ formed_rest s.now | false ↦ h ]

formed_replayed : (es : List Entry) (w : List ℕ) (f : ℕ) (s : FileState) → Formed s → Formed (after_all es w f s)
formed_replayed [] w f s h = h
formed_replayed (e ∷ es) w f s h = formed_replayed es w f (after w f e s) (formed_after w f e s h)

pub formed : (start : List HeldBytes) (noted : List Entry) (w : List ℕ) (f : ℕ) → Formed (file_state start noted w f)
formed start noted w f = formed_replayed noted w f (at_rest (bytes_at start f)) (formed_rest (bytes_at start f))

-- what a read gives is an image
pub now_is_image : (s : FileState) → Formed s → IsFileImage s s.now
now_is_image s h = record { no_shorter = h.low; no_longer = h.high; same = λ i lt free. refl }

-- the files after as many calls as there are entries, or more
pub then_now : (t : Trace) (j f : ℕ) → calls_noted t ≤ j → then_of t j f ≡ now_of t f
then_now t j f le = ap (λ (es : List Entry). file_state t.start.items es t.written.items f) (take_all j t.noted.items le)
