-- A frame in memory.
use Rattle.std.proofs.Common.{ℕ, ◌≡◌, ◌-◌, ◌≤◌, List, [], ◌∷◌, ◌++◌, length, take, sym, ◌∙◌, ap, subst, arith}
use Rattle.std.proofs.lemmas.List.{length-append}
use Rattle.std.proofs.Math.Seq.{take-append_seam}
use Rattle.samza_model.specs.declared.messages.Record.{Record}
use Rattle.samza_model.specs.Frames.{frame_bytes}
use Rattle.log_frame.specs.Frame.{FrameView, IsFrame, IsFrameFor, IsStored}
use Rattle.log_frame.proofs.Laws.{frame_small}

-- all but the gate
front_is : (xs : List ℕ) (gate : ℕ) (all : List ℕ) → all ≡ xs ++ gate ∷ [] → take (length all - 1) all ≡ xs
front_is xs gate all is =
    let len : length all - 1 ≡ length xs = omega (arith, ap length is, length-append xs (gate ∷ [])) in
    ap (λ (k : ℕ). take k all) len ∙ ap (take (length xs)) is ∙ take-append_seam xs (gate ∷ [])

-- the frame of these records
pub is_frame : (gated : List ℕ) (count : ℕ) (records : List Record) → IsFrameFor gated count records → IsFrame (record { bytes = take (length gated - 1) gated; count = count }) records
is_frame gated count records h = record { frameable = h.frameable; bytes_are = front_is (frame_bytes records) 0x43 gated h.gated_are; count_is = h.count_is }

pub framed : (gated : List ℕ) (count : ℕ) (frame : FrameView) → record { bytes = take (length gated - 1) gated; count = count } ≡ frame → IsStored gated count → (records : List Record) × IsFrame frame records
framed gated count frame is h = subst (λ (f : FrameView). (records : List Record) × IsFrame f records) is (h.records, is_frame gated count h.records h.is)

pub short : (frame : FrameView) → (records : List Record) × IsFrame frame records → length frame.bytes ≤ 272662536
short frame h = omega (arith, ap length h.1.bytes_are, frame_small h.0 h.1.frameable)

pub some : (frame : FrameView) → (records : List Record) × IsFrame frame records → 1 ≤ frame.count
some frame h = omega (arith, h.1.count_is, h.1.frameable.some)

pub few : (frame : FrameView) → (records : List Record) × IsFrame frame records → frame.count ≤ 4096
few frame h = omega (arith, h.1.count_is, h.1.frameable.few)

pub regated : (gated : List ℕ) (count : ℕ) (frame : FrameView) → record { bytes = take (length gated - 1) gated; count = count } ≡ frame → IsStored gated count → gated ≡ frame.bytes ++ 0x43 ∷ []
regated gated count frame is h =
    let f = front_is (frame_bytes h.records) 0x43 gated h.is.gated_are in
    h.is.gated_are ∙ ap (λ (l : List ℕ). l ++ 0x43 ∷ []) (sym f ∙ ap (λ (v : FrameView). v.bytes) is)

pub short_as : (gated : List ℕ) (count : ℕ) (bytes : List ℕ) → take (length gated - 1) gated ≡ bytes → IsStored gated count → length bytes ≤ 272662536
short_as gated count bytes is h = subst (λ (b : List ℕ). length b ≤ 272662536) is (short (record { bytes = take (length gated - 1) gated; count = count }) (h.records, is_frame gated count h.records h.is))
