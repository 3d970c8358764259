-- A file that is walked from gate to gate.
use Rattle.std.proofs.Common.{ℕ, ◌≡◌, ◌+◌, ◌-◌, ◌<◌, ◌≤◌, List, ◌∷◌, ◌++◌, length, take, drop, get_or, Result, Ok, Err, refl, sym, ◌∙◌, ap, subst, arith, append_assoc, length-append, take-append-drop, get_or-take, get_or-drop, length-drop}
use Rattle.std.proofs.lemmas.List.{take-take, drop-take, drop-drop, drop_more, drop_all, take_all, length-take-le}
use Rattle.samza_model.specs.declared.messages.Record.{Record}
use Rattle.samza_model.specs.Files.{Image}
use Rattle.samza_model.specs.Frames.{frame_bytes}
use Rattle.log_frame.specs.Frame.{Begins}
use Rattle.log_frame.specs.Reading.{frame_at, counted}
use Rattle.log_frame.proofs.Laws.{frame_large}
use Rattle.topic_log.specs.declared.faults.LogFault.{LogFault}
use Rattle.topic_log.specs.declared.faults.LogFault.TheVariants.{Damaged, Limit, Broken}
use Rattle.topic_log.specs.declared.windows.Window.{Window}
use Rattle.topic_log.specs.Faults.{IsReadFault, IsWalkFault}
use Rattle.topic_log.specs.Walks.{Shows, Covers, seen}
use Rattle.topic_log.specs.Damage.{StopsAt, IsDamage}
use Rattle.topic_log.proofs.Headers.{frame_within}

-- bytes of the window are the file's
pub view_is : (w : Window) (bytes : List ℕ) (at len : ℕ) → Shows w bytes → Covers w at len → take len (drop (at - w.from) w.bytes.items) ≡ take len (drop at bytes)
view_is w bytes at len shows covers =
    let n = length w.bytes.items in
    let k = at - w.from in
    let m = n - k in
    let fits : len ≤ m = omega (arith, covers.begins, covers.ends) in
    let whole : n ≡ k + m = omega (arith, covers.begins, covers.ends) in
    let place : w.from + k ≡ at = omega (arith, covers.begins) in
    ap (λ (l : List ℕ). take len (drop k l)) (shows ∙ ap (λ (j : ℕ). take j (drop w.from bytes)) whole)
    ∙ ap (λ (l : List ℕ). take len l) (drop-take k m (drop w.from bytes))
    ∙ take-take len m (drop k (drop w.from bytes)) fits
    ∙ ap (λ (l : List ℕ). take len l) (drop-drop k w.from bytes ∙ ap (λ (j : ℕ). drop j bytes) place)

-- what stands from a byte on among the first so many
module _ (size at : ℕ) (file : List ℕ) where
  pub seen_long : size ≤ length file → size - at ≡ length (seen size at file)
  seen_long inside = sym (length-take-le (size - at) (drop at file) (omega (arith, length-drop at file, inside)))

  pub seen_front : (n : ℕ) → n ≤ size - at → take n (seen size at file) ≡ take n (drop at file)
  seen_front n le = take-take n (size - at) (drop at file) le

  pub seen_all : size ≡ length file → seen size at file ≡ drop at file
  seen_all whole = take_all (size - at) (drop at file) (omega (arith, length-drop at file, whole))

-- want of memory and the device are no damage
pub no_damage : (e : LogFault) (at : ℕ) → IsReadFault e → e ≡ Damaged at → ⊥
no_damage e at fault is = subst IsReadFault is fault

pub begins_more : (n : ℕ) (bytes : List ℕ) (count used : ℕ) → Begins (take n bytes) count used → Begins bytes count used
begins_more n bytes count used h = record {
  records = h.records;
  rest = h.rest ++ drop n bytes;
  parts = sym (take-append-drop n bytes) ∙ ap (λ (l : List ℕ). l ++ drop n bytes) h.parts ∙ append_assoc (frame_bytes h.records) h.rest (drop n bytes);
  frameable = h.frameable;
  count_is = h.count_is;
  used_is = h.used_is;
}

-- the frame is within the bytes, and its records are not more than its bytes
pub begins_within : (bytes : List ℕ) (count used : ℕ) → Begins bytes count used → (count ≤ used) × (used ≤ length bytes)
begins_within bytes count used h =
    (omega (arith, h.count_is, h.used_is, frame_large h.records h.frameable), omega (arith, h.used_is, ap length h.parts, length-append (frame_bytes h.records) h.rest))

counted_err : (r : Result (List Record × ℕ) ℕ) (e : ℕ) → counted r ≡ Err e → r ≡ Err e
counted_err (Ok x) e is = absurd cc
counted_err (Err d) e is = let same : d ≡ e = cc in ap (λ (k : ℕ). Err k) same

-- a frame that is no frame, of so many bytes of a file
module _ (file view : List ℕ) (at len bad : ℕ) (is : view ≡ take len (drop at file)) (same : frame_at (take len (drop at file)) ≡ frame_at (drop at file)) (reads : counted (frame_at view) ≡ Err bad) where
  pub stops : StopsAt (drop at file) at (at + bad)
  stops = record { place = bad; stops = sym same ∙ ap frame_at (sym is) ∙ counted_err (frame_at view) bad reads; at_is = refl }

pub bad_within : (view : List ℕ) (bad : ℕ) → counted (frame_at view) ≡ Err bad → bad ≤ length view
bad_within view bad reads = frame_within view bad (counted_err (frame_at view) bad reads)

-- the gate at a place
pub gate_at : (file view : List ℕ) (gate : ℕ) → gate < length file → view ≡ take 1 (drop gate file) → drop gate file ≡ get_or view 0 0 ∷ drop (gate + 1) file
gate_at file view gate inside is =
    let e : get_or view 0 0 ≡ get_or file gate 0 =
    ap (λ (l : List ℕ). get_or l 0 0) is ∙ get_or-take 1 (drop gate file) 0 0 (omega arith) ∙ get_or-drop gate file 0 0 ∙ ap (λ (k : ℕ). get_or file k 0) (let z : gate + 0 ≡ gate = omega arith in z) in
    drop_more file gate 0 inside ∙ ap (λ (x : ℕ). x ∷ drop (gate + 1) file) (sym e)

pub none_left : (file : List ℕ) (gate : ℕ) → gate ≡ length file → IsDamage (drop gate file) gate gate
none_left file gate is = subst (λ (l : List ℕ). IsDamage l gate gate) (sym (drop_all gate file (omega (arith, is)))) refl

-- a file that no call changed
pub same_file : (r s : Image) (f g : ℕ) → s ≡ r → g ≡ f → s g ≡ r f
same_file r s f g p q = ap s q ∙ ap (λ (i : Image). i f) p

pub walk_never : (e : LogFault) → IsWalkFault e → (e ≡ Limit → ⊥) × (e ≡ Broken → ⊥)
walk_never e fault = (λ is. subst IsWalkFault is fault, λ is. subst IsWalkFault is fault)
