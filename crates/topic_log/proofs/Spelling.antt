-- Spelled frames: one after the other, their lengths, and that there is one reading.
use Rattle.std.proofs.Common.{ℕ, ◌≡◌, ◌≢◌, ◌≤◌, ◌⊎◌, inl, inr, List, [], ◌∷◌, ◌++◌, length, take, drop, refl, sym, ◌∙◌, ap, arith, append_assoc, length-append, take-append-drop}
use Rattle.std.specs.List.{AllByRecursion}
use Rattle.std.proofs.lemmas.Grind.{flat_map-append}
use Rattle.std.proofs.lemmas.List.{append-nil}
use Rattle.samza_model.specs.declared.messages.Record.{Record}
use Rattle.samza_model.specs.Frames.{frame_bytes}
use Rattle.samza_model.specs.Limits.{IsFrameable}
use Rattle.samza_model.specs.Logs.{spelled, joined, ReadsAs, HasFrames, HasLog}
use Rattle.log_frame.proofs.Laws.{frame_front}

pub spelled-append : (fs gs : List (List Record)) → spelled (fs ++ gs) ≡ spelled fs ++ spelled gs
spelled-append fs gs = flat_map-append (λ (rs : List Record). 0x4F ∷ frame_bytes rs) fs gs

pub joined-append : (fs gs : List (List Record)) → joined (fs ++ gs) ≡ joined fs ++ joined gs
joined-append fs gs = flat_map-append (λ (rs : List Record). rs) fs gs

pub spelled-push : (fs : List (List Record)) (rs : List Record) → spelled (fs ++ rs ∷ []) ≡ spelled fs ++ (0x4F ∷ frame_bytes rs)
spelled-push fs rs = spelled-append fs (rs ∷ []) ∙ ap (λ (l : List ℕ). spelled fs ++ l) (append-nil (0x4F ∷ frame_bytes rs))

pub joined-push : (fs : List (List Record)) (rs : List Record) → joined (fs ++ rs ∷ []) ≡ joined fs ++ rs
joined-push fs rs = joined-append fs (rs ∷ []) ∙ ap (λ (l : List Record). joined fs ++ l) (append-nil rs)

pub all_append : {X : Type 0} (P : X → Type 0) (xs ys : List X) → AllByRecursion P xs → AllByRecursion P ys → AllByRecursion P (xs ++ ys)
all_append P [] ys p q = q
all_append P (x ∷ xs) ys p q = (p.0, all_append P xs ys p.1 q)

pub all_front : {X : Type 0} (P : X → Type 0) (xs ys : List X) → AllByRecursion P (xs ++ ys) → AllByRecursion P xs
all_front P [] ys p = tt
all_front P (x ∷ xs) ys p = (p.0, all_front P xs ys p.1)

pub all_back : {X : Type 0} (P : X → Type 0) (xs ys : List X) → AllByRecursion P (xs ++ ys) → AllByRecursion P ys
all_back P [] ys p = p
all_back P (x ∷ xs) ys p = all_back P xs ys p.1

-- one list of frames begins with the other, and what stands behind them fits
pub record Goes (fs gs : List (List Record)) (x y : List ℕ) : Type 0 where
  pub more : List (List Record)
  pub frames : gs ≡ fs ++ more
  pub frameable : AllByRecursion IsFrameable more
  pub behind : x ≡ spelled more ++ y

pub fronts : (fs gs : List (List Record)) (x y : List ℕ) → AllByRecursion IsFrameable fs → AllByRecursion IsFrameable gs → spelled fs ++ x ≡ spelled gs ++ y → Goes fs gs x y ⊎ Goes gs fs y x
fronts [] gs x y p q is = inl (record { more = gs; frames = refl; frameable = q; behind = is })
fronts (f ∷ fs) [] x y p q is = inr (record { more = f ∷ fs; frames = refl; frameable = p; behind = sym is })
fronts (f ∷ fs) (g ∷ gs) x y p q is =
    let is' : frame_bytes f ++ (spelled fs ++ x) ≡ frame_bytes g ++ (spelled gs ++ y) =
    sym (append_assoc (frame_bytes f) (spelled fs) x) ∙ ap (λ (l : List ℕ). drop 1 l) is ∙ append_assoc (frame_bytes g) (spelled gs) y in
    let same = frame_front f g (spelled fs ++ x) (spelled gs ++ y) p.0 q.0 is' in
    let back : g ≡ f = sym same.0 in
    elim (fronts fs gs x y p.1 q.1 same.1) [
      | inl h ↦ inl (record { more = h.more; frames = (λ i. back i ∷ h.frames i); frameable = h.frameable; behind = h.behind })
      | inr h ↦ inr (record { more = h.more; frames = (λ i. same.0 i ∷ h.frames i); frameable = h.frameable; behind = h.behind })
    ]

-- behind a front there are as many bytes as frames at least
pub some_bytes : (fs : List (List Record)) → length fs ≤ length (spelled fs)
some_bytes [] = omega arith
some_bytes (f ∷ fs) = omega (arith, some_bytes fs, length-append (0x4F ∷ frame_bytes f) (spelled fs))

first : List ℕ → ℕ
first [] = 0
first (x ∷ xs) = x

-- a closed gate ends what stands behind a front
pub closed_ends : (more : List (List Record)) (gate : ℕ) (behind y : List ℕ) → gate ≢ 0x4F → gate ∷ behind ≡ spelled more ++ y → more ≡ []
unfolding first
closed_ends [] gate behind y shut is = refl
closed_ends (f ∷ more) gate behind y shut is = absurd (shut (ap first is))

reads_unique : (bytes : List ℕ) (fs gs : List (List Record)) → ReadsAs bytes fs → ReadsAs bytes gs → fs ≡ gs
reads_unique bytes fs gs p q =
    elim (fronts fs gs (p.gate ∷ p.behind) (q.gate ∷ q.behind) p.frameable q.frameable (sym p.split ∙ q.split)) [
      | inl h ↦ sym (h.frames ∙ ap (λ (l : List (List Record)). fs ++ l) (closed_ends h.more p.gate p.behind (q.gate ∷ q.behind) p.closed h.behind) ∙ append-nil fs)
      | inr h ↦ h.frames ∙ ap (λ (l : List (List Record)). gs ++ l) (closed_ends h.more q.gate q.behind (p.gate ∷ p.behind) q.closed h.behind) ∙ append-nil gs
    ]

pub no_frames : (fs : List (List Record)) → length fs ≡ 0 → fs ≡ []
no_frames [] e = refl
no_frames (f ∷ fs) e = absurd (omega arith)

reads_short : (bytes : List ℕ) (fs : List (List Record)) → length bytes ≤ 1 → ReadsAs bytes fs → fs ≡ []
reads_short bytes fs short p = no_frames fs (omega (arith, some_bytes fs, ap length p.split, length-append (spelled fs) (p.gate ∷ p.behind)))

-- a file has one list of frames
pub frames_unique : (bytes : List ℕ) (fs gs : List (List Record)) → HasFrames bytes fs → HasFrames bytes gs → fs ≡ gs
frames_unique bytes fs gs (inl p) (inl q) = p.1 ∙ sym q.1
frames_unique bytes fs gs (inl p) (inr q) = p.1 ∙ sym (reads_short bytes gs p.0 q)
frames_unique bytes fs gs (inr p) (inl q) = reads_short bytes fs q.0 p ∙ sym q.1
frames_unique bytes fs gs (inr p) (inr q) = reads_unique bytes fs gs p q

-- and so one list of records
pub log_unique : (bytes : List ℕ) (rs ss : List Record) → HasLog bytes rs → HasLog bytes ss → rs ≡ ss
log_unique bytes rs ss p q = p.records_are ∙ ap joined (frames_unique bytes p.frames q.frames p.has q.has) ∙ sym q.records_are

-- what stands behind a front with a closed gate
pub reads_front : (bytes : List ℕ) (fs : List (List Record)) (gate n : ℕ) → AllByRecursion IsFrameable fs → gate ≢ 0x4F → take n bytes ≡ spelled fs ++ gate ∷ [] → ReadsAs bytes fs
reads_front bytes fs gate n frameable shut front = record {
  gate = gate;
  behind = drop n bytes;
  split = sym (take-append-drop n bytes) ∙ ap (λ (l : List ℕ). l ++ drop n bytes) front ∙ append_assoc (spelled fs) (gate ∷ []) (drop n bytes);
  closed = shut;
  frameable = frameable;
}
