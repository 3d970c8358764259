-- Names of disks, and what is held by name.
use Rattle.std.proofs.Common.{ℕ, suc, zero, ◌≡◌, ◌≢◌, ◌<◌, ◌==◌, ◌⊎◌, ◌↔◌, Bool, true, false, List, [], ◌∷◌, length, get_or, None, Some, refl, sym, ap, ◌∙◌, subst, arith, inl, inr}
use Rattle.std.specs.Cmp.Lexicographic.{pointwise}
use Rattle.std.proofs.lemmas.Bool.{and_from, and_parts, cond-false, cond-true, eq-eqb, eqb-true, cases_Bool, true≢false}
use Rattle.disk_model.specs.Handles.{same_name}
use Rattle.disk_model.specs.Slots.{IsPlace, put_slot, slot_at}
use Rattle.disk_model.specs.declared.names.DiskName.{DiskName}
use Rattle.disk_model.specs.declared.names.DiskName.TheVariants.{Stream, Task}
use Rattle.disk_model.specs.declared.slots.Slot.{Slot}

same_text : (xs ys : List ℕ) → pointwise ◌==◌ xs ys ≡ true → xs ≡ ys
same_text [] [] e = refl
same_text [] (y ∷ ys) e = cc
same_text (x ∷ xs) [] e = cc
same_text (x ∷ xs) (y ∷ ys) e =
    let p = and_parts (x == y) (pointwise ◌==◌ xs ys) e in
    let q : x ≡ y = eqb-true x y p.0 in
    let r : xs ≡ ys = same_text xs ys p.1 in
    cc

text_same : (xs : List ℕ) → pointwise ◌==◌ xs xs ≡ true
text_same [] = refl
text_same (x ∷ xs) = and_from (x == x) (pointwise ◌==◌ xs xs) (eq-eqb x x refl) (text_same xs)

-- equal names are the same
pub same_then : (m n : DiskName) → same_name m n ≡ true → m ≡ n
same_then (Task m) (Task n) e = let q : m ≡ n = eqb-true m n e in cc
same_then (Task m) (Stream u v) e = cc
same_then (Stream s t) (Task n) e = cc
same_then (Stream s t) (Stream u v) e =
    let p = and_parts (pointwise ◌==◌ s u) (pointwise ◌==◌ t v) e in
    let q : s ≡ u = same_text s u p.0 in
    let r : t ≡ v = same_text t v p.1 in
    cc

same_self : (n : DiskName) → same_name n n ≡ true
same_self (Task n) = eq-eqb n n refl
same_self (Stream s t) = and_from (pointwise ◌==◌ s s) (pointwise ◌==◌ t t) (text_same s) (text_same t)

pub then_same : (m n : DiskName) → m ≡ n → same_name m n ≡ true
then_same m n e = subst (λ (x : DiskName). same_name m x ≡ true) e (same_self m)

pub same_iff : (m n : DiskName) → (same_name m n ≡ true) ↔ (m ≡ n)
same_iff m n = (same_then m n, then_same m n)

-- two names are one, or they are not
pub name_cases : (m n : DiskName) → (m ≡ n) ⊎ (m ≢ n)
name_cases m n = elim (cases_Bool (same_name m n)) [
  | inl e ↦ inl (same_then m n e)
  | inr e ↦ inr (λ q. true≢false (sym (then_same m n q) ∙ e))
]

pub not_same : (m n : DiskName) → m ≢ n → same_name m n ≡ false
not_same m n ne = elim (cases_Bool (same_name m n)) [ inl e ↦ absurd (ne (same_then m n e)) | inr e ↦ e ]

-- whether the slot at a place has this name
abbrev pub named_at : {T : Type 0} → List (Slot T) → DiskName → ℕ → Bool
named_at [] n i = false
named_at (s ∷ ss) n zero = same_name s.name n
named_at (s ∷ ss) n (suc i) = named_at ss n i

module _ {T : Type 0} (n : DiskName) where
  -- what the code read at a place
  pub named_read : (slots : List (Slot T)) (i : ℕ) (x : Slot T) → i < length slots → x ≡ get_or slots i x → named_at slots n i ≡ same_name x.name n
  named_read [] i x lt is = absurd (omega arith)
  named_read (s ∷ ss) zero x lt is = ap (λ (t : Slot T). same_name t.name n) (sym is)
  named_read (s ∷ ss) (suc i) x lt is = named_read ss i x (omega arith) is

  pub not_there : (slots : List (Slot T)) → ((k : ℕ) → k < length slots → named_at slots n k ≡ false) → slot_at slots n ≡ None
  not_there [] none = refl
  not_there (s ∷ ss) none =
      cond-false (same_name s.name n) (Some s) (slot_at ss n) (none 0 (omega arith))
      ∙ not_there ss (λ k lt. none (suc k) (omega arith))

  pub first_is : (slots : List (Slot T)) (i : ℕ) → i < length slots → ((k : ℕ) → k < i → named_at slots n k ≡ false) → named_at slots n i ≡ true → IsPlace slots n i
  first_is [] i lt none here = absurd (omega arith)
  first_is (s ∷ ss) zero lt none here = record {
    within = lt;
    here = sym (cond-true (same_name s.name n) (Some s) (slot_at ss n) here);
    put = λ t. sym (cond-true (same_name s.name n) (t ∷ ss) (s ∷ put_slot ss n t) here);
  }
  first_is (s ∷ ss) (suc i) lt none here =
      let rest = first_is ss i (omega arith) (λ k low. none (suc k) (omega arith)) here in
      let other : same_name s.name n ≡ false = none 0 (omega arith) in
      record {
        within = lt;
        here = rest.here ∙ sym (cond-false (same_name s.name n) (Some s) (slot_at ss n) other);
        put = λ t.
            ap (λ (l : List (Slot T)). s ∷ l) (rest.put t)
            ∙ sym (cond-false (same_name s.name n) (t ∷ ss) (s ∷ put_slot ss n t) other);
      }
