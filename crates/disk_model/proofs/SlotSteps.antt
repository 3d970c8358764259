-- What stands under each name after a change of one slot.
use Rattle.std.proofs.Common.{ℕ, ◌≡◌, ◌≢◌, ◌+◌, ◌≤◌, if◌then◌else◌, List, [], ◌∷◌, ◌++◌, Option, None, Some, refl, sym, ap, ◌∙◌, subst, arith, inl, inr}
use Rattle.std.proofs.lemmas.Bool.{cases_Bool, cond-false, cond-true}
use Rattle.disk_model.proofs.ByName.{name_cases, not_same, same_then, then_same}
use Rattle.disk_model.specs.Handles.{OneMore, same_name}
use Rattle.disk_model.specs.Slots.{ChangesSlot, out_held, outs_in, put_slot, shelves_in, slot_at}
use Rattle.disk_model.specs.declared.names.DiskName.{DiskName}
use Rattle.disk_model.specs.declared.slots.Slot.{Slot}

-- the slot of a name was s and is t, and those of the other names are the same
pub record At {T : Type 0} (old new : List (Slot T)) (n : DiskName) (s t : Slot T) : Type 0 where
  pub was : slot_at old n ≡ Some s
  pub here : slot_at new n ≡ Some t
  pub elsewhere : (m : DiskName) → m ≢ n → slot_at new m ≡ slot_at old m

module _ {T : Type 0} where
  name_is : (slots : List (Slot T)) (n : DiskName) (s : Slot T) → slot_at slots n ≡ Some s → s.name ≡ n
  name_is [] n s e = cc
  name_is (x ∷ xs) n s e = elim (cases_Bool (same_name x.name n)) [
    | inl yes' ↦
        let q : Some x ≡ Some s = sym (cond-true (same_name x.name n) (Some x) (slot_at xs n) yes') ∙ e in
        let r : x ≡ s = cc in
        ap (λ (y : Slot T). y.name) (sym r) ∙ same_then x.name n yes'
    | inr other ↦ name_is xs n s (sym (cond-false (same_name x.name n) (Some x) (slot_at xs n) other) ∙ e)
  ]

  slot_put : (slots : List (Slot T)) (n : DiskName) (s t : Slot T) → slot_at slots n ≡ Some s → t.name ≡ s.name → At slots (put_slot slots n t) n s t
  slot_put [] n s t e same = cc
  slot_put (x ∷ xs) n s t e same = elim (cases_Bool (same_name x.name n)) [
    | inl yes' ↦
        let named : t.name ≡ n = same ∙ name_is (x ∷ xs) n s e in
        let at_x : x.name ≡ n = same_then x.name n yes' in
        let put : put_slot (x ∷ xs) n t ≡ t ∷ xs = cond-true (same_name x.name n) (t ∷ xs) (x ∷ put_slot xs n t) yes' in
        record {
          was = e;
          here =
              ap (λ (l : List (Slot T)). slot_at l n) put
              ∙ cond-true (same_name t.name n) (Some t) (slot_at xs n) (then_same t.name n named);
          elsewhere = λ m ne.
              let other : t.name ≢ m = λ q. ne (sym q ∙ named) in
              let other' : x.name ≢ m = λ q. ne (sym q ∙ at_x) in
              ap (λ (l : List (Slot T)). slot_at l m) put
              ∙ cond-false (same_name t.name m) (Some t) (slot_at xs m) (not_same t.name m other)
              ∙ sym (cond-false (same_name x.name m) (Some x) (slot_at xs m) (not_same x.name m other'));
        }
    | inr other ↦
        let rest = slot_put xs n s t (sym (cond-false (same_name x.name n) (Some x) (slot_at xs n) other) ∙ e) same in
        let put : put_slot (x ∷ xs) n t ≡ x ∷ put_slot xs n t = cond-false (same_name x.name n) (t ∷ xs) (x ∷ put_slot xs n t) other in
        record {
          was = e;
          here =
              ap (λ (l : List (Slot T)). slot_at l n) put
              ∙ cond-false (same_name x.name n) (Some x) (slot_at (put_slot xs n t) n) other ∙ rest.here;
          elsewhere = λ m ne.
              ap (λ (l : List (Slot T)). slot_at l m) put
              ∙ ap (λ (o : Option (Slot T)). if same_name x.name m then Some x else o) (rest.elsewhere m ne);
        }
  ]

  pub changes_at : (old new : List (Slot T)) (n : DiskName) (change : Slot T → Slot T) (s : Slot T) → ChangesSlot n change old new → slot_at old n ≡ Some s → (change s).name ≡ s.name → At old new n s (change s)
  changes_at old new n change s changed is same =
      subst (λ (l : List (Slot T)). At old l n s (change s)) (sym (changed s is)) (slot_put old n s (change s) is same)

  -- a slot behind the others, whose name none has
  pub pushed_here : (slots : List (Slot T)) (n : DiskName) (t : Slot T) → slot_at slots n ≡ None → t.name ≡ n → slot_at (slots ++ t ∷ []) n ≡ Some t
  pushed_here [] n t none is = cond-true (same_name t.name n) (Some t) None (then_same t.name n is)
  pushed_here (x ∷ xs) n t none is = elim (cases_Bool (same_name x.name n)) [
    | inl yes' ↦
        let q : Some x ≡ None = sym (cond-true (same_name x.name n) (Some x) (slot_at xs n) yes') ∙ none in
        cc
    | inr other ↦
        cond-false (same_name x.name n) (Some x) (slot_at (xs ++ t ∷ []) n) other
        ∙ pushed_here xs n t (sym (cond-false (same_name x.name n) (Some x) (slot_at xs n) other) ∙ none) is
  ]

  pub pushed_elsewhere : (slots : List (Slot T)) (n : DiskName) (t : Slot T) → t.name ≡ n → (m : DiskName) → m ≢ n → slot_at (slots ++ t ∷ []) m ≡ slot_at slots m
  pushed_elsewhere [] n t is m ne =
      let other : t.name ≢ m = λ q. ne (sym q ∙ is) in
      cond-false (same_name t.name m) (Some t) None (not_same t.name m other)
  pushed_elsewhere (x ∷ xs) n t is m ne =
      ap (λ (o : Option (Slot T)). if same_name x.name m then Some x else o) (pushed_elsewhere xs n t is m ne)

  pub shelf_slot : (o : Option (Slot T)) → 1 ≤ shelves_in o → (s : Slot T) × (o ≡ Some s)
  shelf_slot None le = absurd (omega arith)
  shelf_slot (Some s) le = (s, refl)

  held_none : (o : Option T) → 1 ≤ out_held o → o ≡ None
  held_none None le = refl
  held_none (Some t) le = absurd (omega arith)

  pub out_slot : (o : Option (Slot T)) → 1 ≤ outs_in o → (s : Slot T) × (o ≡ Some s) × (s.held ≡ None)
  out_slot None le = absurd (omega arith)
  out_slot (Some s) le = (s, refl, held_none s.held le)

  module _ (old new : List (Slot T)) (n : DiskName) (s t : Slot T) (step : At old new n s t) where
    -- what both slots have in common stays at each name
    pub stays : {X : Type 0} (f : Option (Slot T) → X) → f (Some t) ≡ f (Some s) → (m : DiskName) → f (slot_at new m) ≡ f (slot_at old m)
    stays f same m = elim (name_cases m n) [
      | inl e ↦
          let at_n : f (slot_at new n) ≡ f (slot_at old n) = ap f step.here ∙ same ∙ ap f (sym step.was) in
          subst (λ (x : DiskName). f (slot_at new x) ≡ f (slot_at old x)) (sym e) at_n
      | inr ne ↦ ap f (step.elsewhere m ne)
    ]

    pub one_more : (f : Option (Slot T) → ℕ) → f (Some t) ≡ f (Some s) + 1 → OneMore n (λ m. f (slot_at old m)) (λ m. f (slot_at new m))
    one_more f more = record {
      here = ap f step.here ∙ more ∙ ap (λ (o : Option (Slot T)). f o + 1) (sym step.was);
      elsewhere = λ m ne. ap f (step.elsewhere m ne);
    }

    pub one_less : (f : Option (Slot T) → ℕ) → f (Some s) ≡ f (Some t) + 1 → OneMore n (λ m. f (slot_at new m)) (λ m. f (slot_at old m))
    one_less f less = record {
      here = ap f step.was ∙ less ∙ ap (λ (o : Option (Slot T)). f o + 1) (sym step.here);
      elsewhere = λ m ne. sym (ap f (step.elsewhere m ne));
    }
