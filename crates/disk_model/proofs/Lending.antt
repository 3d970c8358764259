-- What is held and what is out of each name, after a change of what a host holds.
use Rattle.std.proofs.Common.{ℕ, ◌≡◌, ◌≢◌, ◌+◌, ◌-◌, ◌≤◌, ◌⊎◌, List, [], ◌∷◌, ◌++◌, length, Option, None, Some, refl, sym, ap, ◌∙◌, subst, arith, inl, inr}
use Rattle.std.proofs.lemmas.List.{with_items_is}
use Rattle.std.specs.Prelude.{IsSome, Vec}
use Rattle.std.specs.Vec.{with_items}
use Rattle.disk_model.proofs.ByName.{name_cases}
use Rattle.disk_model.proofs.SlotSteps.{At, changes_at, one_less, one_more, out_slot, pushed_elsewhere, pushed_here, shelf_slot, stays}
use Rattle.disk_model.specs.Handles.{OneMore}
use Rattle.disk_model.specs.Slots.{ChangesSlot, held_in, out_held, outs_in, shelves_in, slot_at}
use Rattle.disk_model.specs.declared.names.DiskName.{DiskName}
use Rattle.disk_model.specs.declared.slots.Slot.{Slot}

cases_slot : {X : Type 0} (o : Option X) → (o ≡ None) ⊎ ((x : X) × (o ≡ Some x))
cases_slot None = inl refl
cases_slot (Some x) = inr (x, refl)

module _ {T : Type 0} where
  -- what is so of the slots that were changed through a slice is so of the vector
  lifted : {Z : Type 0} (P : List (Slot T) → List (Slot T) → Type 0) (v : Vec (Slot T) Z) (xs ws : List (Slot T)) → xs ≡ v.items → length ws ≡ length xs → P xs ws → P v.items (with_items v ws).items
  lifted P v xs ws is len p =
      let fits : length ws ≡ v.len = omega (arith, ap length is, v.ok.0) in
      let half : P v.items ws = subst (λ (l : List (Slot T)). P l ws) is p in
      subst (λ (l : List (Slot T)). P v.items l) (sym (with_items_is v ws fits)) half

  -- as many of each name
  abbrev pub Same : {X : Type 0} → (Option (Slot T) → X) → List (Slot T) → List (Slot T) → Type 0
  Same f old new = (m : DiskName) → f (slot_at new m) ≡ f (slot_at old m)

  -- this is held of the name now, and of the others what was
  pub record Holds (n : DiskName) (o : Option T) (old new : List (Slot T)) : Type 0 where
    pub here : held_in (slot_at new n) ≡ o
    pub elsewhere : (m : DiskName) → m ≢ n → held_in (slot_at new m) ≡ held_in (slot_at old m)

  holds : (old new : List (Slot T)) (n : DiskName) (s t : Slot T) → At old new n s t → Holds n t.held old new
  holds old new n s t step = record { here = ap held_in step.here; elsewhere = λ m ne. ap held_in (step.elsewhere m ne) }

  pub record Lent (n : DiskName) (old new : List (Slot T)) : Type 0 where
    pub holds : Holds n None old new
    pub lent : IsSome (held_in (slot_at old n)) → OneMore n (λ m. outs_in (slot_at old m)) (λ m. outs_in (slot_at new m))
    pub refused : held_in (slot_at old n) ≡ None → Same outs_in old new
    pub shelves : Same shelves_in old new

  held_is_in : (o : Option T) → IsSome o → out_held o ≡ 0
  held_is_in None some = cc
  held_is_in (Some t) some = refl

  lent_is : (old new : List (Slot T)) (n : DiskName) → ChangesSlot n (λ s. record { name = s.name; held = None; shelves = s.shelves }) old new → (slot_at old n ≡ None → new ≡ old) → Lent n old new
  lent_is old new n changed same = elim (cases_slot (slot_at old n)) [
    | inl none ↦
        let base : Lent n old old = record {
          holds = record { here = ap held_in none; elsewhere = λ m ne. refl };
          lent = λ some. omega (arith, held_is_in (held_in (slot_at old n)) some, ap out_held (ap held_in none));
          refused = λ e m. refl;
          shelves = λ m. refl;
        } in
        subst (λ (l : List (Slot T)). Lent n old l) (sym (same none)) base
    | inr p ↦
        let s = p.0 in
        let step = changes_at old new n (λ s. record { name = s.name; held = None; shelves = s.shelves }) s changed p.1 refl in
        record {
          holds = holds old new n s _ step;
          lent = λ some. one_more old new n s _ step outs_in (omega (arith, held_is_in s.held (subst (λ (o : Option T). IsSome o) (ap held_in p.1) some)));
          refused = λ none. stays old new n s _ step outs_in (ap out_held (sym none ∙ ap held_in p.1));
          shelves = stays old new n s _ step shelves_in refl;
        }
  ]

  pub record Taken (n : DiskName) (value : T) (old new : List (Slot T)) : Type 0 where
    pub holds : Holds n (Some value) old new
    pub taken : OneMore n (λ m. outs_in (slot_at new m)) (λ m. outs_in (slot_at old m))
    pub shelves : Same shelves_in old new

  taken_is : (old new : List (Slot T)) (n : DiskName) (value : T) → ChangesSlot n (λ s. record { name = s.name; held = Some value; shelves = s.shelves }) old new → 1 ≤ outs_in (slot_at old n) → Taken n value old new
  taken_is old new n value changed out' =
      let p = out_slot (slot_at old n) out' in
      let step = changes_at old new n (λ s. record { name = s.name; held = Some value; shelves = s.shelves }) p.0 changed p.1 refl in
      record {
        holds = holds old new n p.0 _ step;
        taken = one_less old new n p.0 _ step outs_in (ap out_held p.2);
        shelves = stays old new n p.0 _ step shelves_in refl;
      }

  -- of what is held and of the disks that are out nothing changed
  pub record Counts (old new : List (Slot T)) : Type 0 where
    pub held : Same held_in old new
    pub disks : Same outs_in old new

  pub record CountsOut (n : DiskName) (old new : List (Slot T)) : Type 0 where
    pub counts : Counts old new
    pub lent : OneMore n (λ m. shelves_in (slot_at old m)) (λ m. shelves_in (slot_at new m))

  pub record CountsIn (n : DiskName) (old new : List (Slot T)) : Type 0 where
    pub counts : Counts old new
    pub taken : OneMore n (λ m. shelves_in (slot_at new m)) (λ m. shelves_in (slot_at old m))

  same_counts : (old new : List (Slot T)) → new ≡ old → Counts old new
  same_counts old new same = subst (λ (l : List (Slot T)). Counts old l) (sym same) (record { held = λ m. refl; disks = λ m. refl })

  shelf_out : (old new : List (Slot T)) (n : DiskName) → ChangesSlot n (λ s. record { name = s.name; held = s.held; shelves = s.shelves + 1 }) old new → (slot_at old n ≡ None → ⊥) → CountsOut n old new
  shelf_out old new n changed there = elim (cases_slot (slot_at old n)) [
    | inl none ↦ absurd (there none)
    | inr p ↦
        let step = changes_at old new n (λ s. record { name = s.name; held = s.held; shelves = s.shelves + 1 }) p.0 changed p.1 refl in
        record {
          counts = record { held = stays old new n p.0 _ step held_in refl; disks = stays old new n p.0 _ step outs_in refl };
          lent = one_more old new n p.0 _ step shelves_in refl;
        }
  ]

  shelf_in : (old new : List (Slot T)) (n : DiskName) → ChangesSlot n (λ s. record { name = s.name; held = s.held; shelves = s.shelves - 1 }) old new → 1 ≤ shelves_in (slot_at old n) → CountsIn n old new
  shelf_in old new n changed out' =
      let p = shelf_slot (slot_at old n) out' in
      let there : 1 ≤ p.0.shelves = omega (arith, out', ap shelves_in p.1) in
      let step = changes_at old new n (λ s. record { name = s.name; held = s.held; shelves = s.shelves - 1 }) p.0 changed p.1 refl in
      record {
        counts = record { held = stays old new n p.0 _ step held_in refl; disks = stays old new n p.0 _ step outs_in refl };
        taken = one_less old new n p.0 _ step shelves_in (omega (arith, there));
      }

  -- a name of which nothing is held or out has no slot
  no_slot : (o : Option (Slot T)) → held_in o ≡ None → outs_in o ≡ 0 → o ≡ None
  no_slot None held out' = refl
  no_slot (Some s) held out' = absurd (omega (arith, ap out_held held, out'))

  pub record Added (n : DiskName) (value : T) (old new : List (Slot T)) : Type 0 where
    pub holds : Holds n (Some value) old new
    pub disks : Same outs_in old new
    pub shelves : Same shelves_in old new

  counts_pushed : (f : Option (Slot T) → ℕ) (xs : List (Slot T)) (n : DiskName) (t : Slot T) → slot_at xs n ≡ None → t.name ≡ n → f (Some t) ≡ f None → Same f xs (xs ++ t ∷ [])
  counts_pushed f xs n t none is same m = elim (name_cases m n) [
    | inl e ↦
        let at_n : f (slot_at (xs ++ t ∷ []) n) ≡ f (slot_at xs n) = ap f (pushed_here xs n t none is) ∙ same ∙ ap f (sym none) in
        subst (λ (x : DiskName). f (slot_at (xs ++ t ∷ []) x) ≡ f (slot_at xs x)) (sym e) at_n
    | inr ne ↦ ap f (pushed_elsewhere xs n t is m ne)
  ]

  added_is : (xs : List (Slot T)) (n name : DiskName) (value : T) → slot_at xs n ≡ None → name ≡ n → Added n value xs (xs ++ (record { name = name; held = Some value; shelves = 0 }) ∷ [])
  added_is xs n name value none is =
      let t : Slot T = record { name = name; held = Some value; shelves = 0 } in
      record {
        holds = record { here = ap held_in (pushed_here xs n t none is); elsewhere = λ m ne. ap held_in (pushed_elsewhere xs n t is m ne) };
        disks = counts_pushed outs_in xs n t none is refl;
        shelves = counts_pushed shelves_in xs n t none is refl;
      }

  puts_is : (old new : List (Slot T)) (n : DiskName) (value : T) → ChangesSlot n (λ s. record { name = s.name; held = Some value; shelves = s.shelves }) old new → (slot_at old n ≡ None → ⊥) → Holds n (Some value) old new
  puts_is old new n value changed there = elim (cases_slot (slot_at old n)) [
    | inl none ↦ absurd (there none)
    | inr p ↦ holds old new n p.0 _ (changes_at old new n (λ s. record { name = s.name; held = Some value; shelves = s.shelves }) p.0 changed p.1 refl)
  ]

  module _ {Z : Type 0} (v : Vec (Slot T) Z) (xs ws : List (Slot T)) (n : DiskName) (is : xs ≡ v.items) (len : length ws ≡ length xs) where
    pub lends : ChangesSlot n (λ s. record { name = s.name; held = None; shelves = s.shelves }) xs ws → (slot_at xs n ≡ None → ws ≡ xs) → Lent n v.items (with_items v ws).items
    lends changed same = lifted (Lent n) v xs ws is len (lent_is xs ws n changed same)

    pub takes : (value : T) → ChangesSlot n (λ s. record { name = s.name; held = Some value; shelves = s.shelves }) xs ws → 1 ≤ outs_in (slot_at v.items n) → Taken n value v.items (with_items v ws).items
    takes value changed out' =
        lifted (Taken n value) v xs ws is len (taken_is xs ws n value changed (subst (λ (l : List (Slot T)). 1 ≤ outs_in (slot_at l n)) (sym is) out'))

    pub puts : (value : T) → ChangesSlot n (λ s. record { name = s.name; held = Some value; shelves = s.shelves }) xs ws → (slot_at xs n ≡ None → ⊥) → Holds n (Some value) v.items (with_items v ws).items
    puts value changed there = lifted (Holds n (Some value)) v xs ws is len (puts_is xs ws n value changed there)

    pub counts_out : ChangesSlot n (λ s. record { name = s.name; held = s.held; shelves = s.shelves + 1 }) xs ws → (slot_at xs n ≡ None → ⊥) → CountsOut n v.items (with_items v ws).items
    counts_out changed there = lifted (CountsOut n) v xs ws is len (shelf_out xs ws n changed there)

    pub counts_same : ws ≡ xs → Counts v.items (with_items v ws).items
    counts_same same = lifted Counts v xs ws is len (same_counts xs ws same)

    pub counts_in : ChangesSlot n (λ s. record { name = s.name; held = s.held; shelves = s.shelves - 1 }) xs ws → 1 ≤ shelves_in (slot_at v.items n) → CountsIn n v.items (with_items v ws).items
    counts_in changed out' =
        lifted (CountsIn n) v xs ws is len (shelf_in xs ws n changed (subst (λ (l : List (Slot T)). 1 ≤ shelves_in (slot_at l n)) (sym is) out'))

  -- what a push of a slot leaves, of a name of which nothing was held or out
  pub adds : (xs ws : List (Slot T)) (n name : DiskName) (value : T) → ws ≡ xs ++ (record { name = name; held = Some value; shelves = 0 }) ∷ [] → held_in (slot_at xs n) ≡ None → outs_in (slot_at xs n) ≡ 0 → name ≡ n → Added n value xs ws
  adds xs ws n name value is held out' same =
      subst (λ (l : List (Slot T)). Added n value xs l) (sym is) (added_is xs n name value (no_slot (slot_at xs n) held out') same)
