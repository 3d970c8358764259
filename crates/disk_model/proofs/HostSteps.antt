-- A host in memory after its steps.
use Rattle.std.proofs.Common.{ℕ, ◌≡◌, ◌≢◌, ◌↔◌, [], Option, None, Some, true, false, refl, sym, ap, ◌∙◌, subst, inl, inr}
use Rattle.samza_model.specs.Files.{Image}
use Rattle.disk_model.proofs.ByName.{name_cases}
use Rattle.disk_model.proofs.SameDisks.{same_disk_trans, there_and_back}
use Rattle.std.specs.Prelude.{IsSome, Result, Ok, Err, OnOk, OnErr}
use Rattle.disk_model.specs.Capacities.{Capacity}
use Rattle.disk_model.specs.HostSteps.{OnHeld}
use Rattle.disk_model.specs.Handles.{AsMany, OneMore, SameDisk}
use Rattle.disk_model.specs.MemoryDisk.{mem_calls, mem_capacity, mem_file_count, mem_images, mem_images_since, mem_name, mem_reads}
use Rattle.disk_model.specs.MemoryHost.{IsSameHeld, disk_of, new_capacity}
use Rattle.disk_model.specs.Slots.{images_in, number_in, or_else, reads_in, since_in}
use Rattle.disk_model.specs.declared.memory_disk.MemDisk.{MemDisk}
use Rattle.disk_model.specs.declared.memory_host.MemHost.{MemHost}
use Rattle.disk_model.specs.declared.names.DiskName.{DiskName}

-- the meanings of what stands under a name are those of another disk
pub record SameIn (o p : Option MemDisk) : Type 0 where
  pub disk : SameDisk (reads_in mem_reads o) (images_in mem_images o) (since_in mem_images_since o) (number_in mem_calls o) (reads_in mem_reads p) (images_in mem_images p) (since_in mem_images_since p) (number_in mem_calls p)
  pub files : number_in mem_file_count p ≡ number_in mem_file_count o

same_in : (o : Option MemDisk) → SameIn o o
same_in o = record {
  disk = record { reads_are = refl; images_are = λ c. ((λ x. x), (λ x. x)); since_are = λ k c. ((λ x. x), (λ x. x)); number_is = refl };
  files = refl;
}

same_in_at : (o p : Option MemDisk) → p ≡ o → SameIn o p
same_in_at o p e = subst (λ (x : Option MemDisk). SameIn o x) (sym e) (same_in o)

-- the host's disk of a name is as it was, where the same stands under it
pub same_held : (old new : MemHost) (n : DiskName) → disk_of new n ≡ disk_of old n → IsSameHeld old new n
same_held old new n e =
    let p = same_in_at (disk_of old n) (disk_of new n) e in
    record { disk = p.disk; files_are = p.files }

-- a disk without files is as one that isn't there
pub fresh_in : (d : MemDisk)
    → ((f : ℕ) → mem_reads d f ≡ [])
    → ((c : Image) → mem_images d c ↔ ((f : ℕ) → c f ≡ []))
    → ((k : ℕ) (c : Image) → mem_images_since d k c ↔ ((k ≡ 0) × ((f : ℕ) → c f ≡ [])))
    → mem_calls d ≡ 0 → mem_file_count d ≡ 0
    → SameIn None (Some d)
fresh_in d reads images since calls files = record {
  disk = record {
    reads_are = λ i f. reads f i;
    images_are = λ c. ((images c).1, (images c).0);
    since_are = λ k c. ((since k c).1, (since k c).0);
    number_is = calls;
  };
  files = files;
}

-- what can be taken under a name of a host with these bounds, from what stands under it
abbrev pub capacity_in : ℕ × ℕ → DiskName → Option MemDisk → Capacity
capacity_in bounds n o = or_else (new_capacity bounds n) mem_capacity o

pub held_from : (old new : MemHost) (n : DiskName) → SameIn (disk_of old n) (disk_of new n) → IsSameHeld old new n
held_from old new n p = record { disk = p.disk; files_are = p.files }

pub in_trans : (o p q : Option MemDisk) → SameIn o p → SameIn p q → SameIn o q
in_trans o p q a b = record {
  disk = same_disk_trans (reads_in mem_reads o) (reads_in mem_reads p) (images_in mem_images o) (images_in mem_images p) (since_in mem_images_since o) (since_in mem_images_since p) (number_in mem_calls o) (number_in mem_calls p) (reads_in mem_reads q) (images_in mem_images q) (since_in mem_images_since q) (number_in mem_calls q) a.disk b.disk;
  files = b.files ∙ a.files;
}

pub in_from : (o p : Option MemDisk) → p ≡ o → SameIn o p
in_from o p e = same_in_at o p e

pub in_host : (old new : MemHost) (n : DiskName) → IsSameHeld old new n → SameIn (disk_of old n) (disk_of new n)
in_host old new n p = record { disk = p.disk; files = p.files_are }

pub by_result : {T E A B P : Type 0} (r : Result T E) → OnOk r A → OnErr r B → (A → P) → (B → P) → P
by_result (Ok x) a b f g = f a
by_result (Err e) a b f g = g b

-- a disk that was just made, or none, where none was
pub made_in : {E : Type 0} (r : Result Unit E) (o p : Option MemDisk) (d : MemDisk) → OnOk r (p ≡ Some d) → OnErr r (p ≡ None) → o ≡ None → SameIn None (Some d) → SameIn o p
made_in r o p d held refused none fresh = by_result r held refused
    (λ is. subst (λ (x : Option MemDisk). SameIn x p) (sym none) (subst (λ (x : Option MemDisk). SameIn None x) (sym is) fresh))
    (λ is. in_from o p (is ∙ sym none))

-- what is held of each name is as it was, where that is so of this name
module _ (old new : MemHost) (n : DiskName) (elsewhere : (m : DiskName) → m ≢ n → disk_of new m ≡ disk_of old m) where
  pub held_each : SameIn (disk_of old n) (disk_of new n) → (m : DiskName) → IsSameHeld old new m
  held_each here m = elim (name_cases m n) [
    | inl e ↦ subst (λ (x : DiskName). IsSameHeld old new x) (sym e) (held_from old new n here)
    | inr ne ↦ same_held old new m (elsewhere m ne)
  ]

-- what is so of each name but this, and of this
pub each_name : {X : Type 0} (old new : DiskName → X) (n : DiskName) → ((m : DiskName) → m ≢ n → new m ≡ old m) → new n ≡ old n → (m : DiskName) → new m ≡ old m
each_name old new n elsewhere here m = elim (name_cases m n) [
  | inl e ↦ subst (λ (x : DiskName). new x ≡ old x) (sym e) here
  | inr ne ↦ elsewhere m ne
]

-- one more, and that one back
pub out_and_in : (a b c : DiskName → ℕ) (n : DiskName) → OneMore n a b → OneMore n c b → AsMany a c
out_and_in a b c n p q = let back = there_and_back a b c n p q in each_name a c n back.0 back.1

-- each disk has the name under which it is held
pub named_each : (old new : DiskName → Option MemDisk) (n : DiskName) → ((m : DiskName) → m ≢ n → new m ≡ old m)
    → ((m : DiskName) (d : MemDisk) → old m ≡ Some d → mem_name d ≡ m)
    → ((d : MemDisk) → new n ≡ Some d → mem_name d ≡ n)
    → (m : DiskName) (d : MemDisk) → new m ≡ Some d → mem_name d ≡ m
named_each old new n elsewhere named here m d held = elim (name_cases m n) [
  | inl e ↦ here d (ap new (sym e) ∙ held) ∙ sym e
  | inr ne ↦ named m d (sym (elsewhere m ne) ∙ held)
]

none_is_some : false ≡ true → ⊥
none_is_some e = cc

module _ {T : Type 0} where
  one_some : (o : Option T) (d e : T) → o ≡ Some d → o ≡ Some e → d ≡ e
  one_some o d e is is' = cc

  one_none : {X : Type 0} (d : T) → None ≡ Some d → X
  one_none d is = cc

  none_some : {X : Type 0} (o : Option T) (d : T) → o ≡ None → o ≡ Some d → X
  none_some o d none is = cc

  pub record Changed (step : T → T → Type 0) (o p : Option T) : Type 0 where
    pub before : T
    pub after : T
    pub was : o ≡ Some before
    pub now : p ≡ Some after
    pub stepped : step before after

  -- what is held is still held after a step
  pub on_some : (step : T → T → Type 0) (o p : Option T) → IsSome o → OnHeld step o p → Changed step o p
  on_some step None p some held = absurd (none_is_some some)
  on_some step (Some d) None some held = absurd held
  on_some step (Some d) (Some e) some held = record { before = d; after = e; was = refl; now = refl; stepped = held }

  pub on_none : (step : T → T → Type 0) (o p : Option T) → o ≡ None → OnHeld step o p → p ≡ o
  on_none step None p none held = held
  on_none step (Some d) p none held = one_none d (sym none)

  -- what no step changes
  pub on_same : {X : Type 0} (f : T → X) (step : T → T → Type 0) (o p : Option T) (x : X) → OnHeld step o p → ((d e : T) → step d e → f e ≡ f d) → ((d : T) → o ≡ Some d → f d ≡ x) → (d : T) → p ≡ Some d → f d ≡ x
  on_same f step None p x held same said d is = none_some p d held is
  on_same f step (Some d) None x held same said e is = absurd held
  on_same f step (Some d) (Some d') x held same said e is = ap f (sym (one_some (Some d') d' e refl is)) ∙ same d d' held ∙ said d refl

pub named_one : (o : Option MemDisk) (d : MemDisk) (n : DiskName) → o ≡ Some d → mem_name d ≡ n → (e : MemDisk) → o ≡ Some e → mem_name e ≡ n
named_one o d n is named e is' = ap mem_name (sym (one_some o d e is is')) ∙ named

pub named_none : (o : Option MemDisk) (n : DiskName) → o ≡ None → (e : MemDisk) → o ≡ Some e → mem_name e ≡ n
named_none o n none e is = none_some o e none is
