-- What is held by name.
use Rattle.std.specs.Prelude.{ℕ, ◌≡◌, ◌<◌, if◌then◌else◌, List, [], ◌∷◌, length, Option, None, Some, slice_get, slice_set}
use Rattle.samza_model.specs.Files.{Image}
use Rattle.disk_model.specs.Handles.{same_name}
use Rattle.disk_model.specs.declared.names.DiskName.{DiskName}
use Rattle.disk_model.specs.declared.slots.Slot.{Slot}

-- the first slot of this name
abbrev pub slot_at : {T : Type 0} → List (Slot T) → DiskName → Option (Slot T)
slot_at [] n = None
slot_at (s ∷ ss) n = if same_name s.name n then Some s else slot_at ss n

-- the list with the first slot of this name replaced
abbrev pub put_slot : {T : Type 0} → List (Slot T) → DiskName → Slot T → List (Slot T)
put_slot [] n t = []
put_slot (s ∷ ss) n t = if same_name s.name n then t ∷ ss else s ∷ put_slot ss n t

-- the first slot of this name stands at this place
pub record IsPlace {T : Type 0} (slots : List (Slot T)) (n : DiskName) (i : ℕ) : Type 0 where
  pub within : i < length slots
  pub here : slice_get slots i ≡ slot_at slots n
  pub put : (t : Slot T) → slice_set slots i t ≡ put_slot slots n t

-- what a host says of a name, from the slot of that name
abbrev pub held_in : {T : Type 0} → Option (Slot T) → Option T
held_in None = None
held_in (Some s) = s.held

abbrev pub reads_in : {T : Type 0} → (T → Image) → Option T → Image
reads_in reads None = λ f. []
reads_in reads (Some t) = reads t

-- a disk that isn't there yet has empty files, whatever a crash does
abbrev pub images_in : {T : Type 0} → (T → Image → Type 0) → Option T → Image → Type 0
images_in images None = λ c. (f : ℕ) → c f ≡ []
images_in images (Some t) = images t

abbrev pub since_in : {T : Type 0} → (T → ℕ → Image → Type 0) → Option T → ℕ → Image → Type 0
since_in since None = λ k c. (k ≡ 0) × ((f : ℕ) → c f ≡ [])
since_in since (Some t) = since t

abbrev pub number_in : {T : Type 0} → (T → ℕ) → Option T → ℕ
number_in number None = 0
number_in number (Some t) = number t

-- what is said of what is there, and else this
abbrev pub or_else : {T X : Type 0} → X → (T → X) → Option T → X
or_else x f None = x
or_else x f (Some t) = f t

abbrev pub out_held : {T : Type 0} → Option T → ℕ
out_held None = 1
out_held (Some t) = 0

-- a slot that holds nothing is out
abbrev pub outs_in : {T : Type 0} → Option (Slot T) → ℕ
outs_in None = 0
outs_in (Some s) = out_held s.held

abbrev pub shelves_in : {T : Type 0} → Option (Slot T) → ℕ
shelves_in None = 0
shelves_in (Some s) = s.shelves

abbrev pub text_in : {T : Type 0} → (T → List ℕ) → Option T → Option (List ℕ)
text_in items None = None
text_in items (Some t) = Some (items t)

-- the slots after a change at the name, whose slot was s
abbrev pub ChangesSlot : {T : Type 0} → DiskName → (Slot T → Slot T) → List (Slot T) → List (Slot T) → Type 0
ChangesSlot {T = T} n change old new = (s : Slot T) → slot_at old n ≡ Some s → new ≡ put_slot old n (change s)
