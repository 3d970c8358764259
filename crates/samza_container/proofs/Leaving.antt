-- What a crash at any moment leaves of a host's disk that was handed out meanwhile.
use Rattle.std.proofs.Common.{ℕ, ◌≡◌, ◌≤◌, List, inl, inr, refl, sym, subst, arith}
use Rattle.samza_model.specs.Files.{Image}
use Rattle.disk_model.specs.declared.names.DiskName.{DiskName}
use Rattle.disk_model.specs.Folders.{Folder}
use Rattle.disk_model.specs.Handles.{SameAt, SameDisk}
use Rattle.disk_model.specs.Images.{LeavesOnly}
use Rattle.disk_model.proofs.Laws.{started, same_at_trans, same_disk_refl}
use Rattle.samza_container.specs.Leaves.{LeavesAt}

module _ {D : Type 0} (number : D → ℕ) (images : D → Image → Type 0) (since : D → ℕ → Image → Type 0) where
  -- no call was made
  pub untouched : (old new : D) (step : Image → Image → Type 0) → new ≡ old
      → ((c : Image) → since old (number old) c → images old c)
      → ((c : Image) → step c c)
      → LeavesOnly number images since old new step
  untouched old new step same only stays =
      subst (λ d. LeavesOnly number images since old d step) (sym same)
      (started number images since old step only (λ c now. (c, now, stays c)))

-- a disk that was a host's and is again a host's
pub given_back : {D H : Type 0} (number : D → ℕ) (images : D → Image → Type 0) (since : D → ℕ → Image → Type 0)
    (number' : H → ℕ) (images' : H → Image → Type 0) (since' : H → ℕ → Image → Type 0) (reads₀ reads₁ reads₂ reads₃ : Image)
    (lent back : D) (before after : H) (step : Image → Image → Type 0)
    → SameDisk reads₀ (images' before) (since' before) (number' before) reads₁ (images lent) (since lent) (number lent)
    → SameDisk reads₂ (images back) (since back) (number back) reads₃ (images' after) (since' after) (number' after)
    → LeavesOnly number images since lent back step
    → LeavesOnly number' images' since' before after step
given_back number images since number' images' since' reads₀ reads₁ reads₂ reads₃ lent back before after step out home run =
    let start : number lent ≡ number' before = out.number_is in
    let end : number' after ≡ number back = home.number_is in
    let up : number lent ≤ number back = run.later in
    let from : (c : Image) → ((d : Image) × images lent d × step d c) → (d : Image) × images' before d × step d c =
    λ c p. (p.0, (out.images_are p.0).1 p.1, p.2) in
    record {
      later = omega (arith, start, end, up);
      each = λ c left. from c (run.each c (subst (λ k. since back k c) (sym start) ((home.since_are (number' before) c).1 left)));
      before = λ k c low left. elim (run.before k c (omega (arith, low, start)) ((home.since_are k c).1 left)) [
        | inl past ↦ inl ((out.since_are k c).1 past)
        | inr p ↦ inr (from c p)
      ];
    }

-- and so it reads
pub reads_back : {D H : Type 0} (number : D → ℕ) (images : D → Image → Type 0) (since : D → ℕ → Image → Type 0)
    (images' : H → Image → Type 0) (since' : H → ℕ → Image → Type 0) (number' : H → ℕ) (reads₀ reads₁ reads₂ reads₃ : Image)
    (lent back : D) (before : H) (step : Image → Image → Type 0)
    → SameDisk reads₀ (images' before) (since' before) (number' before) reads₁ (images lent) (since lent) (number lent)
    → reads₃ ≡ reads₂ → images back reads₂
    → ((k : ℕ) (c : Image) → k ≤ number back → images back c → since back k c)
    → LeavesOnly number images since lent back step
    → (d : Image) × images' before d × step d reads₃
reads_back number images since images' since' number' reads₀ reads₁ reads₂ reads₃ lent back before step out same is counts run =
    let p : (d : Image) × images lent d × step d reads₂ = run.each reads₂ (counts (number lent) reads₂ run.later is) in
    (p.0, (out.images_are p.0).1 p.1, subst (λ (i : Image). step p.0 i) (sym same) p.2)

module _ {H : Type 0} (folder : H → Folder) (images : H → DiskName → Image → Type 0) (since : H → DiskName → ℕ → Image → Type 0) (number : H → DiskName → ℕ) where
  -- a host that left a disk as it was, and then did more
  pub same_then : (old mid new : H) (n : DiskName) (step : Image → Image → Type 0)
      → SameAt folder images since number old mid n → LeavesAt folder images since number mid new n step → LeavesAt folder images since number old new n step
  same_then old mid new n step same (inl more) = inl (same_at_trans folder images since number old mid new n same more)
  same_then old mid new n step same (inr m) = inr (record {
    moment = given_back (λ h. number h n) (λ h. images h n) (λ h. since h n) (λ h. number h n) (λ h. images h n) (λ h. since h n) ((folder old).disks n) ((folder mid).disks n) ((folder new).disks n) ((folder new).disks n)
        mid new old new step same.disk (same_disk_refl ((folder new).disks n) (images new n) (since new n) (number new n)) m.moment;
    reads = (m.reads.0, (same.disk.images_are m.reads.0).1 m.reads.1, m.reads.2);
  })
