-- Disks with the same meanings, and counts by name.
use Rattle.std.proofs.Common.{ℕ, ◌≡◌, ◌≢◌, ◌+◌, refl, sym, ap, ◌∙◌, arith}
use Rattle.samza_model.specs.Files.{Image}
use Rattle.disk_model.specs.Folders.{Folder}
use Rattle.disk_model.specs.Handles.{AsMany, OneMore, SameAt, SameDisk}
use Rattle.disk_model.specs.declared.names.DiskName.{DiskName}

pub same_disk_refl : (r : Image) (i : Image → Type 0) (s : ℕ → Image → Type 0) (n : ℕ) → SameDisk r i s n r i s n
same_disk_refl r i s n = record { reads_are = refl; images_are = λ c. ((λ x. x), (λ x. x)); since_are = λ k c. ((λ x. x), (λ x. x)); number_is = refl }

module _ (r r' : Image) (i i' : Image → Type 0) (s s' : ℕ → Image → Type 0) (n n' : ℕ) where
  pub same_disk_sym : SameDisk r i s n r' i' s' n' → SameDisk r' i' s' n' r i s n
  same_disk_sym h = record {
    reads_are = sym h.reads_are;
    images_are = λ c. ((h.images_are c).1, (h.images_are c).0);
    since_are = λ k c. ((h.since_are k c).1, (h.since_are k c).0);
    number_is = sym h.number_is;
  }

  pub same_disk_trans : (r'' : Image) (i'' : Image → Type 0) (s'' : ℕ → Image → Type 0) (n'' : ℕ) → SameDisk r i s n r' i' s' n' → SameDisk r' i' s' n' r'' i'' s'' n'' → SameDisk r i s n r'' i'' s'' n''
  same_disk_trans r'' i'' s'' n'' h h' = record {
    reads_are = h'.reads_are ∙ h.reads_are;
    images_are = λ c. ((λ x. (h'.images_are c).0 ((h.images_are c).0 x)), (λ x. (h.images_are c).1 ((h'.images_are c).1 x)));
    since_are = λ k c. ((λ x. (h'.since_are k c).0 ((h.since_are k c).0 x)), (λ x. (h.since_are k c).1 ((h'.since_are k c).1 x)));
    number_is = h'.number_is ∙ h.number_is;
  }

module _ {H : Type 0} (folder : H → Folder) (images : H → DiskName → Image → Type 0) (since : H → DiskName → ℕ → Image → Type 0) (number : H → DiskName → ℕ) where
  pub same_at_refl : (h : H) (n : DiskName) → SameAt folder images since number h h n
  same_at_refl h n = record { disk = same_disk_refl ((folder h).disks n) (images h n) (since h n) (number h n); files_are = refl }

  pub same_at_sym : (h h' : H) (n : DiskName) → SameAt folder images since number h h' n → SameAt folder images since number h' h n
  same_at_sym h h' n p = record {
    disk = same_disk_sym ((folder h).disks n) ((folder h').disks n) (images h n) (images h' n) (since h n) (since h' n) (number h n) (number h' n) p.disk;
    files_are = sym p.files_are;
  }

  pub same_at_trans : (h h' h'' : H) (n : DiskName) → SameAt folder images since number h h' n → SameAt folder images since number h' h'' n → SameAt folder images since number h h'' n
  same_at_trans h h' h'' n p q = record {
    disk = same_disk_trans ((folder h).disks n) ((folder h').disks n) (images h n) (images h' n) (since h n) (since h' n) (number h n) (number h' n) ((folder h'').disks n) (images h'' n) (since h'' n) (number h'' n) p.disk q.disk;
    files_are = q.files_are ∙ p.files_are;
  }

pub as_many_trans : (a b c : DiskName → ℕ) → AsMany a b → AsMany b c → AsMany a c
as_many_trans a b c p q n = q n ∙ p n

-- one more, counted from as many
pub as_many_one_more : (a b c : DiskName → ℕ) (n : DiskName) → AsMany a b → OneMore n b c → OneMore n a c
as_many_one_more a b c n p q = record {
  here = q.here ∙ ap (λ m. m + 1) (p n);
  elsewhere = λ m ne. q.elsewhere m ne ∙ p m;
}

-- one more, and then as many
pub one_more_as_many : (a b c : DiskName → ℕ) (n : DiskName) → OneMore n a b → AsMany b c → OneMore n a c
one_more_as_many a b c n p q = record {
  here = q n ∙ p.here;
  elsewhere = λ m ne. q m ∙ p.elsewhere m ne;
}

-- one more, and that one back
pub there_and_back : (a b c : DiskName → ℕ) (n : DiskName) → OneMore n a b → OneMore n c b → ((m : DiskName) → m ≢ n → c m ≡ a m) × (c n ≡ a n)
there_and_back a b c n p q = (λ m ne. sym (q.elsewhere m ne) ∙ p.elsewhere m ne, omega (arith, p.here, q.here))
