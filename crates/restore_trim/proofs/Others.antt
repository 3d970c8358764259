-- Files that are none of a task's are as they were.
use Rattle.std.proofs.Common.{ℕ, ◌≡◌, ◌≢◌, ◌<◌, ◌≤◌, ◌+◌, ◌-◌, ◌⊎◌, inl, inr, ◌∙◌, arith}
use Rattle.std.proofs.lemmas.Bool.{cases_lt}
use Rattle.samza_model.specs.Files.{Image, checkpoint_file, changelog_file, output_file}
use Rattle.disk_model.specs.Images.{SameElsewhere}
use Rattle.restore_trim.specs.Standing.{OthersStay, SameFrom, SameOutside}

-- a file that is none of so many from one on lies below them or behind
pub lies_outside : (first n file : ℕ) → ((i : ℕ) → i < n → file ≢ first + i) → (file < first) ⊎ (first + n ≤ file)
lies_outside first n file none = elim (cases_lt file first) [
  | inl low ↦ inl low
  | inr high ↦ elim (cases_lt file (first + n)) [
    | inl within ↦ absurd (none (file - first) (omega (arith, high, within)) (omega (arith, high)))
    | inr behind ↦ inr behind
  ]
]

-- a file is one of so many from one on, or lies below them or behind
pub place_of : (first n file : ℕ) → ((i : ℕ) × (i < n) × (file ≡ first + i)) ⊎ ((file < first) ⊎ (first + n ≤ file))
place_of first n file = elim (cases_lt file first) [
  | inl low ↦ inr (inl low)
  | inr high ↦ elim (cases_lt file (first + n)) [
    | inl within ↦ inl (file - first, omega (arith, high, within), omega (arith, high))
    | inr behind ↦ inr (inr behind)
  ]
]

-- the checkpoint file and the changelogs are opened
pub stores_others : (n m : ℕ) (r0 r1 r2 : Image) → SameElsewhere checkpoint_file r0 r1 → SameFrom (changelog_file n) r1 r2 → OthersStay n m r0 r2
stores_others n m r0 r1 r2 marks changelogs f other =
    let behind : changelog_file n ≤ f = elim (lies_outside (changelog_file 0) n f other.no_changelog) [
      | inl low ↦ absurd (other.no_mark (omega (arith, low)))
      | inr high ↦ omega (arith, high)
    ] in
    changelogs f behind ∙ marks f other.no_mark

-- and then the outputs
pub opened_others : (n m : ℕ) (r0 r1 r2 r3 : Image) → SameElsewhere checkpoint_file r0 r1 → SameFrom (changelog_file n) r1 r2 → SameOutside (output_file 0) m r2 r3 → OthersStay n m r0 r3
opened_others n m r0 r1 r2 r3 marks changelogs outputs f other = outputs f (lies_outside (output_file 0) m f other.no_output) ∙ stores_others n m r0 r1 r2 marks changelogs f other
