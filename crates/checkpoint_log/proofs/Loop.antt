-- One item more.
use Rattle.std.proofs.Common.{ℕ, suc, ◌≡◌, ◌+◌, ◌-◌, ◌≤◌, ◌<◌, List, [], ◌∷◌, ◌++◌, Option, Some, None, refl, sym, ◌∙◌, ap, arith}
use Rattle.std.proofs.lemmas.List.{append_assoc, append-nil}
use Rattle.checkpoint_log.specs.declared.faults.CheckpointFault.{CheckpointFault}
use Rattle.checkpoint_log.specs.declared.faults.CheckpointFault.TheVariants.{Bad, NoMemory}
use Rattle.checkpoint_log.specs.Reading.{◌>>=◌, FailsCheckpoint, list_at}

-- these items, and then what is read
abbrev pub with_front : {A : Type 0} → List A → Option (List A × List ℕ) → Option (List A × List ℕ)
with_front front (Some x) = Some (front ++ x.0, x.1)
with_front front None = None

regroup : {A : Type 0} (front : List A) (r : A) (read : Option (List A × List ℕ))
    → with_front front (read >>= λ others. Some (r ∷ others.0, others.1)) ≡ with_front (front ++ r ∷ []) read
regroup front r (Some x) = ap (λ (rs : List _). Some (rs, x.1)) (sym (append_assoc front (r ∷ []) x.0))
regroup front r None = refl

pub with_front-nil : {A : Type 0} (read : Option (List A × List ℕ)) → with_front [] read ≡ read
with_front-nil (Some x) = refl
with_front-nil None = refl

module _ {A : Type 0} (read : List ℕ → Option (A × List ℕ)) (count i : ℕ) (bytes : List ℕ) (left : i < count) where
  again : count - i ≡ suc (count - (i + 1))
  again = omega (arith, left)

  pub goes_on : (front : List A) (r : A) (after : List ℕ) (total : Option (List A × List ℕ)) → read bytes ≡ Some (r, after)
      → with_front front (list_at read (count - i) bytes) ≡ total → with_front (front ++ r ∷ []) (list_at read (count - (i + 1)) after) ≡ total
  unfolding list_at
  goes_on front r after total h so_far =
      let one : with_front front (list_at read (count - i) bytes) ≡ with_front (front ++ r ∷ []) (list_at read (count - (i + 1)) after) = rw (again, h) (regroup front r (list_at read (count - (i + 1)) after)) in
      sym one ∙ so_far

  stops : (front : List A) (total : Option (List A × List ℕ)) → read bytes ≡ None → with_front front (list_at read (count - i) bytes) ≡ total → total ≡ None
  unfolding list_at
  stops front total h so_far =
      let one : with_front front (list_at read (count - i) bytes) ≡ None = rw (again, h) refl in
      sym so_far ∙ one

  pub ends : (front : List A) (e : CheckpointFault) (total : Option (List A × List ℕ)) → FailsCheckpoint e (read bytes) → with_front front (list_at read (count - i) bytes) ≡ total → FailsCheckpoint e total
  ends front Bad total h so_far = stops front total h so_far
  ends front NoMemory total h so_far = tt

pub is_done : {A : Type 0} (read : List ℕ → Option (A × List ℕ)) (count i : ℕ) (front : List A) (bytes : List ℕ) (total : Option (List A × List ℕ))
    → count ≤ i → with_front front (list_at read (count - i) bytes) ≡ total → total ≡ Some (front, bytes)
unfolding list_at
is_done read count i front bytes total le so_far =
    let k : count - i ≡ 0 = omega arith in
    let one : with_front front (list_at read (count - i) bytes) ≡ Some (front, bytes) = rw k (ap (λ (rs : List _). Some (rs, bytes)) (append-nil front)) in
    sym so_far ∙ one
