-- A pair put into the tree is put into the map, and what that does to the lines behind.
use Rattle.std.proofs.Common.{◌≡◌, ℕ, T, List, [], ◌∷◌, length, Result, Ok, Err, refl, sym, ap, subst, ◌∙◌, arith}
use Rattle.std.proofs.lemmas.Cmp.{nat_list_cmp_total}
use Rattle.std.specs.declared.cmp.Ordering.{Ordering}
use Rattle.std.specs.declared.cmp.Ordering.TheVariants.{Less, Equal, Greater}
use Rattle.std.specs.declared.vec.Vec.{Vec}
use Rattle.std.specs.Ordering.{nat_cmp, match_ordering}
use Rattle.std.specs.BTreeMap.{insert_entry}
use Rattle.std.specs.Cmp.Lexicographic.{slice_cmp}
use Rattle.std.specs.FinMap.{entries, empty, insert, put, entries_sorted, same_entries_map, entries-insert, len-empty, len-entries}
use Rattle.std.specs.FinMap.Entries.{by_order}
use Rattle.props_text.specs.declared.unit.Placed.{Placed}
use Rattle.props_text.specs.declared.faults.PropsFault.{PropsFault}
use Rattle.props_text.specs.declared.faults.PropsFault.TheVariants.{BadEscape, NoMemory}
use Rattle.props_text.specs.Pairs.{Props, pair_of, pairs_onto, ◌>>=◌}
use Rattle.props_text.specs.Sorted.{rises, entries_of}
use Rattle.props_text.specs.Outcome.{FailsProps}
use Rattle.props_text.specs.Steps.{map_entries}

one_of : {A B : Type 0} (f : A → B) (r : Ordering) (x y z : A) → f (match_ordering r x y z) ≡ by_order r (f x) (f y) (f z)
one_of f Less x y z = refl
one_of f Equal x y z = refl
one_of f Greater x y z = refl

pub tree_insert : {A : Type 0} (es : List (Vec ℕ A × Vec ℕ A)) (k v : Vec ℕ A)
    → entries_of (insert_entry (λ x y. slice_cmp nat_cmp x.items y.items) es k v) ≡ put (slice_cmp nat_cmp) k.items v.items (entries_of es)
tree_insert [] k v = refl
tree_insert (e ∷ es) k v =
    one_of entries_of (slice_cmp nat_cmp k.items e.0.items) ((k, v) ∷ e ∷ es) ((e.0, v) ∷ es) (e ∷ insert_entry (λ x y. slice_cmp nat_cmp x.items y.items) es k v)
    ∙ ap (λ l. by_order (slice_cmp nat_cmp k.items e.0.items) ((k.items, v.items) ∷ entries_of (e ∷ es)) ((e.0.items, v.items) ∷ entries_of es) ((e.0.items, e.1.items) ∷ l)) (tree_insert es k v)

-- an empty logical line leaves the map
pub puts_none : (line : List Placed) (old : List (List ℕ × List ℕ)) → length line ≡ 0
    → (m : Props) → entries m ≡ old → (n : Props) × (entries n ≡ old) × ((ls : List (List Placed)) → pairs_onto m (line ∷ ls) ≡ pairs_onto n ls)
unfolding pairs_onto
puts_none [] old none m e = (m, e, λ ls. refl)
puts_none (p ∷ ps) old none m e = absurd (omega arith)

pub puts_pair : {A : Type 0} (line : List Placed) (es fs : List (Vec ℕ A × Vec ℕ A)) (k v : Vec ℕ A) → (length line ≡ 0 → ⊥) → pair_of line ≡ Ok (k.items, v.items)
    → fs ≡ insert_entry (λ x y. slice_cmp nat_cmp x.items y.items) es k v
    → (m : Props) → entries m ≡ entries_of es → (n : Props) × (entries n ≡ entries_of fs) × ((ls : List (List Placed)) → pairs_onto m (line ∷ ls) ≡ pairs_onto n ls)
unfolding pairs_onto
puts_pair [] es fs k v some is put_in m e = absurd (some refl)
puts_pair (p ∷ ps) es fs k v some is put_in m e = (
  insert m k.items v.items,
  entries-insert nat_list_cmp_total m k.items v.items ∙ ap (put (slice_cmp nat_cmp) k.items v.items) e ∙ sym (tree_insert es k v) ∙ ap entries_of (sym put_in),
  λ ls. ap (λ r. r >>= λ pair. pairs_onto (insert m pair.0 pair.1) ls) is,
)

pub puts_fails : (fault : PropsFault) (line : List Placed) → (length line ≡ 0 → ⊥) → FailsProps fault (pair_of line)
    → (m : Props) (ls : List (List Placed)) → FailsProps fault (pairs_onto m (line ∷ ls))
unfolding pairs_onto
puts_fails fault [] some fails m ls = absurd (some refl)
puts_fails NoMemory (p ∷ ps) some fails m ls = tt
puts_fails (BadEscape n) (p ∷ ps) some fails m ls = ap (λ r. r >>= λ pair. pairs_onto (insert m pair.0 pair.1) ls) fails

pub no_lines : (m : Props) → pairs_onto m [] ≡ Ok m
unfolding pairs_onto
no_lines m = refl

nothing : {A : Type 0} (es : List A) → length es ≡ 0 → [] ≡ es
nothing [] e = refl
nothing (x ∷ es) e = absurd (omega arith)

pub entries-none : entries (empty {X = List ℕ} {R = slice_cmp nat_cmp}) ≡ []
entries-none = sym (nothing _ (sym (len-entries _) ∙ len-empty (slice_cmp nat_cmp) (List ℕ)))

-- what the tree holds at the end is in order, and is the map that is read
pub rises-read : (read : Result Props ℕ) (es : List (List ℕ × List ℕ)) → map_entries read ≡ Ok es → T (rises es)
rises-read (Ok m) es e = let same : entries m ≡ es = cc in subst (λ l. T (rises l)) same (entries_sorted m)
rises-read (Err n) es e = absurd (cc)

pub map_read : (read : Result Props ℕ) (es : List (List ℕ × List ℕ)) (m : Props) → map_entries read ≡ Ok es → entries m ≡ es → read ≡ Ok m
map_read (Ok n) es m e is = let same : entries n ≡ entries m = cc in ap Ok (same_entries_map n m same)
map_read (Err n) es m e is = absurd (cc)

pub fault_read : (fault : PropsFault) (read : Result Props ℕ) → FailsProps fault (map_entries read) → FailsProps fault read
fault_read NoMemory read e = tt
fault_read (BadEscape n) (Ok m) e = absurd (cc)
fault_read (BadEscape n) (Err k) e = let same : k ≡ n = cc in ap Err same

pub fault_entries : (fault : PropsFault) (read : Result Props ℕ) → FailsProps fault read → FailsProps fault (map_entries read)
fault_entries NoMemory read e = tt
fault_entries (BadEscape n) read e = ap map_entries e
