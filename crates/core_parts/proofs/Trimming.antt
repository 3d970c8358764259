-- A journal trimmed in place.
use Rattle.std.proofs.Common.{ℕ, zero, suc, ◌+◌, ◌-◌, ◌<◌, ◌≡◌, ◌≤◌, ◌⊎◌, inl, inr, Bool, true, false, List, [], ◌∷◌, ◌++◌, length, take, drop, reverse, refl, sym, ◌∙◌, ap, arith, append-nil}
use Rattle.std.proofs.lemmas.List.{reverse-append, take_all, drop_all}
use Rattle.std.proofs.lemmas.List.Elements.{filter-append}
use Rattle.std.specs.Prelude.{filter}
use Rattle.samza_model.specs.declared.events.Event.{Event}
use Rattle.samza_model.specs.Journals.{Trimmed}

either_is : (b : Bool) → (b ≡ true) ⊎ (b ≡ false)
either_is true = inl refl
either_is false = inr refl

filter_reverse : (q : Event → Bool) (xs : List Event) → filter q (reverse xs) ≡ reverse (filter q xs)
filter_reverse q [] = refl
filter_reverse q (x ∷ xs) =
    ap (filter q) (reverse-append (x ∷ []) xs) ∙ filter-append q (reverse xs) (x ∷ []) ∙ ap (λ l. l ++ filter q (x ∷ [])) (filter_reverse q xs)
    ∙ elim (either_is (q x)) [
      | inl e ↦ rw e (sym (reverse-append (x ∷ []) (filter q xs)))
      | inr e ↦ rw e (append-nil (reverse (filter q xs)))
    ]

take_and_drop : {X : Type 0} (n : ℕ) (xs : List X) → take n xs ++ drop n xs ≡ xs
take_and_drop zero xs = refl
take_and_drop (suc n) [] = refl
take_and_drop (suc n) (x ∷ xs) = ap (λ l. x ∷ l) (take_and_drop n xs)

abbrev parts : List Event → List Event → Trimmed
parts since kept = record { since = since; kept = kept }

pub trimmed : (q : Event → Bool) (xs ys : List Event) (cut n : ℕ) (v : Trimmed) → parts (reverse (drop cut xs)) (reverse (take cut xs)) ≡ v → ys ≡ filter q xs → length ys ≤ n
    → parts (reverse (drop n ys)) (reverse (take n ys)) ≡ parts [] (filter q (v.since ++ v.kept))
trimmed q xs ys cut n v view is le =
    let none : drop n ys ≡ [] = drop_all n ys le in
    let whole : take n ys ≡ ys = take_all n ys le in
    let all : reverse xs ≡ v.since ++ v.kept = ap reverse (sym (take_and_drop cut xs)) ∙ reverse-append (take cut xs) (drop cut xs) ∙ ap (λ (t : Trimmed). t.since ++ t.kept) view in
    let kept : reverse (take n ys) ≡ filter q (v.since ++ v.kept) = ap reverse (whole ∙ is) ∙ sym (filter_reverse q xs) ∙ ap (filter q) all in
    λ i. parts (reverse (none i)) (kept i)

-- all events of a journal, the newest first
pub all_events : (xs : List Event) (cut : ℕ) (v : Trimmed) → parts (reverse (drop cut xs)) (reverse (take cut xs)) ≡ v → reverse xs ≡ v.since ++ v.kept
all_events xs cut v view = ap reverse (sym (take_and_drop cut xs)) ∙ reverse-append (take cut xs) (drop cut xs) ∙ ap (λ (t : Trimmed). t.since ++ t.kept) view

-- of all events some are kept
pub kept_reversed : (q : Event → Bool) (xs ys : List Event) (cut : ℕ) (v : Trimmed) → parts (reverse (drop cut xs)) (reverse (take cut xs)) ≡ v → ys ≡ filter q xs → reverse ys ≡ filter q (v.since ++ v.kept)
kept_reversed q xs ys cut v view is = ap reverse is ∙ sym (filter_reverse q xs) ∙ ap (filter q) (all_events xs cut v view)

record Snoc (es : List Event) : Type 0 where
  front : List Event
  last : Event
  is : es ≡ front ++ last ∷ []
  count : length es ≡ length front + 1

snoc : (es : List Event) → 0 < length es → Snoc es
snoc [] some = absurd (omega (arith, some))
snoc (x ∷ []) some = record { front = []; last = x; is = refl; count = refl }
snoc (x ∷ y ∷ es) some =
    let s = snoc (y ∷ es) (omega arith) in
    record { front = x ∷ s.front; last = s.last; is = ap (λ l. x ∷ l) s.is; count = omega (arith, s.count) }

take_front : (xs ys : List Event) (n : ℕ) → n ≤ length xs → take n (xs ++ ys) ≡ take n xs
take_front xs ys zero le = refl
take_front [] ys (suc n) le = absurd (omega (arith, le))
take_front (x ∷ xs) ys (suc n) le = ap (λ l. x ∷ l) (take_front xs ys n (omega (arith, le)))

drop_front : (xs ys : List Event) (n : ℕ) → n ≤ length xs → drop n (xs ++ ys) ≡ drop n xs ++ ys
drop_front xs ys zero le = refl
drop_front [] ys (suc n) le = absurd (omega (arith, le))
drop_front (x ∷ xs) ys (suc n) le = drop_front xs ys n (omega (arith, le))

-- the newest event since the mark taken back
pub record TakenBack (es fs : List Event) (cut : ℕ) (v : Trimmed) : Type 0 where
  pub within : cut ≤ length fs
  pub since : reverse (drop cut fs) ≡ drop 1 v.since
  pub kept : reverse (take cut fs) ≡ v.kept
  pub ahead : take cut fs ≡ take cut es

pub taken_back : (es fs : List Event) (cut : ℕ) (v : Trimmed) → parts (reverse (drop cut es)) (reverse (take cut es)) ≡ v → cut < length es → fs ≡ take (length es - 1) es → TakenBack es fs cut v
taken_back es fs cut v view lt is =
    let s = snoc es (omega (arith, lt)) in
    let le : cut ≤ length s.front = omega (arith, lt, s.count) in
    let n : length es - 1 ≡ length s.front = omega (arith, s.count) in
    let fs_is : fs ≡ s.front = is ∙ (λ i. take (n i) (s.is i)) ∙ take_front s.front (s.last ∷ []) (length s.front) (omega arith) ∙ take_all (length s.front) s.front (omega arith) in
    let behind : reverse (drop cut es) ≡ s.last ∷ reverse (drop cut s.front) = ap (λ l. reverse (drop cut l)) s.is ∙ ap reverse (drop_front s.front (s.last ∷ []) cut le) ∙ reverse-append (drop cut s.front) (s.last ∷ []) in
    let ahead : take cut es ≡ take cut s.front = ap (take cut) s.is ∙ take_front s.front (s.last ∷ []) cut le in
    record {
      within = omega (arith, le, ap length fs_is);
      since = ap (λ l. reverse (drop cut l)) fs_is ∙ ap (drop 1) (sym behind) ∙ ap (λ (t : Trimmed). drop 1 t.since) view;
      kept = ap (λ l. reverse (take cut l)) fs_is ∙ ap reverse (sym ahead) ∙ ap (λ (t : Trimmed). t.kept) view;
      ahead = ap (take cut) fs_is ∙ sym ahead;
    }
