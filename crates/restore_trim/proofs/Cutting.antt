-- There is one way to cut records into frames.
use Rattle.std.proofs.Common.{ℕ, suc, ◌≡◌, ◌≤◌, ◌-◌, List, [], ◌∷◌, ◌++◌, length, take, drop, refl, sym, ◌∙◌, ap, subst, arith, length-append}
use Rattle.std.specs.List.{AllByRecursion}
use Rattle.std.proofs.lemmas.List.{append-nil, take_at, drop_at}
use Rattle.samza_model.specs.declared.messages.Record.{Record}
use Rattle.samza_model.specs.Logs.{joined}
use Rattle.log_frame.specs.Cuts.{IsCut, inner}

inner_more : (l k : List Record) (a : List (List Record)) → inner (l ∷ k ∷ a) ≡ l ∷ inner (k ∷ a)
inner_more l k a =
    let one : length (l ∷ k ∷ a) - 1 ≡ suc (length (k ∷ a) - 1) = omega arith in
    ap (λ n. take n (l ∷ k ∷ a)) one

-- of two lists or more the first is full, and so are the others but for the last
full_front : (most : ℕ) (l k : List Record) (a : List (List Record)) → AllByRecursion (λ (x : List Record). length x ≡ most) (inner (l ∷ k ∷ a))
    → (length l ≡ most) × AllByRecursion (λ (x : List Record). length x ≡ most) (inner (k ∷ a))
full_front most l k a full = subst (λ (ls : List (List Record)). AllByRecursion (λ (x : List Record). length x ≡ most) ls) (inner_more l k a) full

same_cut : (most : ℕ) (a b : List (List Record))
    → AllByRecursion (λ (l : List Record). (1 ≤ length l) × (length l ≤ most)) a → AllByRecursion (λ (l : List Record). (1 ≤ length l) × (length l ≤ most)) b
    → AllByRecursion (λ (l : List Record). length l ≡ most) (inner a) → AllByRecursion (λ (l : List Record). length l ≡ most) (inner b)
    → joined a ≡ joined b → a ≡ b
same_cut most [] [] p q f g e = refl
same_cut most [] (m ∷ b) p q f g e = absurd (omega (arith, q.0.0, ap length e, length-append m (joined b)))
same_cut most (l ∷ a) [] p q f g e = absurd (omega (arith, p.0.0, ap length e, length-append l (joined a)))
same_cut most (l ∷ []) (m ∷ []) p q f g e =
    let same : l ≡ m = sym (append-nil l) ∙ e ∙ append-nil m in
    λ i. same i ∷ []
same_cut most (l ∷ []) (m ∷ n ∷ b) p q f g e =
    absurd (omega (arith, p.0.1, q.1.0.0, (full_front most m n b g).0, ap length e, length-append l [], length-append m (n ++ joined b), length-append n (joined b)))
same_cut most (l ∷ k ∷ a) (m ∷ []) p q f g e =
    absurd (omega (arith, q.0.1, p.1.0.0, (full_front most l k a f).0, ap length e, length-append m [], length-append l (k ++ joined a), length-append k (joined a)))
same_cut most (l ∷ k ∷ a) (m ∷ n ∷ b) p q f g e =
    let f' = full_front most l k a f in
    let g' = full_front most m n b g in
    let long : length m ≡ length l = g'.0 ∙ sym f'.0 in
    let front : l ≡ m = sym (take_at l (joined (k ∷ a)) (length l) refl) ∙ ap (λ (x : List Record). take (length l) x) e ∙ take_at m (joined (n ∷ b)) (length l) long in
    let behind : joined (k ∷ a) ≡ joined (n ∷ b) = sym (drop_at l (joined (k ∷ a)) (length l) refl) ∙ ap (λ (x : List Record). drop (length l) x) e ∙ drop_at m (joined (n ∷ b)) (length l) long in
    let rest : k ∷ a ≡ n ∷ b = same_cut most (k ∷ a) (n ∷ b) p.1 q.1 f'.1 g'.1 behind in
    λ i. front i ∷ rest i

pub cut_unique : (most : ℕ) (records : List Record) (a b : List (List Record)) → IsCut most records a → IsCut most records b → a ≡ b
cut_unique most records a b p q = same_cut most a b p.each q.each p.full q.full (p.whole ∙ sym q.whole)
