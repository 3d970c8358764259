-- A key among pairs whose keys rise.
use Rattle.std.proofs.Common.{◌≡◌, ◌≢◌, Bool, true, false, cond, ◌&&◌, T, List, [], ◌∷◌, ◌++◌, Some, None, refl, sym, ap, subst, ◌∙◌}
use Rattle.std.specs.declared.cmp.Ordering.{Ordering}
use Rattle.std.specs.declared.cmp.Ordering.TheVariants.{Less, Equal, Greater}
use Rattle.std.specs.Ordering.{is_lt, is_eq, eq_by_cmp, ordering_reverse}
use Rattle.std.specs.Cmp.{IsTotalOrder}
use Rattle.std.specs.FinMap.Entries.{find, put, is_sorted, below_all, by_order}

both : (a b : Bool) → T a → T b → T (a && b)
both true b p q = q
both false b p q = p

first : (a b : Bool) → T (a && b) → T a
first true b p = tt
first false b p = p

second : (a b : Bool) → T (a && b) → T b
second true b p = p
second false b p = absurd p

less : (o : Ordering) → T (is_lt o) → o ≡ Less
less Less p = refl
less Equal p = absurd p
less Greater p = absurd p

Less≢Equal : Less ≢ Equal
Less≢Equal e = subst (λ r. T (is_lt r)) e tt

-- a key before q's place is passed
passed : {K : Type 0} {R : K → K → Ordering} → IsTotalOrder R → (q x y : K) → R q y ≢ Less → R x y ≡ Less → eq_by_cmp R q x ≡ false
passed {R = R} o q x y above p = elim (R q x) as (λ r. R q x ≡ r → is_eq r ≡ false) [
  | Less ↦ λ e. refl
  | Equal ↦ λ e. absurd (above (o.congr q x y e ∙ p))
  | Greater ↦ λ e. refl
] refl

module _ {K X : Type 0} (R : K → K → Ordering) where
  below_front : (x : K) (fs bs : List (K × X)) → T (below_all R x (fs ++ bs)) → T (below_all R x fs)
  below_front x [] bs h = tt
  below_front x (a ∷ fs) bs h = both _ _ (first _ _ h) (below_front x fs bs (second _ _ h))

  below_at : (x : K) (fs : List (K × X)) (e : K × X) (bs : List (K × X)) → T (below_all R x (fs ++ e ∷ bs)) → R x e.0 ≡ Less
  below_at x [] e bs h = less _ (first _ _ h)
  below_at x (a ∷ fs) e bs h = below_at x fs e bs (second _ _ h)

  pub is_sorted-front : (fs bs : List (K × X)) → T (is_sorted R (fs ++ bs)) → T (is_sorted R fs)
  is_sorted-front [] bs h = tt
  is_sorted-front (a ∷ fs) bs h = both _ _ (below_front a.0 fs bs (first _ _ h)) (is_sorted-front fs bs (second _ _ h))

  pub is_sorted-back : (fs bs : List (K × X)) → T (is_sorted R (fs ++ bs)) → T (is_sorted R bs)
  is_sorted-back [] bs h = h
  is_sorted-back (a ∷ fs) bs h = is_sorted-back fs bs (second _ _ h)

  module _ (o : IsTotalOrder R) where
    Below-less : (x y : K) (es : List (K × X)) → R x y ≡ Less → T (below_all R y es) → T (below_all R x es)
    Below-less x y [] p h = tt
    Below-less x y (e ∷ es) p h = both _ _ (subst (λ r. T (is_lt r)) (sym (o.trans x y e.0 p (less _ (first _ _ h)))) tt) (Below-less x y es p (second _ _ h))

    find_below : (q : K) (es : List (K × X)) → T (below_all R q es) → find R q es ≡ None
    find_below q [] h = refl
    find_below q (e ∷ es) h = ap (λ r. cond (is_eq r) (Some e.1) (find R q es)) (less _ (first _ _ h)) ∙ find_below q es (second _ _ h)

    find_passed : (q : K) (fs : List (K × X)) (e : K × X) (bs : List (K × X)) → T (is_sorted R (fs ++ e ∷ bs)) → R q e.0 ≢ Less → find R q (fs ++ e ∷ bs) ≡ find R q (e ∷ bs)
    find_passed q [] e bs h above = refl
    find_passed q (a ∷ fs) e bs h above =
        ap (λ b. cond b (Some a.1) (find R q (fs ++ e ∷ bs))) (passed o q a.0 e.0 above (below_at a.0 fs e bs (first _ _ h)))
        ∙ find_passed q fs e bs (second _ _ h) above

    find_front : (q : K) (fs bs : List (K × X)) → find R q bs ≡ None → find R q (fs ++ bs) ≡ find R q fs
    find_front q [] bs none = none
    find_front q (a ∷ fs) bs none = ap (cond (eq_by_cmp R q a.0) (Some a.1)) (find_front q fs bs none)

    pub find-equal : (q : K) (fs : List (K × X)) (e : K × X) (bs : List (K × X)) → T (is_sorted R (fs ++ e ∷ bs)) → R q e.0 ≡ Equal → find R q (fs ++ e ∷ bs) ≡ Some e.1
    find-equal q fs e bs h p = find_passed q fs e bs h (λ l. Less≢Equal (sym l ∙ p)) ∙ ap (λ r. cond (is_eq r) (Some e.1) (find R q bs)) p

    pub find-greater : (q : K) (fs : List (K × X)) (e : K × X) (bs : List (K × X)) → T (is_sorted R (fs ++ e ∷ bs)) → R q e.0 ≡ Greater → find R q (fs ++ e ∷ bs) ≡ find R q bs
    find-greater q fs e bs h p = find_passed q fs e bs h (λ l. subst (λ r. T (is_lt r)) (sym l ∙ p) tt) ∙ ap (λ r. cond (is_eq r) (Some e.1) (find R q bs)) p

    pub find-less : (q : K) (fs : List (K × X)) (e : K × X) (bs : List (K × X)) → T (is_sorted R (fs ++ e ∷ bs)) → R q e.0 ≡ Less → find R q (fs ++ e ∷ bs) ≡ find R q fs
    find-less q fs e bs h p = find_front q fs (e ∷ bs) (find_below q (e ∷ bs) (both _ _ (subst (λ r. T (is_lt r)) (sym p) tt) (Below-less q e.0 bs p (first _ _ (is_sorted-back fs (e ∷ bs) h)))))

    -- a key above all others is put behind them
    pub put-last : (k : K) (v : X) (es : List (K × X)) (bs : List (K × X)) → T (is_sorted R (es ++ (k, v) ∷ bs)) → put R k v es ≡ es ++ (k, v) ∷ []
    put-last k v [] bs h = refl
    put-last k v (e ∷ es) bs h =
        ap (λ r. by_order r ((k, v) ∷ e ∷ es) ((e.0, v) ∷ es) (e ∷ put R k v es)) (o.antisymm k e.0 ∙ ap ordering_reverse (below_at e.0 es (k, v) bs (first _ _ h)))
        ∙ ap (λ l. e ∷ l) (put-last k v es bs (second _ _ h))
