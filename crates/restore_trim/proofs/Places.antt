-- Two lists of which a part of each item is the same agree in that part at each place.
use Rattle.std.proofs.Common.{ℕ, ◌≡◌, ◌<◌, List, length, get_or, map, sym, ◌∙◌, ap}
use Rattle.std.proofs.lemmas.List.{get_or-map}

pub same_part : {A B C : Type 0} (f : A → C) (g : B → C) (xs : List A) (ys : List B) (i : ℕ) (d : A) (e : B)
    → i < length xs → i < length ys → map f xs ≡ map g ys → f (get_or xs i d) ≡ g (get_or ys i e)
same_part f g xs ys i d e lx ly is =
    sym (get_or-map f xs i d (f d) lx) ∙ ap (λ l. get_or l i (f d)) is ∙ get_or-map g ys i e (f d) ly
