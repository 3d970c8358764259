-- Stores that are flushed one after another.
use Rattle.std.proofs.Common.{ℕ, ◌≡◌, ◌≢◌, ◌<◌, ◌+◌, List, length, get_or, sym, ◌∙◌, ap, subst, arith, ⊎_elim}
use Rattle.std.proofs.Math.ListN.{set}
use Rattle.std.proofs.lemmas.List.{map-set, get_or-set_same, get_or-set_other, set-get_or}
use Rattle.std.proofs.lemmas.Bool.{cases_eq}
use Rattle.samza_model.specs.Content.{Content, nothing_stored}
use Rattle.kv_store.specs.Tracked.{Tracked}
use Rattle.core_steps.specs.Held.{tracked_at, contents_of}
use Rattle.core_steps.proofs.Laws.{content_at}

-- what holds of each item below i holds of each below i + 1 where it holds of the i-th, which is set
pub settled_more : {A : Type 0} (P : A → Type 0) (xs : List A) (i : ℕ) (x d : A) → i < length xs → P x
    → ((k : ℕ) → k < i → P (get_or xs k d)) → (k : ℕ) → k < i + 1 → P (get_or (set xs i x) k d)
settled_more P xs i x d lt p before k below = ⊎_elim
    (λ (e : k ≡ i). subst (λ (n : ℕ). P (get_or (set xs i x) n d)) (sym e) (subst P (sym (get_or-set_same xs i x d lt)) p))
    (λ (ne : k ≢ i). subst P (sym (get_or-set_other xs i k x d ne)) (before k (omega (arith, below, ne))))
    (cases_eq k i)

-- a store set to one of the same content
pub same_contents : (stores : List Tracked) (i : ℕ) (t : Tracked) → i < length stores → t.content ≡ (tracked_at stores i).content → contents_of (set stores i t) ≡ contents_of stores
same_contents stores i t lt same =
    map-set (λ (u : Tracked). u.content) stores i t ∙ ap (λ (c : Content). set (contents_of stores) i c) (same ∙ sym (content_at stores i lt)) ∙ set-get_or (contents_of stores) i nothing_stored
