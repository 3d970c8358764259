-- Words that begin a command.
use Rattle.std.proofs.Common.{ℕ, ◌≡◌, List, [], ◌∷◌, take, codes, inl, inr, refl}
use Rattle.container_texts.specs.Words.{BeginsCommand, IsCommand, IsFolder, IsFront, IsReadTo, IsRefusedAt}

some_folder : List ℕ
some_folder = 102 ∷ []

is_folder : IsFolder some_folder
unfolding some_folder
is_folder = λ is. cc is

front_begins : (words : List (List ℕ)) → IsFront words → BeginsCommand words
front_begins [] is = (codes "run" ∷ some_folder ∷ [], (refl, is_folder))
front_begins (word ∷ []) is = (some_folder ∷ [], (is, is_folder))
front_begins (word ∷ folder ∷ []) is = ([], is)
front_begins (word ∷ folder ∷ more ∷ words) is = absurd is

one_front : (word : List ℕ) (more : List (List ℕ)) → IsCommand (word ∷ more) → word ≡ codes "run"
one_front word [] is = absurd is
one_front word (folder ∷ []) is = is.0
one_front word (folder ∷ m ∷ ms) is = absurd is

two_front : (word folder : List ℕ) (more : List (List ℕ)) → IsCommand (word ∷ folder ∷ more) → (word ≡ codes "run") × IsFolder folder
two_front word folder [] is = is
two_front word folder (m ∷ ms) is = absurd is

begins_front : (words : List (List ℕ)) → BeginsCommand words → IsFront words
begins_front [] b = tt
begins_front (word ∷ []) b = one_front word b.0 b.1
begins_front (word ∷ folder ∷ []) b = two_front word folder b.0 b.1
begins_front (word ∷ folder ∷ more ∷ words) b = b.1

-- the word to which they were read is the one that is refused
pub refused_at : (words : List (List ℕ)) (place : ℕ) → IsReadTo words place → IsRefusedAt words place
refused_at words place r = record {
  counted = r.counted;
  before = front_begins _ r.before;
  here = elim r.here [
    | inl h ↦ inl (h.0, λ b. h.1 (begins_front (take place words) b))
    | inr h ↦ inr h
  ];
}
