-- What writes and cuts leave of a file's bytes.
use Rattle.std.proofs.Common.{ℕ, ◌≡◌, ◌+◌, ◌<◌, ◌≤◌, List, [], ◌∷◌, ◌++◌, length, take, drop, get_or, refl, sym, ◌∙◌, ap, arith, append_assoc, length-append, take-append-drop}
use Rattle.std.proofs.lemmas.List.{take-take, take_at, drop_at, take_all, drop_all, append-nil, drop_more}
use Rattle.samza_model.specs.Files.{Image}
use Rattle.disk_model.specs.Images.{TornWrite, TornCut}
use Rattle.topic_log.specs.Moves.{KeepsFront}

pub torn_none : (file at n : ℕ) (c : Image) → TornWrite file at n c c
torn_none file at n c = record { before = refl; behind = refl; no_shorter = omega arith; no_longer = omega arith; elsewhere = λ f other. refl }

pub front_none : (file n : ℕ) (c : Image) → KeepsFront file n c c
front_none file n c = record { front = refl; elsewhere = λ f other. refl }

pub front_then : (file n : ℕ) (a b c : Image) → KeepsFront file n a b → KeepsFront file n b c → KeepsFront file n a c
front_then file n a b c p q = record { front = q.front ∙ p.front; elsewhere = λ f other. q.elsewhere f other ∙ p.elsewhere f other }

-- a write or a cut behind the front keeps it
pub front_torn : (file n at len : ℕ) (a b : Image) → n ≤ at → TornWrite file at len a b → KeepsFront file n a b
front_torn file n at len a b le torn = record {
  front = sym (take-take n at (b file) le) ∙ ap (λ (l : List ℕ). take n l) torn.before ∙ take-take n at (a file) le;
  elsewhere = torn.elsewhere;
}

pub front_cut : (file n size : ℕ) (a b : Image) → n ≤ size → TornCut file size a b → KeepsFront file n a b
front_cut file n size a b le torn = record {
  front = sym (take-take n size (b file) le) ∙ ap (λ (l : List ℕ). take n l) torn.before ∙ take-take n size (a file) le;
  elsewhere = torn.elsewhere;
}

-- a write at the end
pub written_end : (at : ℕ) (old new bytes : List ℕ) → at ≡ length old → new ≡ take at old ++ bytes ++ drop (at + length bytes) old → new ≡ old ++ bytes
written_end at old new bytes e is =
    is
    ∙ ap (λ (l : List ℕ). l ++ bytes ++ drop (at + length bytes) old) (take_all at old (omega (arith, e)))
    ∙ ap (λ (l : List ℕ). old ++ bytes ++ l) (drop_all (at + length bytes) old (omega (arith, e)))
    ∙ append-nil (old ++ bytes)

-- a write of one byte in the middle
pub written_at : (front behind old new : List ℕ) (x y at : ℕ) → length front ≡ at → old ≡ front ++ x ∷ behind
    → new ≡ take at old ++ (y ∷ []) ++ drop (at + 1) old → new ≡ front ++ y ∷ behind
written_at front behind old new x y at long is made =
    let split : old ≡ (front ++ x ∷ []) ++ behind = is ∙ sym (append_assoc front (x ∷ []) behind) in
    let longer : length (front ++ x ∷ []) ≡ at + 1 = omega (arith, length-append front (x ∷ []), long) in
    made
    ∙ ap (λ (l : List ℕ). l ++ (y ∷ []) ++ drop (at + 1) old) (ap (λ (l : List ℕ). take at l) is ∙ take_at front (x ∷ behind) at long)
    ∙ ap (λ (l : List ℕ). front ++ (y ∷ []) ++ l) (ap (λ (l : List ℕ). drop (at + 1) l) split ∙ drop_at (front ++ x ∷ []) behind (at + 1) longer)
    ∙ append_assoc front (y ∷ []) behind

-- a torn write of one byte in the middle
pub torn_at : (front behind old new : List ℕ) (x at : ℕ) → length front ≡ at → old ≡ front ++ x ∷ behind
    → take at new ≡ take at old → drop (at + 1) new ≡ drop (at + 1) old → length old ≤ length new → (y : ℕ) × (new ≡ front ++ y ∷ behind)
torn_at front behind old new x at long is before after no_shorter =
    let split : old ≡ (front ++ x ∷ []) ++ behind = is ∙ sym (append_assoc front (x ∷ []) behind) in
    let longer : length (front ++ x ∷ []) ≡ at + 1 = omega (arith, length-append front (x ∷ []), long) in
    let inside : at < length new = omega (arith, ap length is, length-append front (x ∷ behind), long, no_shorter) in
    let y = get_or new at 0 in
    let rest : drop at new ≡ y ∷ behind =
    drop_more new at 0 inside ∙ ap (λ (l : List ℕ). y ∷ l) (after ∙ ap (λ (l : List ℕ). drop (at + 1) l) split ∙ drop_at (front ++ x ∷ []) behind (at + 1) longer) in
    let start : take at new ≡ front = before ∙ ap (λ (l : List ℕ). take at l) is ∙ take_at front (x ∷ behind) at long in
    (y, sym (take-append-drop at new) ∙ ap (λ (l : List ℕ). l ++ drop at new) start ∙ ap (λ (l : List ℕ). front ++ l) rest)
