-- A list that is cut from its front on.
use Rattle.std.proofs.Common.{ℕ, ◌≡◌, ◌-◌, ◌≤◌, min, List, [], ◌∷◌, ◌++◌, length, take, drop, refl, sym, ◌∙◌, ap, subst, arith, append_assoc, length-append, length-drop, take-append-drop}
use Rattle.std.specs.List.{AllByRecursion}
use Rattle.std.proofs.lemmas.List.{append-nil, take_at, length-take-le}
use Rattle.std.proofs.lemmas.Grind.{flat_map-append}
use Rattle.samza_model.specs.declared.messages.Record.{Record}
use Rattle.samza_model.specs.Limits.{IsWithinLimits, IsFrameable}
use Rattle.samza_model.specs.Logs.{joined}
use Rattle.log_frame.specs.Frame.{FrameView, IsFrame, AreFrames}
use Rattle.log_frame.specs.Cuts.{IsCut, inner}

abbrev pub IsSome : ℕ → List Record → Type 0
IsSome most l = (1 ≤ length l) × (length l ≤ most)

abbrev pub IsFull : ℕ → List Record → Type 0
IsFull most l = length l ≡ most

-- what was cut so far, and the rest
pub record HasCut (most : ℕ) (records rest : List Record) (frames : List FrameView) : Type 0 where
  pub lists : List (List Record)
  pub are : AreFrames frames lists
  pub whole : joined lists ++ rest ≡ records
  pub each : AllByRecursion (IsSome most) lists
  pub full : AllByRecursion (IsFull most) (inner lists)
  pub all_full : 1 ≤ length rest → AllByRecursion (IsFull most) lists
  pub limits : AllByRecursion IsWithinLimits rest

all_push : {X : Type 0} (P : X → Type 0) (xs : List X) (x : X) → AllByRecursion P xs → P x → AllByRecursion P (xs ++ x ∷ [])
all_push P [] x p q = (q, tt)
all_push P (y ∷ ys) x p q = (p.0, all_push P ys x p.1 q)

all_front : {X : Type 0} (P : X → Type 0) (xs ys : List X) → AllByRecursion P (xs ++ ys) → AllByRecursion P xs
all_front P [] ys p = tt
all_front P (x ∷ xs) ys p = (p.0, all_front P xs ys p.1)

all_back : {X : Type 0} (P : X → Type 0) (xs ys : List X) → AllByRecursion P (xs ++ ys) → AllByRecursion P ys
all_back P [] ys p = p
all_back P (x ∷ xs) ys p = all_back P xs ys p.1

all_take : {X : Type 0} (P : X → Type 0) (n : ℕ) (xs : List X) → AllByRecursion P xs → AllByRecursion P (take n xs)
all_take P n xs p = all_front P (take n xs) (drop n xs) (subst (AllByRecursion P) (sym (take-append-drop n xs)) p)

all_drop : {X : Type 0} (P : X → Type 0) (n : ℕ) (xs : List X) → AllByRecursion P xs → AllByRecursion P (drop n xs)
all_drop P n xs p = all_back P (take n xs) (drop n xs) (subst (AllByRecursion P) (sym (take-append-drop n xs)) p)

frames_push : (frames : List FrameView) (lists : List (List Record)) (f : FrameView) (l : List Record) → AreFrames frames lists → IsFrame f l → AreFrames (frames ++ f ∷ []) (lists ++ l ∷ [])
frames_push [] [] f l h is = (is, tt)
frames_push [] (m ∷ lists) f l h is = absurd h
frames_push (g ∷ frames) [] f l h is = absurd h
frames_push (g ∷ frames) (m ∷ lists) f l h is = (h.0, frames_push frames lists f l h.1 is)

inner-push : (lists : List (List Record)) (l : List Record) → inner (lists ++ l ∷ []) ≡ lists
inner-push lists l = take_at lists (l ∷ []) (length (lists ++ l ∷ []) - 1) (omega (arith, length-append lists (l ∷ [])))

pub cut_none : (most : ℕ) (records : List Record) → AllByRecursion IsWithinLimits records → HasCut most records records []
cut_none most records limits = record { lists = []; are = tt; whole = refl; each = tt; full = tt; all_full = λ _. tt; limits = limits }

pub front_fits : (most n : ℕ) (rest : List Record) → 1 ≤ most → most ≤ 4096 → 1 ≤ length rest → n ≡ min (length rest) most → AllByRecursion IsWithinLimits rest → IsFrameable (take n rest)
front_fits most n rest some few has is limits = record {
  some = omega (arith, length-take-le n rest (omega arith));
  few = omega (arith, length-take-le n rest (omega arith));
  limits = all_take IsWithinLimits n rest limits;
}

pub cut_more : (most n : ℕ) (records rest : List Record) (frames : List FrameView) (f : FrameView) → 1 ≤ most → 1 ≤ length rest → n ≡ min (length rest) most → IsFrame f (take n rest)
    → HasCut most records rest frames → HasCut most records (drop n rest) (frames ++ f ∷ [])
cut_more most n records rest frames f some has is framed h =
    let long : length (take n rest) ≡ n = length-take-le n rest (omega arith) in
    record {
      lists = h.lists ++ take n rest ∷ [];
      are = frames_push frames h.lists f (take n rest) h.are framed;
      whole = ap (λ (l : List Record). l ++ drop n rest) (flat_map-append (λ (rs : List Record). rs) h.lists (take n rest ∷ []) ∙ ap (λ (l : List Record). joined h.lists ++ l) (append-nil (take n rest)))
          ∙ append_assoc (joined h.lists) (take n rest) (drop n rest) ∙ ap (λ (l : List Record). joined h.lists ++ l) (take-append-drop n rest) ∙ h.whole;
      each = all_push (IsSome most) h.lists (take n rest) h.each (omega (arith, long), omega (arith, long));
      full = subst (AllByRecursion (IsFull most)) (sym (inner-push h.lists (take n rest))) (h.all_full has);
      all_full = λ left. all_push (IsFull most) h.lists (take n rest) (h.all_full has) (omega (arith, long, left, length-drop n rest));
      limits = all_drop IsWithinLimits n rest h.limits;
    }

pub cut_whole : (most : ℕ) (records rest : List Record) (frames : List FrameView) → length rest ≡ 0 → HasCut most records rest frames
    → (lists : List (List Record)) × IsCut most records lists × AreFrames frames lists
cut_whole most records [] frames none h = (h.lists, record { whole = sym (append-nil (joined h.lists)) ∙ h.whole; each = h.each; full = h.full }, h.are)
cut_whole most records (r ∷ rest) frames none h = absurd (omega (arith, none))
