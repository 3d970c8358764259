-- One event more.
use Rattle.std.proofs.Common.{ℕ, ◌≡◌, Bool, true, false, List, [], ◌∷◌, ◌++◌, reverse, refl, sym, ◌∙◌, ap, append-nil, leb, take, ◌+◌}
use Rattle.std.proofs.lemmas.List.{reverse-append}
use Rattle.std.specs.Prelude.{Option, Some, None, if◌then◌else◌}
use Rattle.samza_model.specs.declared.events.Event.{Event}
use Rattle.samza_model.specs.declared.events.Event.TheVariants.{Deliver, Did, Complete, Failed, WindowDid, WindowEnded}
use Rattle.samza_model.specs.Journals.{uncovered_by}
use Rattle.packed_events.specs.Packed.{delivered_of}
use Rattle.core_parts.specs.Noting.{listed, noted_number, noted_in}

one_more : (xs : List ℕ) (o : Option ℕ) → reverse (xs ++ listed o) ≡ listed o ++ reverse xs
one_more xs None = ap reverse (append-nil xs)
one_more xs (Some n) = reverse-append xs (n ∷ [])

chosen : (b : Bool) (n : ℕ) (ns : List ℕ) → listed (if b then Some n else None) ++ ns ≡ (if b then n ∷ ns else ns)
chosen true n ns = refl
chosen false n ns = refl

behind : (lows : ℕ → ℕ) (e : Event) (h : List Event) → listed (noted_number lows e) ++ uncovered_by lows h ≡ uncovered_by lows (e ∷ h)
unfolding uncovered_by
behind lows (Deliver n p o m t) h = chosen (leb (lows p) o) n (uncovered_by lows h)
behind lows (Did n i act answer) h = refl
behind lows (Complete n) h = refl
behind lows (Failed f) h = refl
behind lows (WindowDid i act answer) h = refl
behind lows WindowEnded h = refl

pub noted_more : (lows : ℕ → ℕ) (e : Event) (h : List Event) (xs : List ℕ) → reverse xs ≡ uncovered_by lows h → reverse (xs ++ listed (noted_number lows e)) ≡ uncovered_by lows (e ∷ h)
noted_more lows e h xs is = one_more xs (noted_number lows e) ∙ ap (λ ns. listed (noted_number lows e) ++ ns) is ∙ behind lows e h

pub none_noted : (lows : ℕ → ℕ) (xs : List ℕ) → xs ≡ [] → reverse xs ≡ uncovered_by lows []
unfolding uncovered_by
none_noted lows xs is = ap reverse is

-- a list's next event
pub next_noted : (lows : ℕ → ℕ) (events : List Event) (i : ℕ) (e : Event) (xs ys : List ℕ) → take (i + 1) events ≡ take i events ++ e ∷ [] → ys ≡ xs ++ listed (noted_number lows e)
    → reverse xs ≡ uncovered_by lows (reverse (take i events)) → reverse ys ≡ uncovered_by lows (reverse (take (i + 1) events))
next_noted lows events i e xs ys grows now is =
    ap reverse now ∙ noted_more lows e (reverse (take i events)) xs is ∙ ap (uncovered_by lows) (sym (ap reverse grows ∙ reverse-append (take i events) (e ∷ [])))

pub noted_same : (lows : ℕ → ℕ) (e : Event) → noted_in lows (delivered_of e) ≡ noted_number lows e
noted_same lows (Deliver n p o m t) = refl
noted_same lows (Did n i act answer) = refl
noted_same lows (Complete n) = refl
noted_same lows (Failed f) = refl
noted_same lows (WindowDid i act answer) = refl
noted_same lows WindowEnded = refl
