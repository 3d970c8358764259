-- What a journal keeps, and what asks for a mark, behind one event more.
use Rattle.std.proofs.Common.{ℕ, ◌≡◌, ◌+◌, ◌-◌, ◌^◌, ◌||◌, min, nat_le, Bool, true, false, List, [], ◌∷◌, filter, Result, Ok, Err, IfOk, refl, sym, ◌∙◌, ap, arith, eq-eqb, ne_eqb, le-leb, leb-true}
use Rattle.samza_model.specs.declared.setups.Setup.{Setup}
use Rattle.samza_model.specs.declared.events.Event.{Event}
use Rattle.samza_model.specs.declared.events.Event.TheVariants.{Deliver, Did, Complete, Failed, WindowDid, WindowEnded}
use Rattle.samza_model.specs.Journals.{belongs, is_among, kept_of, uncovered_by}
use Rattle.samza_model.specs.Lawful.{Given}
use Rattle.samza_model.specs.Requests.{asks_commit, byte_bound, event_size, is_asked, size_of}
use Rattle.slow_model.specs.Steps.{capped, listed, lows_from}

pub among_here : (ns ms : List ℕ) (m n : ℕ) → ns ≡ m ∷ ms → m ≡ n → true ≡ is_among ns n
among_here ns ms m n is same =
    ap (λ (b : Bool). b || is_among ms n) (sym (eq-eqb m n same)) ∙ ap (λ (l : List ℕ). is_among l n) (sym is)

pub among_others : (ns ms : List ℕ) (m n : ℕ) → ns ≡ m ∷ ms → (m ≡ n → ⊥) → is_among ms n ≡ is_among ns n
among_others ns ms m n is other =
    ap (λ (b : Bool). b || is_among ms n) (sym (ne_eqb m n other)) ∙ ap (λ (l : List ℕ). is_among l n) (sym is)

module _ (lows : ℕ → ℕ) where
  pub none_listed : [] ≡ uncovered_by lows []
  unfolding uncovered_by
  none_listed = refl

  listed_more : (e : Event) (g : List Event) → listed lows e (uncovered_by lows g) ≡ uncovered_by lows (e ∷ g)
  unfolding uncovered_by
  listed_more (Deliver n p o m t) g = refl
  listed_more (Did n i act answer) g = refl
  listed_more (Complete n) g = refl
  listed_more (Failed f) g = refl
  listed_more (WindowDid i act answer) g = refl
  listed_more WindowEnded g = refl

  pub listed_on : (h g : List Event) (e : Event) → h ≡ e ∷ g → listed lows e (uncovered_by lows g) ≡ uncovered_by lows h
  listed_on h g e is = listed_more e g ∙ ap (uncovered_by lows) (sym is)

pub asked_on : (h g : List Event) (e : Event) (b : Bool) → h ≡ e ∷ g → b ≡ asks_commit e → (b || is_asked g) ≡ is_asked h
asked_on h g e b is test = ap (λ (x : Bool). x || is_asked g) test ∙ ap is_asked (sym is)

pub sized_on : (h g : List Event) (e : Event) (m n : ℕ) → h ≡ e ∷ g → m ≡ capped (size_of g) → n ≡ capped (event_size e) → min (m + n) (2 ^ 64 - 1) ≡ capped (size_of h)
sized_on h g e m n is before now =
    let all : size_of h ≡ size_of g + event_size e = ap size_of is in
    omega (arith, all, before, now)

same_test : (a b : Bool) → (a ≡ true → b ≡ true) → (b ≡ true → a ≡ true) → a ≡ b
same_test true b f g = sym (f refl)
same_test false true f g = g refl
same_test false false f g = refl

pub large : (n : ℕ) → nat_le byte_bound (capped n) ≡ nat_le byte_bound n
large n =
    same_test (nat_le byte_bound (capped n)) (nat_le byte_bound n)
    (λ e. le-leb byte_bound n (omega (arith, leb-true byte_bound (capped n) e)))
    (λ e. le-leb byte_bound (capped n) (omega (arith, leb-true byte_bound n e)))

pub kept_as : (s : Setup) (starts : List ℕ) (h : List Event) (k : Given) → k.setup ≡ s → k.starts ≡ starts
    → filter (belongs (uncovered_by (lows_from s starts h) h)) h ≡ kept_of k h
kept_as s starts h k setup begin =
    ap (λ (x : Setup). filter (belongs (uncovered_by (lows_from x starts h) h)) h) (sym setup)
    ∙ ap (λ (x : List ℕ). filter (belongs (uncovered_by (lows_from k.setup x h) h)) h) (sym begin)

pub if_ok : {T E : Type 0} (r : Result T E) (P Q : T → Type 0) → IfOk r P → ((x : T) → P x → Q x) → IfOk r Q
if_ok (Ok x) P Q p f = f x p
if_ok (Err e) P Q p f = p
