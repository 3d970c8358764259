-- An input's next delivery: what is looked at for it says just whether it may come.
use Rattle.std.proofs.Common.{ℕ, ◌≡◌, ◌<◌, ◌≤◌, ◌+◌, ◌&&◌, Bool, true, false, not, nat_lt, is_none, if◌then◌else◌, List, length, get_or, Option, Some, None, IfSome, Result, Ok, Err, IfOk, MatchOption, option_map, refl, sym, ◌∙◌, ap, subst, arith, rules}
use Rattle.std.proofs.lemmas.List.{get_or-map, length-map}
use borrow.Author.Tests.{true-ltb, lt-true, le-false}
use Rattle.samza_model.specs.declared.messages.Record.{Record}
use Rattle.samza_model.specs.declared.turns.Failure.{Failure}
use Rattle.samza_model.specs.declared.setups.Setup.{Setup}
use Rattle.samza_model.specs.declared.events.Event.{Event}
use Rattle.samza_model.specs.Events.{flights, deliveries, deliveries_of, low, first_failure, window_open}
use Rattle.samza_model.specs.Lawful.{Given, MayDeliver, start_at, end_at_input, part_at}
use Rattle.samza_model.specs.Meaning.{Meaning}
use Rattle.samza_model.specs.Partition.{Partition, message}
use Rattle.slow_model.specs.declared.tasks.PlainInput.{PlainInput}
use Rattle.slow_model.specs.Tasks.{part_of, given_of, NoDelivery, IsDelivery, is_quiet, begins, delivered, next_delivery}

differ : true ≡ false → ⊥
differ e = search rules

both : (a b : Bool) → a && b ≡ true → (a ≡ true) × (b ≡ true)
both true b e = (refl, e)
both false b e = absurd (differ (sym e))

and_true : (a b : Bool) → a ≡ true → b ≡ true → a && b ≡ true
and_true a b e f = ap (λ (x : Bool). x && b) e ∙ f

nothing : (x : Option Failure) → is_none x ≡ true → x ≡ None
nothing None e = refl
nothing (Some f) e = absurd (differ (sym e))

closed : (b : Bool) → not b ≡ true → b ≡ false
closed true e = absurd (differ (sym e))
closed false e = refl

-- an offset from its input's end on
pub next_past : (s : Setup) (i : PlainInput) (g : List Event) (p t : ℕ) → i.end ≤ i.start + deliveries_of p g → None ≡ next_delivery s i g p t
next_past s i g p t past =
    let o = i.start + deliveries_of p g in
    ap (λ (b : Bool). if b && begins s i.start g p o then option_map (delivered g p o t) (message (part_of i) o) else None) (le-false o i.end past)

module _ (k : Given) (g : List Event) (p t : ℕ) (i : PlainInput) (within : p < length k.starts) (start : start_at k p ≡ i.start) (end : end_at_input k p ≡ i.end) (part : part_at k p ≡ Some (part_of i)) where
  abbrev at : ℕ
  at = i.start + deliveries_of p g

  abbrev test : Bool
  test = nat_lt at i.end && begins k.setup i.start g p at

  test_is : (n o : ℕ) (m : Record) → MayDeliver k g n p o m → test ≡ true
  test_is n o m may =
      let is : o ≡ at = may.offset ∙ ap (λ (x : ℕ). x + deliveries_of p g) start in
      let before : at < i.end = subst (λ (x : ℕ). x < i.end) is (subst (λ (x : ℕ). o < x) end may.before_end) in
      let spanned : at < low k.setup i.start g p + k.setup.span = subst (λ (x : ℕ). x < low k.setup i.start g p + k.setup.span) is (subst (λ (x : ℕ). o < low k.setup x g p + k.setup.span) start may.spanned) in
      and_true _ _ (sym (lt-true at i.end before))
      (and_true _ _ (and_true _ _ (sym (lt-true _ _ may.room)) (sym (lt-true _ _ spanned)))
      (and_true _ _ (ap is_none may.sound) (ap not may.closed)))

  may_of : (m : Record) → test ≡ true → message (part_of i) at ≡ Some m → MayDeliver k g (deliveries g) p at m
  may_of m passes body =
      let tests = both (nat_lt at i.end) (begins k.setup i.start g p at) passes in
      let begin = both (nat_lt (length (flights k.setup g)) k.setup.concurrency && nat_lt at (low k.setup i.start g p + k.setup.span)) (is_quiet g) tests.1 in
      let room = both (nat_lt (length (flights k.setup g)) k.setup.concurrency) (nat_lt at (low k.setup i.start g p + k.setup.span)) begin.0 in
      let quiet = both (is_none (first_failure g)) (not (window_open g)) begin.1 in
      record {
        input = within;
        number = refl;
        offset = ap (λ (x : ℕ). x + deliveries_of p g) (sym start);
        before_end = subst (λ (x : ℕ). at < x) (sym end) (true-ltb at i.end (sym tests.0));
        body = subst (λ (x : Option Partition). IfSome x (λ part. message part at ≡ Some m)) (sym part) body;
        room = true-ltb _ _ (sym room.0);
        spanned = subst (λ (x : ℕ). at < low k.setup x g p + k.setup.span) (sym start) (true-ltb _ _ (sym room.1));
        sound = nothing (first_failure g) quiet.0;
        closed = closed (window_open g) quiet.1;
      }

  body_is : (n o : ℕ) (m : Record) → MayDeliver k g n p o m → message (part_of i) at ≡ Some m
  body_is n o m may =
      let is : o ≡ at = may.offset ∙ ap (λ (x : ℕ). x + deliveries_of p g) start in
      ap (message (part_of i)) (sym is) ∙ subst (λ (x : Option Partition). IfSome x (λ part. message part o ≡ Some m)) part may.body

  clash : (m : Record) → None ≡ Some m → ⊥
  clash m e = search rules

  by_cases : (b : Bool) (x : Option Record) → test ≡ b → message (part_of i) at ≡ x → MatchOption (if b then option_map (delivered g p at t) x else None) (NoDelivery k g p) (IsDelivery k g p t)
  by_cases false x fails body = λ n o m may. differ (sym (test_is n o m may) ∙ fails)
  by_cases true None passes body = λ n o m may. clash m (sym body ∙ body_is n o m may)
  by_cases true (Some m) passes body = (refl, refl, may_of m passes body)

  pub is_next : MatchOption (next_delivery k.setup i g p t) (NoDelivery k g p) (IsDelivery k g p t)
  is_next = by_cases test (message (part_of i) at) refl refl

module _ (job : Meaning) (s : Setup) (inputs : List PlainInput) (g : List Event) (p t : ℕ) where
  pub next_is : (i : PlainInput) → p < length inputs → i ≡ get_or inputs p i → MatchOption (next_delivery s i g p t) (NoDelivery (given_of job s inputs) g p) (IsDelivery (given_of job s inputs) g p t)
  next_is i lt is =
      is_next (given_of job s inputs) g p t i
      (subst (λ (n : ℕ). p < n) (sym (length-map inputs (λ (x : PlainInput). x.start))) lt)
      (get_or-map (λ (x : PlainInput). x.start) inputs p i 0 lt ∙ ap (λ (x : PlainInput). x.start) (sym is))
      (get_or-map (λ (x : PlainInput). x.end) inputs p i 0 lt ∙ ap (λ (x : PlainInput). x.end) (sym is))
      (get_or-map (λ (x : PlainInput). Some (part_of x)) inputs p i None lt ∙ ap (λ (x : PlainInput). Some (part_of x)) (sym is))

  pub no_next : length inputs ≤ p → NoDelivery (given_of job s inputs) g p
  no_next le n o m may =
      let lt : p < length inputs = subst (λ (x : ℕ). p < x) (length-map inputs (λ (x : PlainInput). x.start)) may.input in
      absurd (omega (arith, lt, le))

pub on_ok_is : {T E : Type 0} (r : Result T E) (x : T) (P : T → Type 0) → IfOk r (λ y. y ≡ x) → P x → IfOk r P
on_ok_is (Ok y) x P is p = subst P (sym is) p
on_ok_is (Err e) x P is p = is
