-- Where there is one input, its messages are delivered in order.
use Rattle.std.proofs.Common.{ℕ, suc, ◌+◌, ◌-◌, ◌≡◌, ◌<◌, ◌≤◌, inl, inr, Bool, true, false, ◌==◌, if◌then◌else◌, nat_le, List, [], ◌∷◌, ◌++◌, length, take, drop, Option, Some, None, IfSome, slice_get, refl, sym, ◌∙◌, ap, subst, arith}
use Rattle.std.proofs.lemmas.Bool.{cases_eq, eq-eqb, leb-true}
use Rattle.std.proofs.lemmas.List.{length-append, length-drop, length-take-le, get_or-drop}
use Rattle.std.proofs.lemmas.Option.{none-some, slice_get_within, get_or_from_slice_get}
use Rattle.std.proofs.Math.Seq.{take-add, take-suc}
use Rattle.samza_model.specs.declared.messages.Envelope.{Envelope}
use Rattle.samza_model.specs.declared.messages.Record.{Record}
use Rattle.samza_model.specs.declared.messages.Ssp.{Ssp}
use Rattle.samza_model.specs.declared.setups.Setup.{Setup}
use Rattle.samza_model.specs.declared.events.Event.{Event}
use Rattle.samza_model.specs.declared.events.Event.TheVariants.{Deliver, Did, Complete, Failed, WindowDid, WindowEnded}
use Rattle.samza_model.specs.Events.{deliveries, deliveries_of, ssp_at}
use Rattle.samza_model.specs.Lawful.{Given, IsLawful, MayDeliver, end_at_input, part_at, start_at}
use Rattle.samza_model.specs.Partition.{Partition, envelopes, message}
use Rattle.history_laws.specs.Deliveries.{first_messages, messages_from}
use Rattle.history_laws.specs.Folds.{delivered}

envelopes_append : (ssp : Ssp) (offset : ℕ) (xs ys : List Record) → envelopes ssp offset (xs ++ ys) ≡ envelopes ssp offset xs ++ envelopes ssp (offset + length xs) ys
envelopes_append ssp offset [] ys = let none : offset ≡ offset + 0 = omega arith in ap (λ n. envelopes ssp n ys) none
envelopes_append ssp offset (x ∷ xs) ys =
    let behind : offset + 1 + length xs ≡ offset + length (x ∷ xs) = omega arith in
    ap (λ (l : List Envelope). record { ssp = ssp; offset = offset; body = x } ∷ l)
    (envelopes_append ssp (offset + 1) xs ys ∙ ap (λ n. envelopes ssp (offset + 1) xs ++ envelopes ssp n ys) behind)

message_is : (part : Partition) (o : ℕ) (m : Record) → message part o ≡ Some m → (part.first ≤ o) × (slice_get part.records (o - part.first) ≡ Some m)
message_is part o m is = (elim (nat_le part.first o) as (λ b. nat_le part.first o ≡ b → (if b then slice_get part.records (o - part.first) else None) ≡ Some m → (part.first ≤ o) × (slice_get part.records (o - part.first) ≡ Some m)) [
  | true ↦ λ le is. (leb-true part.first o le, is)
  | false ↦ λ le is. absurd (none-some m is)
]) refl is

module _ (ssp : Ssp) (part : Partition) (start : ℕ) where
  -- one message more, at the end
  messages_more : (d : ℕ) (m : Record) → part.first ≤ start → message part (start + d) ≡ Some m
      → messages_from ssp part start d ++ record { ssp = ssp; offset = start + d; body = m } ∷ [] ≡ messages_from ssp part start (d + 1)
  messages_more d m from is =
      let skipped = start - part.first in
      let rest = drop skipped part.records in
      let body = (message_is part (start + d) m is).1 in
      let inside : d < length rest = omega (arith, from, slice_get_within part.records (start + d - part.first) m body, length-drop skipped part.records) in
      let len : length (take d rest) ≡ d = length-take-le d rest (omega (arith, inside)) in
      let at : skipped + d ≡ start + d - part.first = omega (arith, from) in
      let one : suc d ≡ d + 1 = omega arith in
      let more : take (d + 1) rest ≡ take d rest ++ m ∷ [] =
      ap (λ n. take n rest) (sym one) ∙ take-suc rest d m inside
      ∙ ap (λ (y : Record). take d rest ++ y ∷ []) (get_or-drop skipped part.records d m ∙ get_or_from_slice_get part.records (skipped + d) m m (ap (λ n. slice_get part.records n) at ∙ body)) in
      sym (
      ap (λ (l : List Record). envelopes ssp start l) more
      ∙ envelopes_append ssp start (take d rest) (m ∷ [])
      ∙ ap (λ n. envelopes ssp start (take d rest) ++ record { ssp = ssp; offset = start + n; body = m } ∷ []) len
      )

  -- fewer messages are a prefix of more
  pub messages_split : (d n : ℕ) → d ≤ n → (more : List Envelope) × (messages_from ssp part start n ≡ messages_from ssp part start d ++ more)
  messages_split d n le =
      let rest = drop (start - part.first) part.records in
      let others = take (n - d) (drop d rest) in
      let sum : n ≡ d + (n - d) = omega (arith, le) in (
        envelopes ssp (start + length (take d rest)) others,
        ap (λ x. envelopes ssp start (take x rest)) sum
            ∙ ap (λ (l : List Record). envelopes ssp start l) (take-add d (n - d) rest)
            ∙ envelopes_append ssp start (take d rest) others,
      )

counted : (p d : ℕ) → p ≡ 0 → (if p == 0 then d + 1 else d) ≡ d + 1
counted p d is = ap (λ (b : Bool). if b then d + 1 else d) (eq-eqb p 0 is)

module _ (k : Given) (one : length k.starts ≡ 1) where
  the_input : (h : List Event) (n p o : ℕ) (m : Record) → MayDeliver k h n p o m → p ≡ 0
  the_input h n p o m may = omega (arith, may.input, one)

  of_one : (h : List Event) → IsLawful k h → deliveries h ≡ deliveries_of 0 h
  unfolding IsLawful deliveries deliveries_of
  of_one [] lawful = refl
  of_one (Deliver n p o m t ∷ h) lawful = ap (λ x. x + 1) (of_one h lawful.0) ∙ sym (counted p (deliveries_of 0 h) (the_input h n p o m lawful.1))
  of_one (Did n i act answer ∷ h) lawful = of_one h lawful.0
  of_one (Complete n ∷ h) lawful = of_one h lawful.0
  of_one (Failed f ∷ h) lawful = of_one h lawful.0
  of_one (WindowDid i act answer ∷ h) lawful = of_one h lawful.0
  of_one (WindowEnded ∷ h) lawful = of_one h lawful.0

  next_offset : (h : List Event) (n p o : ℕ) (m : Record) → MayDeliver k h n p o m → o ≡ start_at k 0 + deliveries_of 0 h
  next_offset h n p o m may = may.offset ∙ ap (λ q. start_at k q + deliveries_of q h) (the_input h n p o m may)

  within : (h : List Event) → IsLawful k h → deliveries_of 0 h ≤ end_at_input k 0 - start_at k 0
  unfolding IsLawful deliveries_of
  within [] lawful = omega arith
  within (Deliver n p o m t ∷ h) lawful =
      let at = the_input h n p o m lawful.1 in
      let before : o < end_at_input k 0 = subst (λ q. o < end_at_input k q) at lawful.1.before_end in
      omega (arith, before, next_offset h n p o m lawful.1, counted p (deliveries_of 0 h) at)
  within (Did n i act answer ∷ h) lawful = within h lawful.0
  within (Complete n ∷ h) lawful = within h lawful.0
  within (Failed f ∷ h) lawful = within h lawful.0
  within (WindowDid i act answer ∷ h) lawful = within h lawful.0
  within (WindowEnded ∷ h) lawful = within h lawful.0

  module _ (part : Partition) (told : part_at k 0 ≡ Some part) where
    body_is : (h : List Event) (n p o : ℕ) (m : Record) → MayDeliver k h n p o m → message part (start_at k 0 + deliveries_of 0 h) ≡ Some m
    body_is h n p o m may =
        ap (message part) (sym (next_offset h n p o m may))
        ∙ subst (λ (x : Option Partition). IfSome x (λ q. message q o ≡ Some m)) (ap (part_at k) (the_input h n p o m may) ∙ told) may.body

    -- where anything was delivered, the start is in the partition
    start_inside : (h : List Event) → IsLawful k h → 0 < deliveries_of 0 h → part.first ≤ start_at k 0
    unfolding IsLawful deliveries_of
    start_inside [] lawful some = absurd (omega (arith, some))
    start_inside (Deliver n p o m t ∷ h) lawful some = elim (cases_eq (deliveries_of 0 h) 0) [
      | inl none ↦ omega (arith, none, (message_is part (start_at k 0 + deliveries_of 0 h) m (body_is h n p o m lawful.1)).0)
      | inr more ↦ start_inside h lawful.0 (omega (arith, more))
    ]
    start_inside (Did n i act answer ∷ h) lawful some = start_inside h lawful.0 some
    start_inside (Complete n ∷ h) lawful some = start_inside h lawful.0 some
    start_inside (Failed f ∷ h) lawful some = start_inside h lawful.0 some
    start_inside (WindowDid i act answer ∷ h) lawful some = start_inside h lawful.0 some
    start_inside (WindowEnded ∷ h) lawful some = start_inside h lawful.0 some

    step : (h : List Event) (n p o : ℕ) (m : Record) → MayDeliver k h n p o m → part.first ≤ start_at k 0 → delivered k.setup h ≡ first_messages k part (deliveries_of 0 h)
        → delivered k.setup h ++ record { ssp = ssp_at k.setup p; offset = o; body = m } ∷ [] ≡ first_messages k part (deliveries_of 0 h + 1)
    step h n p o m may from before =
        ap (λ (es : List Envelope). es ++ record { ssp = ssp_at k.setup p; offset = o; body = m } ∷ []) before
        ∙ ap (λ q. first_messages k part (deliveries_of 0 h) ++ record { ssp = ssp_at k.setup q; offset = o; body = m } ∷ []) (the_input h n p o m may)
        ∙ ap (λ x. first_messages k part (deliveries_of 0 h) ++ record { ssp = ssp_at k.setup 0; offset = x; body = m } ∷ []) (next_offset h n p o m may)
        ∙ messages_more (ssp_at k.setup 0) part (start_at k 0) (deliveries_of 0 h) m from (body_is h n p o m may)

    in_order : (h : List Event) → IsLawful k h → delivered k.setup h ≡ first_messages k part (deliveries_of 0 h)
    unfolding IsLawful delivered deliveries_of
    in_order [] lawful = refl
    in_order (Deliver n p o m t ∷ h) lawful =
        let more = counted p (deliveries_of 0 h) (the_input h n p o m lawful.1) in
        let from = start_inside (Deliver n p o m t ∷ h) lawful (omega (arith, more)) in
        step h n p o m lawful.1 from (in_order h lawful.0) ∙ ap (first_messages k part) (sym more)
    in_order (Did n i act answer ∷ h) lawful = in_order h lawful.0
    in_order (Complete n ∷ h) lawful = in_order h lawful.0
    in_order (Failed f ∷ h) lawful = in_order h lawful.0
    in_order (WindowDid i act answer ∷ h) lawful = in_order h lawful.0
    in_order (WindowEnded ∷ h) lawful = in_order h lawful.0

pub delivered_in_order : (k : Given) (part : Partition) (h : List Event) → length k.starts ≡ 1 → part_at k 0 ≡ Some part → IsLawful k h → delivered k.setup h ≡ first_messages k part (deliveries_of 0 h)
delivered_in_order k part h one told lawful = in_order k one part told h lawful

pub deliveries_of_one : (k : Given) (h : List Event) → length k.starts ≡ 1 → IsLawful k h → deliveries h ≡ deliveries_of 0 h
deliveries_of_one k h one lawful = of_one k one h lawful

pub delivered_before_end : (k : Given) (h : List Event) → length k.starts ≡ 1 → IsLawful k h → deliveries_of 0 h ≤ end_at_input k 0 - start_at k 0
delivered_before_end k h one lawful = within k one h lawful

-- each delivery is of one message
pub length_delivered : (s : Setup) (h : List Event) → length (delivered s h) ≡ deliveries h
unfolding delivered deliveries
length_delivered s [] = refl
length_delivered s (Deliver n p o m t ∷ h) =
    length-append (delivered s h) (record { ssp = ssp_at s p; offset = o; body = m } ∷ []) ∙ ap (λ x. x + 1) (length_delivered s h)
length_delivered s (Did n i act answer ∷ h) = length_delivered s h
length_delivered s (Complete n ∷ h) = length_delivered s h
length_delivered s (Failed f ∷ h) = length_delivered s h
length_delivered s (WindowDid i act answer ∷ h) = length_delivered s h
length_delivered s (WindowEnded ∷ h) = length_delivered s h
