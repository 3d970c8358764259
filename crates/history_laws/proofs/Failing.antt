-- Where messages are done one by one, whether and how they fail is settled before.
use Rattle.std.proofs.Common.{ℕ, ◌+◌, ◌-◌, ◌≡◌, ◌<◌, ◌≤◌, inl, inr, List, [], ◌∷◌, ◌++◌, length, take, Option, Some, None, refl, sym, ◌∙◌, ap, arith}
use Rattle.std.proofs.lemmas.Bool.{cases_order}
use Rattle.std.proofs.lemmas.List.{append_assoc, length-append}
use Rattle.std.proofs.lemmas.Option.{none-some}
use Rattle.std.proofs.Math.Seq.{take-append-add, take-append_seam}
use Rattle.samza_model.specs.declared.messages.Envelope.{Envelope}
use Rattle.samza_model.specs.declared.setups.Setup.{Setup}
use Rattle.samza_model.specs.declared.turns.Failure.{Failure}
use Rattle.samza_model.specs.declared.turns.Why.{Why}
use Rattle.samza_model.specs.declared.events.Event.{Event}
use Rattle.samza_model.specs.Content.{State}
use Rattle.samza_model.specs.Events.{deliveries_of, first_failure, flights, ssp_at, state_after}
use Rattle.samza_model.specs.Lawful.{Given, IsLawful, end_at_input, start_at}
use Rattle.samza_model.specs.Meaning.{Meaning}
use Rattle.samza_model.specs.Partition.{Partition}
use Rattle.samza_model.specs.Ran.{HasNoWindows}
use Rattle.samza_model.specs.Runs.{End, Run, folds, runs}
use Rattle.samza_model.proofs.Laws.{fold_goes_on, fold_of_none, fold_stops}
use Rattle.history_laws.specs.Deliveries.{first_messages}
use Rattle.history_laws.specs.Fails.{DoesOneByOne, IsOfLast}
use Rattle.history_laws.specs.Folds.{delivered}
use Rattle.history_laws.proofs.Delivering.{delivered_before_end, delivered_in_order, deliveries_of_one, length_delivered, messages_split}
use Rattle.history_laws.proofs.Expiring.{never_expires}
use Rattle.history_laws.proofs.Folding.{failure_is_the_folds, folded}

some_is : {A : Type 0} {x y : A} → Some x ≡ Some y → x ≡ y
some_is is = cc

same_ends : (xs ys : List Envelope) (x y : Envelope) → xs ++ x ∷ [] ≡ ys ++ y ∷ [] → (xs ≡ ys) × (x ≡ y)
same_ends [] [] x y is = (refl, cc)
same_ends [] (b ∷ ys) x y is = absurd (omega (arith, ap length is, length-append ys (y ∷ [])))
same_ends (a ∷ xs) [] x y is = absurd (omega (arith, ap length is, length-append xs (x ∷ [])))
same_ends (a ∷ xs) (b ∷ ys) x y is =
    let rest : xs ++ x ∷ [] ≡ ys ++ y ∷ [] = cc in
    let ends = same_ends xs ys x y rest in
    let first : a ≡ b = cc in
    (ap (λ (e : Envelope). e ∷ xs) first ∙ ap (λ (es : List Envelope). b ∷ es) ends.0, ends.1)

module _ (job : Meaning) (s : Setup) where
  -- more messages are done from what the first ones left
  folds_append : (es more : List Envelope) (state mid : State) → folds job s es state ≡ Some mid → folds job s (es ++ more) state ≡ folds job s more mid
  folds_append [] more state mid is = ap (folds job s more) (some_is (sym (fold_of_none job s state) ∙ is))
  folds_append (e ∷ es) more state mid is = by_end (folds_append es more (runs job s e state).state mid) (runs job s e state).end refl
    where
      after : State
      after = (runs job s e state).state

      with_end : End → Run
      with_end x = record { state = after; end = x }

      by_end : (folds job s es after ≡ Some mid → folds job s (es ++ more) after ≡ folds job s more mid) → (x : End) → (runs job s e state).end ≡ x → folds job s (e ∷ (es ++ more)) state ≡ folds job s more mid
      by_end go None ended =
          fold_goes_on job s (es ++ more) e state after (ap with_end ended)
          ∙ go (sym (fold_goes_on job s es e state after (ap with_end ended)) ∙ is)
      by_end go (Some why) ended = absurd (none-some mid (sym (fold_stops job s es e state after why (ap with_end ended)) ∙ is))

  -- where a message isn't done, those up to it aren't, nor with more behind
  stops : (before more : List Envelope) (last : Envelope) (state mid : State) (why : Why) → folds job s before state ≡ Some mid → (runs job s last mid).end ≡ Some why
      → folds job s ((before ++ last ∷ []) ++ more) state ≡ None
  stops before more last state mid why done ended =
      ap (λ (es : List Envelope). folds job s es state) (append_assoc before (last ∷ []) more)
      ∙ folds_append before (last ∷ more) state mid done
      ∙ fold_stops job s more last mid (runs job s last mid).state why (ap (λ (x : End). record { state = (runs job s last mid).state; end = x }) ended)

module _ (job : Meaning) (k : Given) (part : Partition) (plain : DoesOneByOne job k part) where
  record IsRun (h : List Event) : Type 0 where
    pub quiet : HasNoWindows None h
    pub lawful : IsLawful k h

  in_order : (h : List Event) → IsRun h → delivered k.setup h ≡ first_messages k part (deliveries_of 0 h)
  in_order h run = delivered_in_order k part h plain.input plain.partition run.lawful

  of_last : (h : List Event) (f : Failure) → IsRun h → first_failure h ≡ Some f → IsOfLast job k h f
  of_last h f run is = failure_is_the_folds job k h f plain.of_job plain.alone run.quiet run.lawful is (never_expires k h f plain.untimed run.lawful is)

  -- a failure is met by each fold of as many messages or more
  none_done : (h : List Event) (f : Failure) (n : ℕ) → IsRun h → first_failure h ≡ Some f → deliveries_of 0 h ≤ n → folds job k.setup (first_messages k part n) k.state ≡ None
  none_done h f n run is le =
      let last = of_last h f run is in
      let more = messages_split (ssp_at k.setup 0) part (start_at k 0) (deliveries_of 0 h) n le in
      ap (λ (es : List Envelope). folds job k.setup es k.state)
      (more.1 ∙ ap (λ (es : List Envelope). es ++ more.0) (sym (in_order h run) ∙ last.all))
      ∙ stops job k.setup last.before more.0 last.last k.state last.state f.why last.done last.why

  none_fails : (h : List Event) (left : State) → IsRun h → folds job k.setup (first_messages k part (end_at_input k 0 - start_at k 0)) k.state ≡ Some left → first_failure h ≡ None
  none_fails h left run done = by_failure (first_failure h) refl
    where
      by_failure : (x : Option Failure) → first_failure h ≡ x → first_failure h ≡ None
      by_failure None is = is
      by_failure (Some f) is = absurd (none-some left (
          sym (none_done h f (end_at_input k 0 - start_at k 0) run is (delivered_before_end k h plain.input run.lawful)) ∙ done
          ))

  length_is : (h : List Event) → IsRun h → length (delivered k.setup h) ≡ deliveries_of 0 h
  length_is h run = length_delivered k.setup h ∙ deliveries_of_one k h plain.input run.lawful

  -- of two lists with a failure, neither goes on where the other one failed
  no_further : (g h : List Event) (f e : Failure) → IsRun g → first_failure g ≡ Some f → IsRun h → first_failure h ≡ Some e → deliveries_of 0 g < deliveries_of 0 h → ⊥
  no_further g h f e run is run' is' lt =
      let of_g = of_last g f run is in
      let of_h = of_last h e run' is' in
      let done = delivered k.setup g in
      let before = of_h.before in
      let more = messages_split (ssp_at k.setup 0) part (start_at k 0) (deliveries_of 0 g) (deliveries_of 0 h) (omega (arith, lt)) in
      let both : before ++ of_h.last ∷ [] ≡ done ++ more.0 =
      sym of_h.all ∙ in_order h run' ∙ more.1 ∙ ap (λ (es : List Envelope). es ++ more.0) (sym (in_order g run)) in
      let longer : length before ≡ length done + (length before - length done) =
      omega (arith, lt, length_is g run, length_is h run', ap length of_h.all, length-append before (of_h.last ∷ [])) in
      let rest = take (length before - length done) more.0 in
      let goes_on : before ≡ (of_g.before ++ of_g.last ∷ []) ++ rest =
      sym (take-append_seam before (of_h.last ∷ []))
      ∙ ap (λ (es : List Envelope). take (length before) es) both
      ∙ ap (λ n. take n (done ++ more.0)) longer
      ∙ take-append-add done more.0 (length before - length done)
      ∙ ap (λ (es : List Envelope). es ++ rest) of_g.all in
      none-some of_h.state (
      sym (stops job k.setup of_g.before rest of_g.last k.state of_g.state f.why of_g.done of_g.why)
      ∙ ap (λ (es : List Envelope). folds job k.setup es k.state) (sym goes_on) ∙ of_h.done
      )

  as_far : (g h : List Event) (f e : Failure) → IsRun g → first_failure g ≡ Some f → IsRun h → first_failure h ≡ Some e → deliveries_of 0 g ≡ deliveries_of 0 h
  as_far g h f e run is run' is' = elim (cases_order (deliveries_of 0 g) (deliveries_of 0 h)) [
    | inl same ↦ same
    | inr rest ↦ elim rest [
      | inl lt ↦ absurd (no_further g h f e run is run' is' lt)
      | inr gt ↦ absurd (no_further h g e f run' is' run is gt)
    ]
  ]

  the_place : (h : List Event) (f : Failure) (a : IsOfLast job k h f) → f.place ≡ Some (0, a.last.offset)
  the_place h f a =
      let none : a.input ≡ 0 = omega (arith, a.among, plain.input) in
      a.place ∙ ap (λ n. Some (n, a.last.offset)) none

  -- failures of the same messages are the same
  same_failure : (g h : List Event) (f e : Failure) → IsOfLast job k g f → IsOfLast job k h e → delivered k.setup g ≡ delivered k.setup h → (f.place ≡ e.place) × (f.why ≡ e.why)
  same_failure g h f e a b same =
      let ends = same_ends a.before b.before a.last b.last (sym a.all ∙ same ∙ b.all) in
      let state : a.state ≡ b.state = some_is (sym a.done ∙ ap (λ (es : List Envelope). folds job k.setup es k.state) ends.0 ∙ b.done) in (
        the_place g f a ∙ ap (λ (last : Envelope). Some (0, last.offset)) ends.1 ∙ sym (the_place h e b),
        some_is (
            sym a.why
            ∙ ap (λ (last : Envelope). (runs job k.setup last a.state).end) ends.1
            ∙ ap (λ (from : State). (runs job k.setup b.last from).end) state
            ∙ b.why
            ),
      )

  same_one : (g h : List Event) (f e : Failure) → IsRun g → first_failure g ≡ Some f → IsRun h → first_failure h ≡ Some e → (f.place ≡ e.place) × (f.why ≡ e.why) × (deliveries_of 0 g ≡ deliveries_of 0 h)
  same_one g h f e run is run' is' =
      let far = as_far g h f e run is run' is' in
      let same = same_failure g h f e (of_last g f run is) (of_last h e run' is') (in_order g run ∙ ap (first_messages k part) far ∙ sym (in_order h run')) in
      (same.0, same.1, far)

  at_end : (g h : List Event) (f : Failure) → IsRun g → first_failure g ≡ Some f → IsRun h → flights k.setup h ≡ [] → first_failure h ≡ None → deliveries_of 0 h ≡ end_at_input k 0 - start_at k 0 → ⊥
  at_end g h f run is run' idle sound all =
      let done = folded job k plain.of_job plain.alone h run'.quiet run'.lawful idle sound in
      let all_done : folds job k.setup (first_messages k part (end_at_input k 0 - start_at k 0)) k.state ≡ Some (state_after k.state h) =
      ap (λ (es : List Envelope). folds job k.setup es k.state) (sym (in_order h run' ∙ ap (first_messages k part) all)) ∙ done in
      none-some f (sym (none_fails g (state_after k.state h) run all_done) ∙ is)

pub never_fails : (job : Meaning) (k : Given) (part : Partition) (h : List Event) (left : State) → DoesOneByOne job k part → HasNoWindows None h → IsLawful k h
    → folds job k.setup (first_messages k part (end_at_input k 0 - start_at k 0)) k.state ≡ Some left → first_failure h ≡ None
never_fails job k part h left plain quiet lawful done = none_fails job k part plain h left (record { quiet = quiet; lawful = lawful }) done

pub one_failure : (job : Meaning) (k : Given) (part : Partition) (g h : List Event) (f e : Failure) → DoesOneByOne job k part
    → HasNoWindows None g → IsLawful k g → first_failure g ≡ Some f
    → HasNoWindows None h → IsLawful k h → first_failure h ≡ Some e
    → (f.place ≡ e.place) × (f.why ≡ e.why) × (deliveries_of 0 g ≡ deliveries_of 0 h)
one_failure job k part g h f e plain quiet lawful is quiet' lawful' is' =
    same_one job k part plain g h f e (record { quiet = quiet; lawful = lawful }) is (record { quiet = quiet'; lawful = lawful' }) is'

pub failure_or_end : (job : Meaning) (k : Given) (part : Partition) (g h : List Event) (f : Failure) → DoesOneByOne job k part
    → HasNoWindows None g → IsLawful k g → first_failure g ≡ Some f
    → HasNoWindows None h → IsLawful k h → flights k.setup h ≡ [] → first_failure h ≡ None
    → deliveries_of 0 h ≡ end_at_input k 0 - start_at k 0 → ⊥
failure_or_end job k part g h f plain quiet lawful is quiet' lawful' idle sound all =
    at_end job k part plain g h f (record { quiet = quiet; lawful = lawful }) is (record { quiet = quiet'; lawful = lawful' }) idle sound all
