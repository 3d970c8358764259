-- Whether a question is still what its turn asks.
use Rattle.std.proofs.Common.{ℕ, ◌≡◌, ◌≢◌, ◌↔◌, ◌⊎◌, ◌∙◌, List, [], Option, Some, None, Result, Ok, Err, OnOk, IfOk, true, false, ap, refl, sym, subst, rules}
use Rattle.std.specs.Option.{option_map}
use Rattle.samza_model.specs.declared.acts.Act.{Act}
use Rattle.samza_model.specs.declared.acts.Answer.{Answer}
use Rattle.samza_model.specs.declared.flights.Flight.{Flight}
use Rattle.samza_model.specs.declared.messages.Envelope.{Envelope}
use Rattle.samza_model.specs.declared.turns.Turn.{Turn}
use Rattle.samza_model.specs.declared.turns.Turn.TheVariants.{Call, Window}
use Rattle.samza_model.specs.Events.{flight_of}
use Rattle.samza_model.specs.Meaning.{Meaning}
use Rattle.core_steps.specs.Cores.{CoreValue}
use Rattle.task_core.specs.declared.applied.Applied.{Applied}
use Rattle.task_core.specs.declared.faults.ApplyFault.{ApplyFault}
use Rattle.task_core.specs.declared.faults.ApplyFault.TheVariants.{Unknown, Stale, NoMemory}
use Rattle.task_core.specs.declared.questions.Question.{Question}
use Rattle.task_core.specs.Acting.{next_act, next_in_window}
use Rattle.task_core.specs.Applying.{IsAnswered, IsUnknown, IsStale, envelope_in}
use Rattle.task_core.specs.Questions.{question_of, call_question, window_question}
use Rattle.task_core.specs.Stepping.{IsNext, next_in}

clash : false ≡ true → ⊥
clash q = search rules

abbrev answers_in : Option Question → List Answer
answers_in None = []
answers_in (Some q) = q.answers

abbrev envelope_of : Option Question → Option Envelope
envelope_of None = None
envelope_of (Some q) = q.envelope

abbrev act_in : Act → Option Act → Act
act_in d None = d
act_in d (Some act) = act

one_act : (a b : Act) → Some a ≡ Some b → a ≡ b
one_act a b is = ap (act_in a) is

pub one_answer : (u : CoreValue) (q : Question) (a b : List Answer) → IsAnswered u q a → IsAnswered u q b → a ≡ b
one_answer u q a b is so = ap answers_in (sym is ∙ so)

abbrev number_in : Turn → ℕ
number_in (Call n) = n
number_in Window = 0

pub one_number : (t : Turn) (n m : ℕ) → t ≡ Call n → t ≡ Call m → n ≡ m
one_number t n m is so = ap number_in (sym is ∙ so)

pub of_call : (u : CoreValue) (q : Question) (n : ℕ) (r : Option (List Answer)) → q.turn ≡ Call n
    → ((a : List Answer) → (r ≡ Some a) ↔ (question_of u (Call n) ≡ Some (record { turn = Call n; envelope = q.envelope; answers = a })))
    → (a : List Answer) → (r ≡ Some a) ↔ IsAnswered u q a
of_call u q n r is so = subst (λ (t : Turn). (a : List Answer) → (r ≡ Some a) ↔ (question_of u t ≡ Some (record { turn = t; envelope = envelope_in t q.envelope; answers = a }))) (sym is) so

-- of what the question is compared with

module _ (u : CoreValue) (q : Question) (t : List Answer) (truth : (a : List Answer) → (Some t ≡ Some a) ↔ IsAnswered u q a) (r : Result (Unit {0}) ApplyFault) where
  answered : IsAnswered u q t
  answered = (truth t).0 refl

  pub compared_current : OnOk r (q.answers ≡ t) → OnOk r (IsAnswered u q q.answers)
  compared_current same = by_result r same
    where
      by_result : (x : Result (Unit {0}) ApplyFault) → OnOk x (q.answers ≡ t) → OnOk x (IsAnswered u q q.answers)
      by_result (Ok y) is = subst (IsAnswered u q) (sym is) answered
      by_result (Err e) is = tt

  pub compared_unknown : (r ≢ Err Unknown) → (r ≡ Err Unknown) ↔ IsUnknown u q
  compared_unknown known = (λ is. absurd (known is), λ unknown. absurd (unknown t answered))

  pub compared_stale : ((a : List Answer) → r ≡ Err (Stale a) → (a ≡ t) × (t ≢ q.answers)) → (a : List Answer) → r ≡ Err (Stale a) → IsStale u q a
  compared_stale stale a is =
      let s = stale a is in
      record { answered = subst (IsAnswered u q) (sym s.0) answered; differ = λ same. s.1 (sym s.0 ∙ same) }

  pub compared_differ : (t ≢ q.answers → (r ≡ Err (Stale t)) ⊎ (r ≡ Err NoMemory)) → (a : List Answer) → IsStale u q a → (r ≡ Err (Stale a)) ⊎ (r ≡ Err NoMemory)
  compared_differ differ a s =
      let is : t ≡ a = one_answer u q t a answered s.answered in
      subst (λ (x : List Answer). (r ≡ Err (Stale x)) ⊎ (r ≡ Err NoMemory)) is (differ (λ same. s.differ (sym is ∙ same)))

none_some : (a : List Answer) → None ≡ Some a → ⊥
none_some a q = search rules

pub not_answered : (u : CoreValue) (q : Question) → ((a : List Answer) → (None ≡ Some a) ↔ IsAnswered u q a) → IsUnknown u q
not_answered u q truth a is = none_some a ((truth a).1 is)

-- the act is the job's on the turn as it stands

pub next_of_call : (job : Meaning) (u : CoreValue) (q : Question) (act : Act) (n : ℕ) (f : Flight) → IsNext job q act → IsAnswered u q q.answers → q.turn ≡ Call n
    → flight_of n u.callbacks.flights ≡ Some f → act ≡ next_act job f
next_of_call job u q act n f next current turn flies =
    let at : question_of u (Call n) ≡ Some (record { turn = Call n; envelope = q.envelope; answers = q.answers }) = subst (λ (t : Turn). question_of u t ≡ Some (record { turn = t; envelope = envelope_in t q.envelope; answers = q.answers })) turn current in
    let both : Some (call_question n f) ≡ Some (record { turn = Call n; envelope = q.envelope; answers = q.answers }) = sym (ap (λ (o : Option Flight). option_map (call_question n) o) flies) ∙ at in
    let made : next_in job (Call n) q.envelope q.answers ≡ Some act = subst (λ (t : Turn). next_in job t q.envelope q.answers ≡ Some act) turn next in
    one_act act (next_act job f) (sym made ∙ (λ i. next_in job (Call n) (envelope_of (sym both i)) (answers_in (sym both i))))

pub next_of_window : (job : Meaning) (u : CoreValue) (q : Question) (act : Act) (answers : List Answer) → IsNext job q act → IsAnswered u q q.answers → q.turn ≡ Window
    → u.window ≡ Some answers → act ≡ next_in_window job answers
next_of_window job u q act answers next current turn opened =
    let at : question_of u Window ≡ Some (record { turn = Window; envelope = None; answers = q.answers }) = subst (λ (t : Turn). question_of u t ≡ Some (record { turn = t; envelope = envelope_in t q.envelope; answers = q.answers })) turn current in
    let both : Some (window_question answers) ≡ Some (record { turn = Window; envelope = None; answers = q.answers }) = sym (ap (λ (o : Option (List Answer)). option_map window_question o) opened) ∙ at in
    let made : next_in job Window q.envelope q.answers ≡ Some act = subst (λ (t : Turn). next_in job t q.envelope q.answers ≡ Some act) turn next in
    one_act act (next_in_window job answers) (sym made ∙ (λ i. Some (job.window (answers_in (sym both i)))))

-- what holds of the act holds of the job's act, where the question is what its turn asks

pub if_call : (P : Act → Applied → Type 0) (job : Meaning) (u : CoreValue) (q : Question) (act : Act) (n : ℕ) (f : Flight) (r : Result Applied ApplyFault) → IsNext job q act → OnOk r (IsAnswered u q q.answers)
    → q.turn ≡ Call n → flight_of n u.callbacks.flights ≡ Some f → IfOk r (P act) → IfOk r (P (next_act job f))
if_call P job u q act n f (Ok a) next current turn flies holds = subst (λ (x : Act). P x a) (next_of_call job u q act n f next current turn flies) holds
if_call P job u q act n f (Err e) next current turn flies holds = tt

pub if_window : (P : Act → Applied → Type 0) (job : Meaning) (u : CoreValue) (q : Question) (act : Act) (answers : List Answer) (r : Result Applied ApplyFault) → IsNext job q act → OnOk r (IsAnswered u q q.answers)
    → q.turn ≡ Window → u.window ≡ Some answers → IfOk r (P act) → IfOk r (P (next_in_window job answers))
if_window P job u q act answers (Ok a) next current turn opened holds = subst (λ (x : Act). P x a) (next_of_window job u q act answers next current turn opened) holds
if_window P job u q act answers (Err e) next current turn opened holds = tt
