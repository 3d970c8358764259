-- How many bytes events have.
use Rattle.std.proofs.Common.{ℕ, zero, suc, ◌+◌, ◌-◌, ◌≡◌, ◌≤◌, List, [], ◌∷◌, ◌++◌, length, take, drop, reverse, Option, Some, None, refl, sym, ◌∙◌, ap, arith, length-append}
use Rattle.std.proofs.lemmas.List.{reverse-append}
use Rattle.samza_model.specs.declared.messages.Record.{Record}
use Rattle.samza_model.specs.declared.acts.Act.{Act}
use Rattle.samza_model.specs.declared.acts.Act.TheVariants.{Get, Next, Put, Delete, Send, AskCommit, AskShutdown, Done, Fail}
use Rattle.samza_model.specs.declared.acts.Answer.{Answer}
use Rattle.samza_model.specs.declared.acts.Answer.TheVariants.{Found, Pair, Missing, Noted}
use Rattle.samza_model.specs.declared.events.Event.{Event}
use Rattle.samza_model.specs.declared.events.Event.TheVariants.{Deliver, Did, Complete, Failed, WindowDid, WindowEnded}
use Rattle.samza_model.specs.Requests.{value_size, record_size, act_size, answer_size, event_size, size_of}
use Rattle.packed_events.specs.Packed.{value_bytes, record_bytes, act_bytes, answer_bytes, event_bytes, bytes_of}
use Rattle.packed_events.proofs.Again.{bytes_more}

two : (xs ys : List ℕ) (a b : ℕ) → length xs ≡ a → length ys ≡ b → length (xs ++ ys) ≡ a + b
two xs ys a b p q = omega (arith, length-append xs ys, p, q)

value_is : (v : Option (List ℕ)) → length (value_bytes v) ≡ value_size v
value_is None = refl
value_is (Some v) = refl

record_is : (r : Record) → length (record_bytes r) ≡ record_size r
record_is r = two r.key (value_bytes r.value) _ _ refl (value_is r.value)

act_is : (act : Act) → length (act_bytes act) ≡ act_size act
act_is (Get store key) = refl
act_is (Next store key) = refl
act_is (Put store key value) = two key value _ _ refl refl
act_is (Delete store key) = refl
act_is (Send output body) = record_is body
act_is (AskCommit scope) = refl
act_is (AskShutdown scope) = refl
act_is Done = refl
act_is (Fail code) = refl

answer_is : (answer : Answer) → length (answer_bytes answer) ≡ answer_size answer
answer_is (Found value) = refl
answer_is (Pair key value) = two key value _ _ refl refl
answer_is Missing = refl
answer_is Noted = refl

event_is : (e : Event) → length (event_bytes e) ≡ event_size e
event_is (Deliver n p o m t) = record_is m
event_is (Did n i act answer) = two (act_bytes act) (answer_bytes answer) _ _ (act_is act) (answer_is answer)
event_is (Complete n) = refl
event_is (Failed f) = refl
event_is (WindowDid i act answer) = two (act_bytes act) (answer_bytes answer) _ _ (act_is act) (answer_is answer)
event_is WindowEnded = refl

size_more : (h g : List Event) → size_of (h ++ g) ≡ size_of h + size_of g
size_more [] g = omega arith
size_more (e ∷ h) g = omega (arith, size_more h g)

-- the bytes of events are as many as those of their keys and values
pub bytes_size : (es : List Event) → length (bytes_of es) ≡ size_of (reverse es)
unfolding bytes_of
bytes_size [] = refl
bytes_size (e ∷ es) =
    omega (arith, length-append (event_bytes e) (bytes_of es), event_is e, bytes_size es, size_more (reverse es) (e ∷ []), ap size_of (reverse-append (e ∷ []) es))

in_two : (n : ℕ) (es : List Event) → take n es ++ drop n es ≡ es
in_two zero es = refl
in_two (suc n) [] = refl
in_two (suc n) (e ∷ es) = ap (λ l. e ∷ l) (in_two n es)

whole : (n : ℕ) (es : List Event) → length (bytes_of es) ≡ length (bytes_of (take n es)) + length (bytes_of (drop n es))
whole n es =
    ap (λ l. length (bytes_of l)) (sym (in_two n es)) ∙ ap length (bytes_more (take n es) (drop n es)) ∙ length-append (bytes_of (take n es)) (bytes_of (drop n es))

-- the first so many have no more bytes than all
pub fewer_bytes : (n : ℕ) (es : List Event) → length (bytes_of (take n es)) ≤ length (bytes_of es)
fewer_bytes n es = omega (arith, whole n es)

-- the bytes behind the first so many events
pub bytes_behind : (n : ℕ) (es : List Event) → length (bytes_of es) - length (bytes_of (take n es)) ≡ size_of (reverse (drop n es))
bytes_behind n es = omega (arith, whole n es, bytes_size (drop n es))
