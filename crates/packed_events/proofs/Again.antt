-- The events of heads and bytes are those of which they were made.
use Rattle.std.proofs.Common.{ℕ, ◌+◌, ◌≡◌, ◌<◌, ◌≤◌, zero, suc, List, [], ◌∷◌, ◌++◌, length, take, drop, append-nil, append_assoc, Option, Some, None, Bool, true, false, cond, ◌-◌, refl, sym, ◌∙◌, ap, subst, rules, arith}
use Rattle.samza_model.specs.declared.messages.Record.{Record}
use Rattle.samza_model.specs.declared.acts.Act.{Act}
use Rattle.samza_model.specs.declared.acts.Act.TheVariants.{Get, Next, Put, Delete, Send, AskCommit, AskShutdown, Done, Fail}
use Rattle.samza_model.specs.declared.acts.Answer.{Answer}
use Rattle.samza_model.specs.declared.acts.Answer.TheVariants.{Found, Pair, Missing, Noted}
use Rattle.samza_model.specs.declared.events.Event.{Event}
use Rattle.samza_model.specs.declared.events.Event.TheVariants.{Deliver, Did, Complete, Failed, WindowDid, WindowEnded}
use Rattle.packed_events.specs.declared.heads.Head.{Head}
use Rattle.packed_events.specs.Packed.{value_bytes, record_bytes, act_bytes, answer_bytes, event_bytes, value_head, act_head, answer_head, event_head, record_of, act_of, answer_of, value_len, act_len, answer_len, head_len, event_of, events_in, heads_of, bytes_of, IsPacked, head_belongs, delivered_of, delivered_head}
use Rattle.std.specs.Prelude.{filter, slice_index_or}
use Rattle.std.proofs.lemmas.List.Elements.{filter-append}
use Rattle.std.proofs.lemmas.List.{take_all}
use Rattle.samza_model.specs.Journals.{belongs, is_turn_among}
use Rattle.samza_model.specs.declared.turns.Turn.{Turn}
use Rattle.samza_model.specs.declared.turns.Turn.TheVariants.{Call, Window}

front : (xs ys : List ℕ) → take (length xs) (xs ++ ys) ≡ xs
front [] ys = refl
front (x ∷ xs) ys = ap (λ l. x ∷ l) (front xs ys)

behind : (xs ys : List ℕ) → drop (length xs) (xs ++ ys) ≡ ys
behind [] ys = refl
behind (x ∷ xs) ys = behind xs ys

assoc : (xs ys zs : List ℕ) → (xs ++ ys) ++ zs ≡ xs ++ (ys ++ zs)
assoc [] ys zs = refl
assoc (x ∷ xs) ys zs = ap (λ l. x ∷ l) (assoc xs ys zs)

longer : (xs ys : List ℕ) → length (xs ++ ys) ≡ length xs + length ys
longer [] ys = omega arith
longer (x ∷ xs) ys = omega (arith, longer xs ys)

first : (k v cs : List ℕ) → take (length k) ((k ++ v) ++ cs) ≡ k
first k v cs = ap (take (length k)) (assoc k v cs) ∙ front k (v ++ cs)

second : (k v cs : List ℕ) → take (length v) (drop (length k) ((k ++ v) ++ cs)) ≡ v
second k v cs = ap (λ l. take (length v) (drop (length k) l)) (assoc k v cs) ∙ ap (take (length v)) (behind k (v ++ cs)) ∙ front v cs

record_again : (k : List ℕ) (v : Option (List ℕ)) (cs : List ℕ) → record_of (length k) (value_head v) ((k ++ value_bytes v) ++ cs) ≡ record { key = k; value = v }
record_again k None cs = λ i. record { key = first k [] cs i; value = None }
record_again k (Some v) cs = λ i. record { key = first k v cs i; value = Some (second k v cs i) }

act_again : (act : Act) (cs : List ℕ) → act_of (act_head act) (act_bytes act ++ cs) ≡ act
act_again (Get s k) cs = ap (Get s) (front k cs)
act_again (Next s k) cs = ap (Next s) (front k cs)
act_again (Put s k v) cs = λ i. Put s (first k v cs i) (second k v cs i)
act_again (Delete s k) cs = ap (Delete s) (front k cs)
act_again (Send o b) cs = ap (Send o) (record_again b.key b.value cs)
act_again (AskCommit s) cs = refl
act_again (AskShutdown s) cs = refl
act_again Done cs = refl
act_again (Fail c) cs = refl

answer_again : (answer : Answer) (cs : List ℕ) → answer_of (answer_head answer) (answer_bytes answer ++ cs) ≡ answer
answer_again (Found v) cs = ap Found (front v cs)
answer_again (Pair k v) cs = λ i. Pair (first k v cs i) (second k v cs i)
answer_again Missing cs = refl
answer_again Noted cs = refl

value_len_is : (k : List ℕ) (v : Option (List ℕ)) → length k + value_len (value_head v) ≡ length (k ++ value_bytes v)
value_len_is k None = sym (longer k [])
value_len_is k (Some v) = sym (longer k v)

act_len_is : (act : Act) → act_len (act_head act) ≡ length (act_bytes act)
act_len_is (Get s k) = refl
act_len_is (Next s k) = refl
act_len_is (Put s k v) = sym (longer k v)
act_len_is (Delete s k) = refl
act_len_is (Send o b) = value_len_is b.key b.value
act_len_is (AskCommit s) = refl
act_len_is (AskShutdown s) = refl
act_len_is Done = refl
act_len_is (Fail c) = refl

answer_len_is : (answer : Answer) → answer_len (answer_head answer) ≡ length (answer_bytes answer)
answer_len_is (Found v) = refl
answer_len_is (Pair k v) = sym (longer k v)
answer_len_is Missing = refl
answer_len_is Noted = refl

both_len : (act : Act) (answer : Answer) → act_len (act_head act) + answer_len (answer_head answer) ≡ length (act_bytes act ++ answer_bytes answer)
both_len act answer = ap (λ n. n + answer_len (answer_head answer)) (act_len_is act) ∙ ap (λ n. length (act_bytes act) + n) (answer_len_is answer) ∙ sym (longer (act_bytes act) (answer_bytes answer))

head_len_is : (e : Event) → head_len (event_head e) ≡ length (event_bytes e)
head_len_is (Deliver n p o m t) = value_len_is m.key m.value
head_len_is (Did n i act answer) = both_len act answer
head_len_is (Complete n) = refl
head_len_is (Failed f) = refl
head_len_is (WindowDid i act answer) = both_len act answer
head_len_is WindowEnded = refl

first_act : (act : Act) (answer : Answer) (cs : List ℕ) → act_of (act_head act) ((act_bytes act ++ answer_bytes answer) ++ cs) ≡ act
first_act act answer cs = ap (act_of (act_head act)) (assoc (act_bytes act) (answer_bytes answer) cs) ∙ act_again act (answer_bytes answer ++ cs)

then_answer : (act : Act) (answer : Answer) (cs : List ℕ) → answer_of (answer_head answer) (drop (act_len (act_head act)) ((act_bytes act ++ answer_bytes answer) ++ cs)) ≡ answer
then_answer act answer cs =
    ap (λ n. answer_of (answer_head answer) (drop n ((act_bytes act ++ answer_bytes answer) ++ cs))) (act_len_is act)
    ∙ ap (λ l. answer_of (answer_head answer) (drop (length (act_bytes act)) l)) (assoc (act_bytes act) (answer_bytes answer) cs)
    ∙ ap (answer_of (answer_head answer)) (behind (act_bytes act) (answer_bytes answer ++ cs)) ∙ answer_again answer cs

event_again : (e : Event) (cs : List ℕ) → event_of (event_head e) (event_bytes e ++ cs) ≡ e
event_again (Deliver n p o m t) cs = ap (λ r. Deliver n p o r t) (record_again m.key m.value cs)
event_again (Did n i act answer) cs = λ j. Did n i (first_act act answer cs j) (then_answer act answer cs j)
event_again (Complete n) cs = refl
event_again (Failed f) cs = refl
event_again (WindowDid i act answer) cs = λ j. WindowDid i (first_act act answer cs j) (then_answer act answer cs j)
event_again WindowEnded cs = refl

pub again : (es : List Event) → events_in (heads_of es) (bytes_of es) ≡ es
unfolding events_in heads_of bytes_of
again [] = refl
again (e ∷ es) =
    (λ i. event_again e (bytes_of es) i ∷ events_in (heads_of es) (drop (head_len_is e i) (event_bytes e ++ bytes_of es)))
    ∙ ap (λ l. e ∷ events_in (heads_of es) l) (behind (event_bytes e) (bytes_of es)) ∙ ap (λ l. e ∷ l) (again es)

pub heads_more : (es fs : List Event) → heads_of (es ++ fs) ≡ heads_of es ++ heads_of fs
unfolding heads_of
heads_more [] fs = refl
heads_more (e ∷ es) fs = ap (λ l. event_head e ∷ l) (heads_more es fs)

pub bytes_more : (es fs : List Event) → bytes_of (es ++ fs) ≡ bytes_of es ++ bytes_of fs
unfolding bytes_of
bytes_more [] fs = refl
bytes_more (e ∷ es) fs = ap (λ l. event_bytes e ++ l) (bytes_more es fs) ∙ sym (assoc (event_bytes e) (bytes_of es) (bytes_of fs))

head_first : (e : Event) (es : List Event) → heads_of (e ∷ es) ≡ event_head e ∷ heads_of es
unfolding heads_of
head_first e es = refl

bytes_first : (e : Event) (es : List Event) → bytes_of (e ∷ es) ≡ event_bytes e ++ bytes_of es
unfolding bytes_of
bytes_first e es = refl

one_head : (e : Event) → heads_of (e ∷ []) ≡ event_head e ∷ []
unfolding heads_of
one_head e = refl

one_bytes : (e : Event) → bytes_of (e ∷ []) ≡ event_bytes e
unfolding bytes_of
one_bytes e = append-nil (event_bytes e)

-- heads and bytes made of events are packed, and have just those
pub record Holds (heads : List Head) (bytes : List ℕ) (es : List Event) : Type 0 where
  pub packed : IsPacked heads bytes
  pub value : events_in heads bytes ≡ es

pub holds : (heads : List Head) (bytes : List ℕ) (es : List Event) → heads ≡ heads_of es → bytes ≡ bytes_of es → Holds heads bytes es
holds heads bytes es hs bs =
    let is : events_in heads bytes ≡ es = (λ i. events_in (hs i) (bs i)) ∙ again es in
    record { packed = record { heads_are = hs ∙ ap heads_of (sym is); bytes_are = bs ∙ ap bytes_of (sym is) }; value = is }

-- an event more
pub pushed : (heads heads' : List Head) (bytes bytes' : List ℕ) (es : List Event) (e : Event) → IsPacked heads bytes → events_in heads bytes ≡ es
    → heads' ≡ heads ++ event_head e ∷ [] → bytes' ≡ bytes ++ event_bytes e → Holds heads' bytes' (es ++ e ∷ [])
pushed heads heads' bytes bytes' es e packed value hs bs =
    holds heads' bytes' (es ++ e ∷ [])
    (hs ∙ ap (λ l. l ++ event_head e ∷ []) (packed.heads_are ∙ ap heads_of value) ∙ ap (λ l. heads_of es ++ l) (sym (one_head e)) ∙ sym (heads_more es (e ∷ [])))
    (bs ∙ ap (λ l. l ++ event_bytes e) (packed.bytes_are ∙ ap bytes_of value) ∙ ap (λ l. bytes_of es ++ l) (sym (one_bytes e)) ∙ sym (bytes_more es (e ∷ [])))

pub same_count : (es : List Event) → length (heads_of es) ≡ length es
unfolding heads_of
same_count [] = refl
same_count (e ∷ es) = ap suc (same_count es)

first_heads : (n : ℕ) (es : List Event) → take n (heads_of es) ≡ heads_of (take n es)
unfolding heads_of
first_heads zero es = refl
first_heads (suc n) [] = refl
first_heads (suc n) (e ∷ es) = ap (λ l. event_head e ∷ l) (first_heads n es)

both : (n : ℕ) (es : List Event) → take n es ++ drop n es ≡ es
both zero es = refl
both (suc n) [] = refl
both (suc n) (e ∷ es) = ap (λ l. e ∷ l) (both n es)

-- the first so many events
pub shortened : (heads : List Head) (bytes : List ℕ) (es : List Event) (n b : ℕ) (heads' : List Head) (bytes' : List ℕ) → IsPacked heads bytes → events_in heads bytes ≡ es → b ≡ length (bytes_of (take n es))
    → heads' ≡ take n heads → bytes' ≡ take b bytes → Holds heads' bytes' (take n es)
shortened heads bytes es n b heads' bytes' packed value is hs bs =
    let all : bytes ≡ bytes_of (take n es) ++ bytes_of (drop n es) = packed.bytes_are ∙ ap bytes_of (value ∙ sym (both n es)) ∙ bytes_more (take n es) (drop n es) in
    holds heads' bytes' (take n es)
    (hs ∙ ap (take n) (packed.heads_are ∙ ap heads_of value) ∙ first_heads n es)
    (bs ∙ (λ i. take (is i) (all i)) ∙ front (bytes_of (take n es)) (bytes_of (drop n es)))

pub count_is : (heads : List Head) (bytes : List ℕ) (es : List Event) → IsPacked heads bytes → events_in heads bytes ≡ es → length heads ≡ length es
count_is heads bytes es packed value = ap length (packed.heads_are ∙ ap heads_of value) ∙ same_count es

-- the event at a place, by its head and its bytes
pub record At (bytes : List ℕ) (es : List Event) (i : ℕ) (h : Head) : Type 0 where
  pub event : Event
  pub head : h ≡ event_head event
  pub bytes_are : take (head_len h) (drop (length (bytes_of (take i es))) bytes) ≡ event_bytes event
  pub within : length (bytes_of (take i es)) + head_len h ≤ length bytes
  pub more : take (i + 1) es ≡ take i es ++ event ∷ []
  pub count : length (bytes_of (take (i + 1) es)) ≡ length (bytes_of (take i es)) + head_len h

-- an event cut out of the list
pub record Cut (es : List Event) (i : ℕ) : Type 0 where
  pub event : Event
  pub rest : List Event
  pub all : es ≡ take i es ++ event ∷ rest
  pub more : take (i + 1) es ≡ take i es ++ event ∷ []
  pub before : length (take i es) ≡ i

plus : (i : ℕ) → suc i + 1 ≡ suc (i + 1)
plus i = omega arith

cut_at : (es : List Event) (i : ℕ) → i < length es → Cut es i
cut_at [] i lt = absurd (omega (arith, lt))
cut_at (e ∷ es) zero lt = record { event = e; rest = es; all = refl; more = refl; before = refl }
cut_at (e ∷ es) (suc i) lt =
    let c = cut_at es i (omega (arith, lt)) in
    record { event = c.event; rest = c.rest; all = ap (λ l. e ∷ l) c.all; more = ap (λ n. take n (e ∷ es)) (plus i) ∙ ap (λ l. e ∷ l) c.more; before = ap suc c.before }

middle : (xs : List Head) (y : Head) (zs : List Head) (d : Head) → slice_index_or (xs ++ y ∷ zs) (length xs) d ≡ y
middle [] y zs d = refl
middle (x ∷ xs) y zs d = middle xs y zs d

pub at_place : (heads : List Head) (bytes : List ℕ) (es : List Event) (i : ℕ) (h : Head) → IsPacked heads bytes → events_in heads bytes ≡ es → i < length heads → h ≡ slice_index_or heads i h → At bytes es i h
at_place heads bytes es i h packed value lt got =
    let c = cut_at es i (omega (arith, lt, count_is heads bytes es packed value)) in
    let e = c.event in
    let hs : heads ≡ heads_of (take i es) ++ event_head e ∷ heads_of c.rest = packed.heads_are ∙ ap heads_of (value ∙ c.all) ∙ heads_more (take i es) (e ∷ c.rest) ∙ ap (λ l. heads_of (take i es) ++ l) (head_first e c.rest) in
    let place : length (heads_of (take i es)) ≡ i = same_count (take i es) ∙ c.before in
    let h_is : h ≡ event_head e = got ∙ (λ j. slice_index_or (hs j) (sym place j) h) ∙ middle (heads_of (take i es)) (event_head e) (heads_of c.rest) h in
    let bs : bytes ≡ bytes_of (take i es) ++ (event_bytes e ++ bytes_of c.rest) = packed.bytes_are ∙ ap bytes_of (value ∙ c.all) ∙ bytes_more (take i es) (e ∷ c.rest) ∙ ap (λ l. bytes_of (take i es) ++ l) (bytes_first e c.rest) in
    let len : head_len h ≡ length (event_bytes e) = ap head_len h_is ∙ head_len_is e in
    let next : bytes_of (take (i + 1) es) ≡ bytes_of (take i es) ++ event_bytes e = ap bytes_of c.more ∙ bytes_more (take i es) (e ∷ []) ∙ ap (λ l. bytes_of (take i es) ++ l) (one_bytes e) in
    record {
      event = e;
      head = h_is;
      bytes_are = (λ j. take (len j) (drop (length (bytes_of (take i es))) (bs j))) ∙ ap (take (length (event_bytes e))) (behind (bytes_of (take i es)) (event_bytes e ++ bytes_of c.rest)) ∙ front (event_bytes e) (bytes_of c.rest);
      within = omega (arith, len, ap length bs, longer (bytes_of (take i es)) (event_bytes e ++ bytes_of c.rest), longer (event_bytes e) (bytes_of c.rest));
      more = c.more;
      count = ap length next ∙ longer (bytes_of (take i es)) (event_bytes e) ∙ ap (λ n. length (bytes_of (take i es)) + n) (sym len);
    }

pub belongs_same : (ns : List ℕ) (e : Event) → head_belongs ns (event_head e) ≡ belongs ns e
belongs_same ns (Deliver n p o m t) = refl
belongs_same ns (Did n i act answer) = refl
belongs_same ns (Complete n) = refl
belongs_same ns (Failed f) = refl
belongs_same ns (WindowDid i act answer) = refl
belongs_same ns WindowEnded = refl

pub none_belongs : (es : List Event) → filter (belongs []) es ≡ []
none_belongs [] = refl
none_belongs (e ∷ es) = ap (λ b. cond b (e ∷ filter (belongs []) es) (filter (belongs []) es)) (never e) ∙ none_belongs es
  where
    never : (e : Event) → belongs [] e ≡ false
    never (Deliver n p o m t) = refl
    never (Did n i act answer) = refl
    never (Complete n) = refl
    never (Failed f) = turn f.turn
      where
        turn : (t : Turn) → is_turn_among [] t ≡ false
        turn (Call n) = refl
        turn Window = refl
    never (WindowDid i act answer) = refl
    never WindowEnded = refl

pub kept_none : (ns : List ℕ) (es : List Event) → length ns ≤ 0 → [] ≡ filter (belongs ns) es
kept_none [] es none = sym (none_belongs es)
kept_none (n ∷ ns) es none = absurd (omega (arith, none))

pub no_bytes : 0 ≡ length (bytes_of [])
unfolding bytes_of
no_bytes = refl

pub piece_is : (bytes : List ℕ) (es : List Event) (i : ℕ) (h : Head) (at : At bytes es i h) (from len : ℕ) (slice : List ℕ) → from ≡ length (bytes_of (take i es)) → len ≡ head_len h → slice ≡ bytes
    → take (from + len - from) (drop from slice) ≡ event_bytes at.event
piece_is bytes es i h at from len slice from_is len_is slice_is =
    let n : from + len - from ≡ head_len h = omega (arith, len_is) in
    (λ j. take (n j) (drop (from_is j) (slice_is j))) ∙ at.bytes_are

pub kept_one : (q : Event → Bool) (bytes : List ℕ) (es : List Event) (i : ℕ) (h : Head) (at : At bytes es i h) → q at.event ≡ true → filter q (take (i + 1) es) ≡ filter q (take i es) ++ at.event ∷ []
kept_one q bytes es i h at belongs_is = ap (filter q) at.more ∙ filter-append q (take i es) (at.event ∷ []) ∙ ap (λ b. filter q (take i es) ++ cond b (at.event ∷ []) []) belongs_is

pub passed_one : (q : Event → Bool) (bytes : List ℕ) (es : List Event) (i : ℕ) (h : Head) (at : At bytes es i h) → q at.event ≡ false → filter q (take (i + 1) es) ≡ filter q (take i es)
passed_one q bytes es i h at other_is = ap (filter q) at.more ∙ filter-append q (take i es) (at.event ∷ []) ∙ ap (λ b. filter q (take i es) ++ cond b (at.event ∷ []) []) other_is ∙ append-nil (filter q (take i es))

pub delivered_same : (e : Event) → delivered_head (event_head e) ≡ delivered_of e
delivered_same (Deliver n p o m t) = refl
delivered_same (Did n i act answer) = refl
delivered_same (Complete n) = refl
delivered_same (Failed f) = refl
delivered_same (WindowDid i act answer) = refl
delivered_same WindowEnded = refl

-- what is left in front of the last event
pub rest_is : (heads : List Head) (bytes : List ℕ) (es : List Event) (i : ℕ) (h : Head) → IsPacked heads bytes → events_in heads bytes ≡ es → i + 1 ≡ length heads → (at : At bytes es i h)
    → length bytes ≡ length (bytes_of (take i es)) + head_len h
rest_is heads bytes es i h packed value last at =
    let whole : take (i + 1) es ≡ es = take_all (i + 1) es (omega (arith, last, count_is heads bytes es packed value)) in
    ap length (packed.bytes_are ∙ ap bytes_of (value ∙ sym whole)) ∙ at.count

pub none_popped : (es : List Event) → length es ≤ 0 → es ≡ take (length es - 1) es
none_popped [] none = refl
none_popped (e ∷ es) none = absurd (omega (arith, none))
