-- Events as heads of one size and the bytes of their keys and values.
use Rattle.std.specs.Prelude.{ℕ, ◌+◌, ◌≡◌, List, [], ◌∷◌, ◌++◌, length, take, drop, map, Option, Some, None, Bool, false}
use Rattle.samza_model.specs.Journals.{is_among, is_turn_among}
use Rattle.samza_model.specs.declared.messages.Record.{Record}
use Rattle.samza_model.specs.declared.acts.Act.{Act}
use Rattle.samza_model.specs.declared.acts.Act.TheVariants.{Get, Next, Put, Delete, Send, AskCommit, AskShutdown, Done, Fail}
use Rattle.samza_model.specs.declared.acts.Answer.{Answer}
use Rattle.samza_model.specs.declared.acts.Answer.TheVariants.{Found, Pair, Missing, Noted}
use Rattle.samza_model.specs.declared.events.Event.{Event}
use Rattle.samza_model.specs.declared.events.Event.TheVariants.{Deliver, Did, Complete, Failed, WindowDid, WindowEnded}
use Rattle.packed_events.specs.declared.heads.ActHead.{ActHead}
use Rattle.packed_events.specs.declared.heads.ActHead.TheVariants.{Get as GetHead, Next as NextHead, Put as PutHead, Delete as DeleteHead, Send as SendHead, AskCommit as AskCommitHead, AskShutdown as AskShutdownHead, Done as DoneHead, Fail as FailHead}
use Rattle.packed_events.specs.declared.heads.AnswerHead.{AnswerHead}
use Rattle.packed_events.specs.declared.heads.AnswerHead.TheVariants.{Found as FoundHead, Pair as PairHead, Missing as MissingHead, Noted as NotedHead}
use Rattle.packed_events.specs.declared.heads.Head.{Head}
use Rattle.packed_events.specs.declared.heads.Head.TheVariants.{Deliver as DeliverHead, Did as DidHead, Complete as CompleteHead, Failed as FailedHead, WindowDid as WindowDidHead, WindowEnded as WindowEndedHead}

-- the bytes of an event's keys and values, behind one another

abbrev pub value_bytes : Option (List ℕ) → List ℕ
value_bytes None = []
value_bytes (Some v) = v

abbrev pub record_bytes : Record → List ℕ
record_bytes r = r.key ++ value_bytes r.value

abbrev pub act_bytes : Act → List ℕ
act_bytes (Get store key) = key
act_bytes (Next store key) = key
act_bytes (Put store key value) = key ++ value
act_bytes (Delete store key) = key
act_bytes (Send output body) = record_bytes body
act_bytes (AskCommit scope) = []
act_bytes (AskShutdown scope) = []
act_bytes Done = []
act_bytes (Fail code) = []

abbrev pub answer_bytes : Answer → List ℕ
answer_bytes (Found value) = value
answer_bytes (Pair key value) = key ++ value
answer_bytes Missing = []
answer_bytes Noted = []

abbrev pub event_bytes : Event → List ℕ
event_bytes (Deliver n p o m t) = record_bytes m
event_bytes (Did n i act answer) = act_bytes act ++ answer_bytes answer
event_bytes (Complete n) = []
event_bytes (Failed f) = []
event_bytes (WindowDid i act answer) = act_bytes act ++ answer_bytes answer
event_bytes WindowEnded = []

-- the heads

abbrev pub value_head : Option (List ℕ) → Option ℕ
value_head None = None
value_head (Some v) = Some (length v)

abbrev pub act_head : Act → ActHead
act_head (Get store key) = GetHead store (length key)
act_head (Next store key) = NextHead store (length key)
act_head (Put store key value) = PutHead store (length key) (length value)
act_head (Delete store key) = DeleteHead store (length key)
act_head (Send output body) = SendHead output (length body.key) (value_head body.value)
act_head (AskCommit scope) = AskCommitHead scope
act_head (AskShutdown scope) = AskShutdownHead scope
act_head Done = DoneHead
act_head (Fail code) = FailHead code

abbrev pub answer_head : Answer → AnswerHead
answer_head (Found value) = FoundHead (length value)
answer_head (Pair key value) = PairHead (length key) (length value)
answer_head Missing = MissingHead
answer_head Noted = NotedHead

abbrev pub event_head : Event → Head
event_head (Deliver n p o m t) = DeliverHead n p o (length m.key) (value_head m.value) t
event_head (Did n i act answer) = DidHead n i (act_head act) (answer_head answer)
event_head (Complete n) = CompleteHead n
event_head (Failed f) = FailedHead f
event_head (WindowDid i act answer) = WindowDidHead i (act_head act) (answer_head answer)
event_head WindowEnded = WindowEndedHead

-- and back, from the front of bytes

abbrev pub record_of : ℕ → Option ℕ → List ℕ → Record
record_of k None bs = record { key = take k bs; value = None }
record_of k (Some v) bs = record { key = take k bs; value = Some (take v (drop k bs)) }

abbrev pub act_of : ActHead → List ℕ → Act
act_of (GetHead store k) bs = Get store (take k bs)
act_of (NextHead store k) bs = Next store (take k bs)
act_of (PutHead store k v) bs = Put store (take k bs) (take v (drop k bs))
act_of (DeleteHead store k) bs = Delete store (take k bs)
act_of (SendHead output k v) bs = Send output (record_of k v bs)
act_of (AskCommitHead scope) bs = AskCommit scope
act_of (AskShutdownHead scope) bs = AskShutdown scope
act_of DoneHead bs = Done
act_of (FailHead code) bs = Fail code

abbrev pub answer_of : AnswerHead → List ℕ → Answer
answer_of (FoundHead v) bs = Found (take v bs)
answer_of (PairHead k v) bs = Pair (take k bs) (take v (drop k bs))
answer_of MissingHead bs = Missing
answer_of NotedHead bs = Noted

abbrev pub value_len : Option ℕ → ℕ
value_len None = 0
value_len (Some v) = v

abbrev pub act_len : ActHead → ℕ
act_len (GetHead store k) = k
act_len (NextHead store k) = k
act_len (PutHead store k v) = k + v
act_len (DeleteHead store k) = k
act_len (SendHead output k v) = k + value_len v
act_len (AskCommitHead scope) = 0
act_len (AskShutdownHead scope) = 0
act_len DoneHead = 0
act_len (FailHead code) = 0

abbrev pub answer_len : AnswerHead → ℕ
answer_len (FoundHead v) = v
answer_len (PairHead k v) = k + v
answer_len MissingHead = 0
answer_len NotedHead = 0

abbrev pub head_len : Head → ℕ
head_len (DeliverHead n p o k v t) = k + value_len v
head_len (DidHead n i act answer) = act_len act + answer_len answer
head_len (CompleteHead n) = 0
head_len (FailedHead f) = 0
head_len (WindowDidHead i act answer) = act_len act + answer_len answer
head_len WindowEndedHead = 0

abbrev pub event_of : Head → List ℕ → Event
event_of (DeliverHead n p o k v t) bs = Deliver n p o (record_of k v bs) t
event_of (DidHead n i act answer) bs = Did n i (act_of act bs) (answer_of answer (drop (act_len act) bs))
event_of (CompleteHead n) bs = Complete n
event_of (FailedHead f) bs = Failed f
event_of (WindowDidHead i act answer) bs = WindowDid i (act_of act bs) (answer_of answer (drop (act_len act) bs))
event_of WindowEndedHead bs = WindowEnded

-- the number, the input and the offset of a callback that begins
abbrev pub delivered_of : Event → Option (ℕ × ℕ × ℕ)
delivered_of (Deliver n p o m t) = Some (n, p, o)
delivered_of (Did n i act answer) = None
delivered_of (Complete n) = None
delivered_of (Failed f) = None
delivered_of (WindowDid i act answer) = None
delivered_of WindowEnded = None

abbrev pub delivered_head : Head → Option (ℕ × ℕ × ℕ)
delivered_head (DeliverHead n p o k v t) = Some (n, p, o)
delivered_head (DidHead n i act answer) = None
delivered_head (CompleteHead n) = None
delivered_head (FailedHead f) = None
delivered_head (WindowDidHead i act answer) = None
delivered_head WindowEndedHead = None

-- the event of this head belongs to one of these callbacks
abbrev pub head_belongs : List ℕ → Head → Bool
head_belongs ns (DeliverHead n p o k v t) = is_among ns n
head_belongs ns (DidHead n i act answer) = is_among ns n
head_belongs ns (CompleteHead n) = is_among ns n
head_belongs ns (FailedHead f) = is_turn_among ns f.turn
head_belongs ns (WindowDidHead i act answer) = false
head_belongs ns WindowEndedHead = false

-- the events of heads and bytes
unfoldable pub events_in : List Head → List ℕ → List Event
events_in [] bs = []
events_in (h ∷ hs) bs = event_of h bs ∷ events_in hs (drop (head_len h) bs)

unfoldable pub heads_of : List Event → List Head
heads_of [] = []
heads_of (e ∷ es) = event_head e ∷ heads_of es

unfoldable pub bytes_of : List Event → List ℕ
bytes_of [] = []
bytes_of (e ∷ es) = event_bytes e ++ bytes_of es

-- the heads and bytes are those of the events that stand in them
pub record IsPacked (heads : List Head) (bytes : List ℕ) : Type 0 where
  pub heads_are : heads ≡ heads_of (events_in heads bytes)
  pub bytes_are : bytes ≡ bytes_of (events_in heads bytes)
