-- What is spelled is read again, so a record spells one checkpoint.
use Rattle.std.proofs.Common.{ℕ, suc, ◌≡◌, ◌≤◌, ◌<◌, ◌^◌, List, [], ◌∷◌, ◌++◌, length, take, drop, Option, Some, refl, sym, ◌∙◌, ap, arith}
use Rattle.std.specs.Int.{Width, byte_len, to_be_bytes, from_be_bytes, w16, w32, w64}
use Rattle.std.specs.List.{flat_map, AllByRecursion}
use Rattle.std.proofs.lemmas.List.{length-append, append_assoc, append-nil}
use Rattle.std.proofs.lemmas.List.Concat.{flat_map-cons}
use Rattle.std.proofs.lemmas.Bool.{le-ltb}
use Rattle.std.proofs.lemmas.Nat.{from_be_bytes-to_be_bytes_2, from_be_bytes-to_be_bytes_4, from_be_bytes-to_be_bytes_8}
use Rattle.std.proofs.Math.Seq.{take-append_seam, drop-append_seam}
use Rattle.samza_model.specs.declared.messages.Record.{Record}
use Rattle.samza_model.specs.declared.checkpoints.InputMark.{InputMark}
use Rattle.samza_model.specs.declared.checkpoints.StoreMark.{StoreMark}
use Rattle.samza_model.specs.declared.checkpoints.Checkpoint.{Checkpoint}
use Rattle.samza_model.specs.Checkpoint.{name_bytes, input_bytes, store_bytes, checkpoint_record, FitsInput, IsWellFormed, IsInRange, Spells}
use Rattle.checkpoint_log.specs.Reading.{byte_at, number_at, name_at, input_at, store_at, list_at, fields_at, checkpoint_at}

-- numbers below the bound go both ways
record IsWidth (w : Width) (bound : ℕ) : Type 0 where
  back : (n : ℕ) → n < bound → from_be_bytes w (to_be_bytes w n) ≡ n
  len : (n : ℕ) → length (to_be_bytes w n) ≡ byte_len w

wide16 : IsWidth w16 (2 ^ 16)
wide16 = record { back = from_be_bytes-to_be_bytes_2; len = λ n. refl }

wide32 : IsWidth w32 (2 ^ 32)
wide32 = record { back = from_be_bytes-to_be_bytes_4; len = λ n. refl }

wide64 : IsWidth w64 (2 ^ 64)
wide64 = record { back = from_be_bytes-to_be_bytes_8; len = λ n. refl }

number_from : (w : Width) (bytes rest : List ℕ) (n : ℕ) → byte_len w ≤ length bytes → from_be_bytes w (take (byte_len w) bytes) ≡ n → drop (byte_len w) bytes ≡ rest → number_at w bytes ≡ Some (n, rest)
unfolding number_at
number_from w bytes rest n le is_n is_rest =
    rw (le-ltb (length bytes) (byte_len w) le) (ap (λ (x : ℕ). Some (x, drop (byte_len w) bytes)) is_n ∙ ap (λ (x : List ℕ). Some (n, x)) is_rest)

number_again : (w : Width) (bound : ℕ) → IsWidth w bound → (n : ℕ) (rest : List ℕ) → n < bound → number_at w (to_be_bytes w n ++ rest) ≡ Some (n, rest)
number_again w bound wide n rest lt =
    let front = to_be_bytes w n in
    let len : length front ≡ byte_len w = wide.len n in
    number_from w (front ++ rest) rest n (omega (arith, length-append front rest, len))
    (ap (λ (k : ℕ). from_be_bytes w (take k (front ++ rest))) (sym len) ∙ ap (λ (l : List ℕ). from_be_bytes w l) (take-append_seam front rest) ∙ wide.back n lt)
    (ap (λ (k : ℕ). drop k (front ++ rest)) (sym len) ∙ drop-append_seam front rest)

byte_again : (b : ℕ) (rest : List ℕ) → byte_at (b ∷ rest) ≡ Some (b, rest)
unfolding byte_at
byte_again b rest = refl

name_again : (name rest : List ℕ) → name_at (name_bytes name ++ rest) ≡ Some (name, rest)
unfolding name_at
name_again name rest =
    let within : length name ≤ length (name ++ rest) = omega (arith, length-append name rest) in
    rw (byte_again (length name) (name ++ rest), le-ltb (length (name ++ rest)) (length name) within, take-append_seam name rest, drop-append_seam name rest) refl

-- the numbers of an input fit their fields
record IsInput (i : InputMark) : Type 0 where
  partition : i.partition < 2 ^ 32
  next : i.next < 2 ^ 64

input_parts : (bytes a b rest stream : List ℕ) (partition next : ℕ) → name_at bytes ≡ Some (stream, a) → number_at w32 a ≡ Some (partition, b) → number_at w64 b ≡ Some (next, rest)
    → input_at bytes ≡ Some (record { stream = stream; partition = partition; next = next }, rest)
unfolding input_at
input_parts bytes a b rest stream partition next h h' h'' = rw (h, h', h'') refl

input_again : (i : InputMark) (rest : List ℕ) → IsInput i → input_at (input_bytes i ++ rest) ≡ Some (i, rest)
input_again i rest fits =
    let n = to_be_bytes w64 i.next ++ rest in
    let p = to_be_bytes w32 i.partition ++ n in
    let split : input_bytes i ++ rest ≡ name_bytes i.stream ++ p =
    append_assoc (name_bytes i.stream ++ to_be_bytes w32 i.partition) (to_be_bytes w64 i.next) rest ∙ append_assoc (name_bytes i.stream) (to_be_bytes w32 i.partition) n in
    input_parts (input_bytes i ++ rest) p n rest i.stream i.partition i.next (ap name_at split ∙ name_again i.stream p)
    (number_again w32 (2 ^ 32) wide32 i.partition n fits.partition) (number_again w64 (2 ^ 64) wide64 i.next rest fits.next)

store_parts : (bytes a rest name : List ℕ) (count : ℕ) → name_at bytes ≡ Some (name, a) → number_at w64 a ≡ Some (count, rest) → store_at bytes ≡ Some (record { name = name; count = count }, rest)
unfolding store_at
store_parts bytes a rest name count h h' = rw (h, h') refl

store_again : (s : StoreMark) (rest : List ℕ) → s.count < 2 ^ 64 → store_at (store_bytes s ++ rest) ≡ Some (s, rest)
store_again s rest fits =
    let n = to_be_bytes w64 s.count ++ rest in
    let split : store_bytes s ++ rest ≡ name_bytes s.name ++ n = append_assoc (name_bytes s.name) (to_be_bytes w64 s.count) rest in
    store_parts (store_bytes s ++ rest) n rest s.name s.count (ap name_at split ∙ name_again s.name n) (number_again w64 (2 ^ 64) wide64 s.count rest fits)

-- a list of what is read again is read again
list_again : {A : Type 0} (read : List ℕ → Option (A × List ℕ)) (spell : A → List ℕ) (P : A → Type 0) → ((x : A) (rest : List ℕ) → P x → read (spell x ++ rest) ≡ Some (x, rest))
    → (xs : List A) (rest : List ℕ) → AllByRecursion P xs → list_at read (length xs) (flat_map spell xs ++ rest) ≡ Some (xs, rest)
unfolding list_at
list_again read spell P again [] rest fits = refl
list_again read spell P again (x ∷ xs) rest fits =
    let regrouped : flat_map spell (x ∷ xs) ++ rest ≡ spell x ++ (flat_map spell xs ++ rest) = ap (λ (l : List ℕ). l ++ rest) (flat_map-cons spell x xs) ∙ append_assoc (spell x) (flat_map spell xs) rest in
    ap (list_at read (suc (length xs))) regrouped ∙ rw (again x (flat_map spell xs ++ rest) fits.0, list_again read spell P again xs rest fits.1) refl

both : (xs : List InputMark) → AllByRecursion FitsInput xs → AllByRecursion (λ i. i.next < 2 ^ 64) xs → AllByRecursion IsInput xs
both [] fits nexts = tt
both (x ∷ xs) fits nexts = (record { partition = omega (arith, fits.0.partition); next = nexts.0 }, both xs fits.1 nexts.1)

any : {X : Type 0} (xs : List X) → AllByRecursion (λ x. Unit {0}) xs
any [] = tt
any (x ∷ xs) = (tt, any xs)

fields_again : (c : Checkpoint) → IsInRange c → IsWellFormed c → fields_at c.id (to_be_bytes w16 (length c.inputs) ++ (flat_map input_bytes c.inputs
    ++ (length c.stores ∷ (flat_map store_bytes c.stores ++ (length c.outputs ∷ flat_map name_bytes c.outputs))))) ≡ Some c
unfolding fields_at
fields_again c range formed =
    let r2 = length c.outputs ∷ flat_map name_bytes c.outputs in
    let r1 = length c.stores ∷ (flat_map store_bytes c.stores ++ r2) in
    let names : list_at name_at (length c.outputs) (flat_map name_bytes c.outputs) ≡ Some (c.outputs, []) =
    ap (list_at name_at (length c.outputs)) (sym (append-nil (flat_map name_bytes c.outputs))) ∙ list_again name_at name_bytes (λ n. Unit {0}) (λ x rest fits. name_again x rest) c.outputs [] (any c.outputs) in
    rw (
      number_again w16 (2 ^ 16) wide16 (length c.inputs) (flat_map input_bytes c.inputs ++ r1) (omega (arith, formed.few_inputs)),
      list_again input_at input_bytes IsInput input_again c.inputs r1 (both c.inputs formed.each_input range.nexts),
      byte_again (length c.stores) (flat_map store_bytes c.stores ++ r2),
      list_again store_at store_bytes (λ s. s.count < 2 ^ 64) store_again c.stores r2 range.counts,
      byte_again (length c.outputs) (flat_map name_bytes c.outputs),
      names,
    ) refl

number_key : (n : ℕ) → n < 2 ^ 64 → number_at w64 (to_be_bytes w64 n) ≡ Some (n, [])
number_key n lt = ap (number_at w64) (sym (append-nil (to_be_bytes w64 n))) ∙ number_again w64 (2 ^ 64) wide64 n [] lt

marked : (key fields : List ℕ) (id : ℕ) (c : Checkpoint) → number_at w64 key ≡ Some (id, []) → fields_at id fields ≡ Some c → checkpoint_at (record { key = key; value = Some (1 ∷ fields) }) ≡ Some c
unfolding checkpoint_at
marked key fields id c h h' = rw (h, byte_again 1 fields, h') refl

-- a checkpoint's record is read as it
pub checkpoint_again : (c : Checkpoint) → IsInRange c → IsWellFormed c → checkpoint_at (checkpoint_record c) ≡ Some c
checkpoint_again c range formed = marked (to_be_bytes w64 c.id) _ c.id c (number_key c.id range.id) (fields_again c range formed)

pub spelled_is_read : (c : Checkpoint) (r : Record) → Spells c r → checkpoint_at r ≡ Some c
spelled_is_read c r spells = ap checkpoint_at spells.is ∙ checkpoint_again c spells.ranges spells.formed

pub some_is : {A : Type 0} (x y : A) → ◌≡◌ {A = Option A} (Some x) (Some y) → x ≡ y
some_is x y e = cc

-- a record spells one checkpoint
pub spells_one : (a b : Checkpoint) (r : Record) → Spells a r → Spells b r → a ≡ b
spells_one a b r p q = some_is a b (sym (spelled_is_read a r p) ∙ spelled_is_read b r q)
