-- The places of a frame's faults are within its bytes.
use Rattle.std.proofs.Common.{min, ℕ, zero, suc, ◌≡◌, ◌+◌, ◌-◌, ◌<◌, ◌≤◌, List, [], ◌∷◌, length, take, drop, inl, inr, Bool, true, false, Option, Some, None, Result, Ok, Err, nat_lt, ◌==◌, if◌then◌else◌, refl, sym, ◌∙◌, ap, subst, arith}
use Rattle.std.specs.Int.{from_be_bytes, w32}
use Rattle.std.proofs.lemmas.List.{take_min, length-drop, length-take}
use Rattle.std.proofs.lemmas.Bool.{lt-ltb, ltb-false, cases_lt}
use Rattle.log_frame.specs.Reading.{◌>>=◌, number_at, text_at, value_at, record_at, records_at, header_at, frame_at, ended}

-- too few bytes for a header
pub header_short : (bytes : List ℕ) → length bytes < 8 → frame_at bytes ≡ Err 0
unfolding frame_at header_at
header_short bytes less = rw (lt-ltb (length bytes) 8 less) refl

-- the first bytes that are there, at most 8
pub header_view : (rest view : List ℕ) (room n : ℕ) → room ≡ length rest → n ≡ min room 8 → view ≡ take n rest → view ≡ take 8 rest
header_view rest view room n room_is n_is is =
    let same : n ≡ min 8 (length rest) = omega (arith, room_is, n_is) in
    is ∙ ap (λ (k : ℕ). take k rest) same ∙ take_min 8 rest

-- where reading stops
err_is : {A : Type 0} (d e : ℕ) → ◌≡◌ {A = Result A ℕ} (Err d) (Err e) → d ≡ e
err_is d e is = cc

bind_err : {A B : Type 0} (read : Result A ℕ) (f : A → Result B ℕ) (e : ℕ) (P : ℕ → Type 0) → ((e : ℕ) → read ≡ Err e → P e) → ((x : A) (e : ℕ) → f x ≡ Err e → P e) → (read >>= f) ≡ Err e → P e
bind_err (Ok x) f e P p q is = q x e is
bind_err (Err d) f e P p q is = let same : d ≡ e = err_is d e is in p e (ap (λ (k : ℕ). Err k) same)

if_err : {Y : Type 0} (b : Bool) (d : ℕ) (x : Result Y ℕ) (e : ℕ) (P : ℕ → Type 0) → P d → ((e : ℕ) → x ≡ Err e → P e) → (if b then Err d else x) ≡ Err e → P e
if_err true d x e P p q is = subst P (err_is d e is) p
if_err false d x e P p q is = q e is

no_err : {Y : Type 0} (x : Y) (e : ℕ) (P : ℕ → Type 0) → ◌≡◌ {A = Result Y ℕ} (Ok x) (Err e) → P e
no_err x e P is = absurd cc

number_within : (end : ℕ) (bytes : List ℕ) (e : ℕ) → number_at end bytes ≡ Err e → e ≤ end
unfolding number_at
number_within end bytes e = if_err (nat_lt (length bytes) 4) (end - length bytes) (Ok (from_be_bytes w32 (take 4 bytes), drop 4 bytes)) e (λ k. k ≤ end) (omega arith) (λ d is. no_err (from_be_bytes w32 (take 4 bytes), drop 4 bytes) d (λ k. k ≤ end) is)

text_within : (end bound : ℕ) (field : List ℕ) (n : ℕ) (rest : List ℕ) (e : ℕ) → text_at end bound field n rest ≡ Err e → e ≤ end
unfolding text_at
text_within end bound field n rest e =
    if_err (nat_lt bound n) (end - length field) (if nat_lt (length rest) n then Err (end - length field) else Ok (take n rest, drop n rest)) e (λ k. k ≤ end) (omega arith)
    (λ d. if_err (nat_lt (length rest) n) (end - length field) (Ok (take n rest, drop n rest)) d (λ k. k ≤ end) (omega arith) (λ d is. no_err (take n rest, drop n rest) d (λ k. k ≤ end) is))

value_chosen : (b : Bool) (end : ℕ) (bytes : List ℕ) (n : ℕ × List ℕ) (e : ℕ) → if◌then◌else◌ {A = Result (Option (List ℕ) × List ℕ) ℕ} b (Ok (None, n.1)) (text_at end 65536 bytes n.0 n.1 >>= λ v. Ok (Some v.0, v.1)) ≡ Err e → e ≤ end
value_chosen true end bytes n e is = no_err (None, n.1) e (λ k. k ≤ end) is
value_chosen false end bytes n e is = bind_err (text_at end 65536 bytes n.0 n.1) (λ v. Ok (Some v.0, v.1)) e (λ k. k ≤ end) (text_within end 65536 bytes n.0 n.1) (λ v d is. no_err (Some v.0, v.1) d (λ k. k ≤ end) is) is

value_within : (end : ℕ) (bytes : List ℕ) (e : ℕ) → value_at end bytes ≡ Err e → e ≤ end
unfolding value_at
value_within end bytes e = bind_err (number_at end bytes) (λ n. if n.0 == 0xFFFFFFFF then Ok (None, n.1) else (text_at end 65536 bytes n.0 n.1 >>= λ v. Ok (Some v.0, v.1))) e (λ k. k ≤ end) (number_within end bytes) (λ n d is. value_chosen (n.0 == 0xFFFFFFFF) end bytes n d is)

record_within : (end : ℕ) (bytes : List ℕ) (e : ℕ) → record_at end bytes ≡ Err e → e ≤ end
unfolding record_at
record_within end bytes e =
    bind_err (number_at end bytes) (λ n. text_at end 1024 bytes n.0 n.1 >>= λ key. (value_at end key.1 >>= λ value. Ok (record { key = key.0; value = value.0 }, value.1))) e (λ k. k ≤ end) (number_within end bytes)
    (λ n d. bind_err (text_at end 1024 bytes n.0 n.1) (λ key. value_at end key.1 >>= λ value. Ok (record { key = key.0; value = value.0 }, value.1)) d (λ k. k ≤ end) (text_within end 1024 bytes n.0 n.1)
    (λ key d. bind_err (value_at end key.1) (λ value. Ok (record { key = key.0; value = value.0 }, value.1)) d (λ k. k ≤ end) (value_within end key.1) (λ value d is. no_err (record { key = key.0; value = value.0 }, value.1) d (λ k. k ≤ end) is)))

records_within : (end n : ℕ) (bytes : List ℕ) (e : ℕ) → records_at end n bytes ≡ Err e → e ≤ end
unfolding records_at
records_within end zero bytes e is = no_err ([], bytes) e (λ k. k ≤ end) is
records_within end (suc n) bytes e is =
    bind_err (record_at end bytes) (λ first. records_at end n first.1 >>= λ others. Ok (first.0 ∷ others.0, others.1)) e (λ k. k ≤ end) (record_within end bytes)
    (λ first d. bind_err (records_at end n first.1) (λ others. Ok (first.0 ∷ others.0, others.1)) d (λ k. k ≤ end) (records_within end n first.1) (λ others d is. no_err (first.0 ∷ others.0, others.1) d (λ k. k ≤ end) is)) is

ended_chosen : {A : Type 0} (b : Bool) (end : ℕ) (x : A) (rest : List ℕ) (e : ℕ) → if◌then◌else◌ {A = Result (A × ℕ) ℕ} b (Ok (x, end)) (Err (end - length rest)) ≡ Err e → e ≤ end
ended_chosen true end x rest e is = no_err (x, end) e (λ k. k ≤ end) is
ended_chosen false end x rest e is = subst (λ k. k ≤ end) (err_is (end - length rest) e is) (omega arith)

-- the header's refusals
header_within : (bytes : List ℕ) (e : ℕ) → header_at bytes ≡ Err e → e ≤ length bytes
unfolding header_at
header_within bytes e is = elim (cases_lt (length bytes) 8) [
  | inl less ↦ subst (λ k. k ≤ length bytes) (err_is 0 e (sym (let r : header_at bytes ≡ Err 0 = rw (lt-ltb (length bytes) 8 less) refl in r) ∙ is)) (omega arith)
  | inr some ↦
      let P : ℕ → Type 0 = λ k. k ≤ length bytes in
      if_err (nat_lt (length bytes) 8) 0 _ e P (omega arith) (λ d. if_err (nat_lt 272662528 (from_be_bytes w32 (take 4 bytes))) 0 _ d P (omega arith)
      (λ d. if_err (nat_lt (length (drop 8 bytes)) (from_be_bytes w32 (take 4 bytes))) 0 _ d P (omega arith)
      (λ d. if_err (from_be_bytes w32 (take 4 (drop 4 bytes)) == 0) 4 _ d P (omega arith)
      (λ d. if_err (nat_lt 4096 (from_be_bytes w32 (take 4 (drop 4 bytes)))) 4 _ d P (omega arith)
      (λ d is. no_err (from_be_bytes w32 (take 4 (drop 4 bytes)), take (from_be_bytes w32 (take 4 bytes)) (drop 8 bytes)) d P is))))) is
]

guard : {Y : Type 0} (b : Bool) (d : ℕ) (x : Result Y ℕ) (y : Y) → (if b then Err d else x) ≡ Ok y → (b ≡ false) × (x ≡ Ok y)
guard true d x y is = absurd cc
guard false d x y is = (refl, is)

-- the records part is within the bytes
part_within : (bytes : List ℕ) (h : ℕ × List ℕ) → header_at bytes ≡ Ok h → 8 + length h.1 ≤ length bytes
unfolding header_at
part_within bytes h is =
    let l = from_be_bytes w32 (take 4 bytes) in
    let n = from_be_bytes w32 (take 4 (drop 4 bytes)) in
    let one = guard (nat_lt (length bytes) 8) 0 _ h is in
    let two = guard (nat_lt 272662528 l) 0 _ h one.1 in
    let three = guard (nat_lt (length (drop 8 bytes)) l) 0 _ h two.1 in
    let four = guard (n == 0) 4 _ h three.1 in
    let five = guard (nat_lt 4096 n) 4 (Ok (n, take l (drop 8 bytes))) h four.1 in
    let some : 8 ≤ length bytes = ltb-false (length bytes) 8 one.0 in
    let within : l ≤ length (drop 8 bytes) = ltb-false (length (drop 8 bytes)) l three.0 in
    let same : (n, take l (drop 8 bytes)) ≡ h = cc (five.1) in
    let P : ℕ × List ℕ → Type 0 = λ h. 8 + length h.1 ≤ length bytes in
    subst P same (omega (arith, length-take l (drop 8 bytes), length-drop 8 bytes))

-- the place at which reading stops is within the bytes
pub frame_within : (bytes : List ℕ) (e : ℕ) → frame_at bytes ≡ Err e → e ≤ length bytes
unfolding frame_at
frame_within bytes e is = chosen (header_at bytes) (header_within bytes) (part_within bytes) is
  where
    chosen : (h : Result (ℕ × List ℕ) ℕ) → ((e : ℕ) → h ≡ Err e → e ≤ length bytes) → ((p : ℕ × List ℕ) → h ≡ Ok p → 8 + length p.1 ≤ length bytes)
        → (h >>= λ h. (records_at (8 + length h.1) h.0 h.1 >>= λ x. ended (8 + length h.1) x.0 x.1)) ≡ Err e → e ≤ length bytes
    chosen (Err d) bad good is = bad e (ap (λ (k : ℕ). Err k) (err_is d e is))
    chosen (Ok p) bad good is =
        let within : e ≤ 8 + length p.1 = bind_err (records_at (8 + length p.1) p.0 p.1) (λ x. ended (8 + length p.1) x.0 x.1) e (λ k. k ≤ 8 + length p.1)
        (records_within (8 + length p.1) p.0 p.1) (λ x d is. ended_chosen (length x.1 == 0) (8 + length p.1) x.0 x.1 d is) is in
        omega (arith, within, good p refl)
