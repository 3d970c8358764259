-- What a crash leaves of one file that is written or cut comes from what it would have left before.
use Rattle.std.proofs.Common.{ℕ, ◌≡◌, ◌+◌, ◌-◌, ◌<◌, ◌≤◌, ◌⊎◌, if◌then◌else◌, ◌&&◌, min, max, nat_le, nat_lt, List, ◌++◌, length, take, drop, get_or, map, sym, ap, ◌∙◌, arith, inl, inr, length-append, length-take, length-drop, get_or-take, get_or-drop}
use Rattle.std.specs.List.{range_with_len}
use Rattle.std.proofs.lemmas.Bool.{and_from, and_left, and_right, cases_lt, cond-false, cond-true, le-leb, le-ltb, lt-leb, lt-ltb}
use Rattle.std.proofs.lemmas.List.{same_lists, get_or_default, get_or_append_left, get_or-append_right}
use Rattle.std.proofs.lemmas.List.FromFn.{length-map-range_with_len, get_or-map-range_with_len}
use Rattle.disk_model.specs.Cells.{put_at}
use Rattle.disk_model.specs.FileStates.{FileState, IsFileImage, at_rest, with_cut, with_written}
use Rattle.disk_model.specs.Formed.{Formed}

-- the list of n numbers that a function gives
pub listed : ℕ → (ℕ → ℕ) → List ℕ
listed n g = map g (range_with_len 0 n)

pub length-listed : (n : ℕ) (g : ℕ → ℕ) → length (listed n g) ≡ n
unfolding listed
length-listed n g = length-map-range_with_len g 0 n

pub get_or-listed : (n : ℕ) (g : ℕ → ℕ) (i : ℕ) → i < n → get_or (listed n g) i 0 ≡ g i
unfolding listed
get_or-listed n g i lt = get_or-map-range_with_len g 0 n i i 0 lt (omega arith)

-- lists of numbers that agree at each place
pub same_bytes : (xs ys : List ℕ) → length xs ≡ length ys → ((k : ℕ) → k < length xs → get_or xs k 0 ≡ get_or ys k 0) → xs ≡ ys
same_bytes xs ys len at =
    same_lists xs ys len
    (λ k d lt.
    let lt' : k < length ys = omega arith in
    get_or_default xs k d 0 lt ∙ at k lt ∙ sym (get_or_default ys k d 0 lt'))

pub same_front : (n : ℕ) (xs ys : List ℕ) → min n (length xs) ≡ min n (length ys) → ((k : ℕ) → k < n → k < length xs → get_or xs k 0 ≡ get_or ys k 0) → take n xs ≡ take n ys
same_front n xs ys len at =
    same_bytes (take n xs) (take n ys)
    (length-take n xs ∙ len ∙ sym (length-take n ys))
    (λ k lt.
    let low : k < n = omega (arith, length-take n xs) in
    let low' : k < length xs = omega (arith, length-take n xs) in
    get_or-take n xs k 0 low ∙ at k low low' ∙ sym (get_or-take n ys k 0 low))

pub same_back : (n : ℕ) (xs ys : List ℕ) → length xs - n ≡ length ys - n → ((k : ℕ) → n ≤ k → k < length xs → get_or xs k 0 ≡ get_or ys k 0) → drop n xs ≡ drop n ys
same_back n xs ys len at =
    same_bytes (drop n xs) (drop n ys)
    (length-drop n xs ∙ len ∙ sym (length-drop n ys))
    (λ k lt.
    let low : n ≤ n + k = omega arith in
    let low' : n + k < length xs = omega (arith, length-drop n xs) in
    get_or-drop n xs k 0 ∙ at (n + k) low low' ∙ sym (get_or-drop n ys k 0))

-- bytes outside a write stay
pub put_at-below : (at : ℕ) (b c : List ℕ) (i : ℕ) → i < at → i < length c → get_or (put_at at b c) i 0 ≡ get_or c i 0
put_at-below at b c i lt in' =
    let front : i < length (take at c) = omega (arith, length-take at c) in
    let front' : i < length (take at c ++ b) = omega (arith, length-append (take at c) b, length-take at c) in
    get_or_append_left (take at c ++ b) (drop (at + length b) c) 0 i front'
    ∙ get_or_append_left (take at c) b 0 i front
    ∙ get_or-take at c i 0 lt

pub put_at-behind : (at : ℕ) (b c : List ℕ) (i : ℕ) → at + length b ≤ i → at ≤ length c → get_or (put_at at b c) i 0 ≡ get_or c i 0
put_at-behind at b c i le fits =
    let n : length (take at c ++ b) ≡ at + length b = omega (arith, length-append (take at c) b, length-take at c) in
    let e : at + length b + (i - (at + length b)) ≡ i = omega arith in
    get_or-append_right (take at c ++ b) (drop (at + length b) c) (at + length b) i 0 n le
    ∙ get_or-drop (at + length b) c (i - (at + length b)) 0
    ∙ ap (λ k. get_or c k 0) e

pub cases_in : (at n i : ℕ) → ((at ≤ i) × (i < at + n)) ⊎ ((i < at) ⊎ (at + n ≤ i))
cases_in at n i = grind arith

-- what a write leaves of a file that a crash cuts short
pub record TornIn (at n : ℕ) (old new : List ℕ) : Type 0 where
  pub before : take at new ≡ take at old
  pub behind : drop (at + n) new ≡ drop (at + n) old
  pub no_shorter : length old ≤ length new
  pub no_longer : length new ≤ max (length old) (at + n)

pub record TornOff (size : ℕ) (old new : List ℕ) : Type 0 where
  pub before : take size new ≡ take size old
  pub no_longer : length new ≤ length old

-- the second function in a range, and the first elsewhere
mixed : ℕ → ℕ → (ℕ → ℕ) → (ℕ → ℕ) → ℕ → ℕ
mixed low high g h i = if nat_le low i && nat_lt i high then h i else g i

mixed-in : (low high : ℕ) (g h : ℕ → ℕ) (i : ℕ) → low ≤ i → i < high → mixed low high g h i ≡ h i
unfolding mixed
mixed-in low high g h i le lt =
    cond-true (nat_le low i && nat_lt i high) (h i) (g i) (and_from (nat_le low i) (nat_lt i high) (le-leb low i le) (lt-ltb i high lt))

mixed-below : (low high : ℕ) (g h : ℕ → ℕ) (i : ℕ) → i < low → mixed low high g h i ≡ g i
unfolding mixed
mixed-below low high g h i lt =
    cond-false (nat_le low i && nat_lt i high) (h i) (g i) (and_left (nat_le low i) (nat_lt i high) (lt-leb low i lt))

mixed-behind : (low high : ℕ) (g h : ℕ → ℕ) (i : ℕ) → high ≤ i → mixed low high g h i ≡ g i
unfolding mixed
mixed-behind low high g h i le =
    cond-false (nat_le low i && nat_lt i high) (h i) (g i) (and_right (nat_le low i) (nat_lt i high) (le-ltb i high le))

-- an image of a written file comes from one of the file before
pub torn_back : (at : ℕ) (b : List ℕ) (s : FileState) (c : List ℕ) → Formed s → at ≤ length s.now → IsFileImage (with_written at b s) c → (d : List ℕ) × IsFileImage s d × TornIn at (length b) d c
torn_back at b s c h fits image =
    let n = min (length c) s.greatest in
    let g : ℕ → ℕ = λ i. get_or c i 0 in
    let now : ℕ → ℕ = λ i. get_or s.now i 0 in
    let d = listed n (mixed at (at + length b) g now) in
    let size : length d ≡ n = length-listed n (mixed at (at + length b) g now) in
    let read : (i : ℕ) → i < n → get_or d i 0 ≡ mixed at (at + length b) g now i = get_or-listed n (mixed at (at + length b) g now) in
    let low = h.low in
    let high = h.high in
    let shorter : s.least ≤ length c = image.no_shorter in
    let longer : length c ≤ max s.greatest (at + length b) = image.no_longer in
    let below : (i : ℕ) → i < n → i < at → get_or d i 0 ≡ get_or c i 0 = λ i lt l. read i lt ∙ mixed-below at (at + length b) g now i l in
    let behind : (i : ℕ) → i < n → at + length b ≤ i → get_or d i 0 ≡ get_or c i 0 = λ i lt l. read i lt ∙ mixed-behind at (at + length b) g now i l in (
      d,
      record {
        no_shorter = omega arith;
        no_longer = omega arith;
        same = λ i lt free.
            let lt' : i < n = omega arith in
            let in' : i < length s.now = omega arith in
            elim (cases_in at (length b) i) [
              | inl p ↦ read i lt' ∙ mixed-in at (at + length b) g now i p.0 p.1
              | inr q ↦ elim q [
                | inl l ↦
                    below i lt' l
                    ∙ image.same i lt (λ w. elim w [ inl p ↦ absurd (omega (arith, p.0, p.1)) | inr r ↦ free r ])
                    ∙ put_at-below at b s.now i l in'
                | inr l ↦
                    behind i lt' l
                    ∙ image.same i lt (λ w. elim w [ inl p ↦ absurd (omega (arith, p.0, p.1)) | inr r ↦ free r ])
                    ∙ put_at-behind at b s.now i l fits
              ]
            ];
      },
      record {
        before = same_front at c d (omega arith) (λ k l lt. let lt' : k < n = omega arith in sym (below k lt' l));
        behind = same_back (at + length b) c d (omega arith) (λ k l lt. let lt' : k < n = omega arith in sym (behind k lt' l));
        no_shorter = omega arith;
        no_longer = omega arith;
      },
    )

-- an image of a cut file comes from one of the file before
pub cut_back : (size : ℕ) (s : FileState) (c : List ℕ) → Formed s → IsFileImage (with_cut size s) c → (d : List ℕ) × IsFileImage s d × TornOff size d c
cut_back size s c h image =
    let n = max (length c) s.least in
    let g : ℕ → ℕ = λ i. get_or s.now i 0 in
    let now : ℕ → ℕ = λ i. get_or c i 0 in
    let high' = min size (length c) in
    let d = listed n (mixed 0 high' g now) in
    let len : length d ≡ n = length-listed n (mixed 0 high' g now) in
    let read : (i : ℕ) → i < n → get_or d i 0 ≡ mixed 0 high' g now i = get_or-listed n (mixed 0 high' g now) in
    let low = h.low in
    let high = h.high in
    let shorter : min s.least size ≤ length c = image.no_shorter in
    let longer : length c ≤ s.greatest = image.no_longer in (
      d,
      record {
        no_shorter = omega arith;
        no_longer = omega arith;
        same = λ i lt free.
            let lt' : i < n = omega arith in
            elim (cases_lt i high') [
              | inl l ↦
                  let cut : i < min s.least size = omega arith in
                  let cut' : i < size = omega arith in
                  read i lt' ∙ mixed-in 0 high' g now i (omega arith) l ∙ image.same i cut free ∙ get_or-take size s.now i 0 cut'
              | inr l ↦ read i lt' ∙ mixed-behind 0 high' g now i l
            ];
      },
      record {
        before = same_front size c d (omega arith) (λ k l lt. let lt' : k < n = omega arith in let in' : k < high' = omega arith in sym (read k lt' ∙ mixed-in 0 high' g now k (omega arith) in'));
        no_longer = omega arith;
      },
    )

-- an image of a file at rest is the file
pub rest_only : (b c : List ℕ) → IsFileImage (at_rest b) c → c ≡ b
rest_only b c image =
    let shorter : length b ≤ length c = image.no_shorter in
    let longer : length c ≤ length b = image.no_longer in
    same_bytes c b (omega arith) (λ k lt. let lt' : k < length b = omega arith in image.same k lt' (λ w. w))
