-- What a crash leaves of one file, as the calls are gone over.
use Rattle.std.proofs.Common.{ℕ, suc, zero, ◌≡◌, ◌≢◌, ◌+◌, ◌-◌, ◌<◌, ◌≤◌, ◌⊎◌, ◌==◌, if◌then◌else◌, true, false, min, max, List, [], ◌∷◌, ◌++◌, length, take, drop, get_or, replicate, refl, sym, ap, ◌∙◌, subst, arith, inl, inr, length-append, length-take, get_or-take}
use Rattle.std.proofs.lemmas.Bool.{cases_lt}
use Rattle.std.proofs.lemmas.List.{get_or_append_left, get_or-append_right, get_or-replicate, length-replicate}
use Rattle.disk_model.proofs.Replays.{if_elsewhere}
use Rattle.disk_model.proofs.Torn.{cases_in, put_at-below, put_at-behind}
use Rattle.disk_model.specs.Cells.{filled, padded, put_at, put_padded}
use Rattle.disk_model.specs.FileStates.{FileState, InWrites, IsFileImage, after, at_rest, after_all, with_cut, with_written}
use Rattle.disk_model.specs.Formed.{Formed, formed_rest, length-put_at, now_is_image}
use Rattle.disk_model.specs.HeldBytes.{HeldBytes}
use Rattle.disk_model.specs.Picks.{IsCrashOf, IsFilled, IsPicked, read_after, torn_after, torn_cut, torn_write, with_fronts}
use Rattle.disk_model.specs.Traces.{bytes_at, file_end, file_state}
use Rattle.disk_model.specs.declared.picks.Pick.{Pick}
use Rattle.disk_model.specs.declared.picks.Pick.TheVariants.{Old, New, Fill, Cut}
use Rattle.disk_model.specs.declared.traces.Entry.{Entry}
use Rattle.disk_model.specs.declared.traces.Entry.TheVariants.{Quiet, Shortened, Synced, Wrote}

length-padded : (size v : ℕ) (c : List ℕ) → length (padded size v c) ≡ max size (length c)
length-padded size v c =
    omega (arith, length-append c (replicate (size - length c) v), length-replicate (size - length c) v)

padded-low : (size v : ℕ) (c : List ℕ) (i : ℕ) → i < length c → get_or (padded size v c) i 0 ≡ get_or c i 0
padded-low size v c i lt = get_or_append_left c (replicate (size - length c) v) 0 i lt

padded-high : (size v : ℕ) (c : List ℕ) (i : ℕ) → length c ≤ i → i < size → get_or (padded size v c) i 0 ≡ v
padded-high size v c i le lt =
    get_or-append_right c (replicate (size - length c) v) (length c) i 0 refl le
    ∙ get_or-replicate (size - length c) (i - length c) v 0 (omega arith)

put_at-in : (at : ℕ) (b c : List ℕ) (i : ℕ) → at ≤ i → i < at + length b → at ≤ length c → get_or (put_at at b c) i 0 ≡ get_or b (i - at) 0
put_at-in at b c i le lt fits =
    let n : length (take at c) ≡ at = omega (arith, length-take at c) in
    let front : i < length (take at c ++ b) = omega (arith, length-append (take at c) b) in
    get_or_append_left (take at c ++ b) (drop (at + length b) c) 0 i front
    ∙ get_or-append_right (take at c) b at i 0 n le

-- nothing changes but a range, up to which the file may grow
record Changes (at n : ℕ) (c c' : List ℕ) : Type 0 where
  pub no_shorter : length c ≤ length c'
  pub no_longer : length c' ≤ max (length c) (at + n)
  pub same : (i : ℕ) → i < length c → (i < at) ⊎ (at + n ≤ i) → get_or c' i 0 ≡ get_or c i 0

-- nothing changes below a size but that the file may end there
record Shrinks (size : ℕ) (c c' : List ℕ) : Type 0 where
  pub no_shorter : min size (length c) ≤ length c'
  pub no_longer : length c' ≤ length c
  pub same : (i : ℕ) → i < size → i < length c → get_or c' i 0 ≡ get_or c i 0

changes_put : (at : ℕ) (b c : List ℕ) → at ≤ length c → Changes at (length b) c (put_at at b c)
changes_put at b c fits =
    let n = length-put_at at b c in
    record {
      no_shorter = omega arith;
      no_longer = omega arith;
      same = λ i lt out. elim out [ inl l ↦ put_at-below at b c i l lt | inr l ↦ put_at-behind at b c i l fits ];
    }

-- the same where the place is behind the bytes
changes_past : (at : ℕ) (b c : List ℕ) → Changes at (length b) c (put_at at b c)
changes_past at b c =
    let n = length-put_at at b c in
    record {
      no_shorter = omega arith;
      no_longer = omega arith;
      same = λ i lt out. elim out [ inl l ↦ put_at-below at b c i l lt | inr l ↦ put_at-behind at b c i l (omega arith) ];
    }

-- bytes put over padded ones
changes_padded : (at n size v : ℕ) (b c : List ℕ) → at ≤ size → size ≤ at + n → length b ≤ n → Changes at n c (put_at at b (padded size v c))
changes_padded at n size v b c low high le =
    let p = length-padded size v c in
    let q = length-put_at at b (padded size v c) in
    record {
      no_shorter = omega arith;
      no_longer = omega arith;
      same = λ i lt out.
          let lt' : i < length (padded size v c) = omega arith in
          let fits : at ≤ length (padded size v c) = omega arith in
          elim out [
            | inl l ↦ put_at-below at b (padded size v c) i l lt' ∙ padded-low size v c i lt
            | inr l ↦ put_at-behind at b (padded size v c) i (omega arith) fits ∙ padded-low size v c i lt
          ];
    }

changes_none : (at n : ℕ) (c : List ℕ) → Changes at n c c
changes_none at n c = record { no_shorter = omega arith; no_longer = omega arith; same = λ i lt out. refl }

changes_put_padded : (at n : ℕ) (b c : List ℕ) → length b ≤ n → Changes at n c (put_padded at b c)
changes_put_padded at n [] c le = changes_none at n c
changes_put_padded at n (x ∷ b) c le = changes_padded at n at 0 (x ∷ b) c (omega arith) (omega arith) le

changes_filled : (at n v : ℕ) (c : List ℕ) → Changes at n c (filled at n v c)
changes_filled at n v c =
    changes_padded at n (at + n) v (replicate n v) c (omega arith) (omega arith) (omega (arith, length-replicate n v))

changes_torn : (pick : Pick) (at : ℕ) (b c : List ℕ) → Changes at (length b) c (torn_write pick at b c)
changes_torn Old at b c = changes_none at (length b) c
changes_torn New at b c = changes_past at b c
changes_torn (Fill v) at b c = changes_filled at (length b) v c
changes_torn (Cut n) at b c = changes_put_padded at (length b) (take n b) c (omega (arith, length-take n b))

image_written : (at : ℕ) (b : List ℕ) (s : FileState) (c c' : List ℕ) → Formed s → IsFileImage s c → Changes at (length b) c c' → IsFileImage (with_written at b s) c'
image_written at b s c c' h image change =
    let low = h.low in
    let shorter = image.no_shorter in
    let longer = image.no_longer in
    let shorter' = change.no_shorter in
    let longer' = change.no_longer in
    record {
      no_shorter = omega arith;
      no_longer = omega arith;
      same = λ i lt free.
          let in' : i < length c = omega arith in
          let in-now : i < length s.now = omega arith in
          let as_old : get_or c i 0 ≡ get_or s.now i 0 = image.same i lt (λ w. free (inr w)) in
          elim (cases_in at (length b) i) [
            | inl p ↦ absurd (free (inl p))
            | inr q ↦ elim q [
              | inl l ↦ change.same i in' (inl l) ∙ as_old ∙ sym (put_at-below at b s.now i l in-now)
              | inr l ↦ change.same i in' (inr l) ∙ as_old ∙ sym (put_at-behind at b s.now i l (omega arith))
            ]
          ];
    }

image_cut : (size : ℕ) (s : FileState) (c c' : List ℕ) → IsFileImage s c → Shrinks size c c' → IsFileImage (with_cut size s) c'
image_cut size s c c' image change =
    let shorter = image.no_shorter in
    let longer = image.no_longer in
    let shorter' = change.no_shorter in
    let longer' = change.no_longer in
    record {
      no_shorter = omega arith;
      no_longer = omega arith;
      same = λ i lt free.
          let in' : i < length c = omega arith in
          let below : i < size = omega arith in
          let least : i < s.least = omega arith in
          change.same i below in' ∙ image.same i least free ∙ sym (get_or-take size s.now i 0 below);
    }

shrinks_none : (size : ℕ) (c : List ℕ) → Shrinks size c c
shrinks_none size c = record { no_shorter = omega arith; no_longer = omega arith; same = λ i lt lt'. refl }

-- the value from a size on
cut_filled : ℕ → ℕ → List ℕ → List ℕ
cut_filled size v c = filled (min size (length c)) (length c - size) v c

length-cut_filled : (size v : ℕ) (c : List ℕ) → length (cut_filled size v c) ≡ length c
unfolding cut_filled
length-cut_filled size v c =
    let from = min size (length c) in
    let count = length c - size in
    omega (arith, length-put_at from (replicate count v) (padded (from + count) v c), length-padded (from + count) v c, length-replicate count v)

cut_filled-below : (size v : ℕ) (c : List ℕ) (i : ℕ) → i < size → i < length c → get_or (cut_filled size v c) i 0 ≡ get_or c i 0
unfolding cut_filled
cut_filled-below size v c i lt lt' =
    let from = min size (length c) in
    let count = length c - size in
    let p = length-padded (from + count) v c in
    put_at-below from (replicate count v) (padded (from + count) v c) i (omega arith) (omega arith)
    ∙ padded-low (from + count) v c i lt'

cut_filled-behind : (size v : ℕ) (c : List ℕ) (i : ℕ) → size ≤ i → i < length c → get_or (cut_filled size v c) i 0 ≡ v
unfolding cut_filled
cut_filled-behind size v c i le lt =
    let from = min size (length c) in
    let count = length c - size in
    let p = length-padded (from + count) v c in
    let n = length-replicate count v in
    put_at-in from (replicate count v) (padded (from + count) v c) i (omega arith) (omega arith) (omega arith)
    ∙ get_or-replicate count (i - from) v 0 (omega arith)

shrinks_torn : (pick : Pick) (size : ℕ) (c : List ℕ) → Shrinks size c (torn_cut pick size c)
unfolding cut_filled
shrinks_torn Old size c = shrinks_none size c
shrinks_torn New size c =
    let n = length-take size c in
    record { no_shorter = omega arith; no_longer = omega arith; same = λ i lt lt'. get_or-take size c i 0 lt }
shrinks_torn (Fill v) size c =
    let n = length-cut_filled size v c in
    record { no_shorter = omega arith; no_longer = omega arith; same = cut_filled-below size v c }
shrinks_torn (Cut n) size c = shrinks_none size c

filled_written : (at v : ℕ) (b : List ℕ) (s : FileState) (c : List ℕ) → IsFilled v s c → IsFilled v (with_written at b s) (filled at (length b) v c)
filled_written at v b s c h =
    let n = length b in
    let was = h.size in
    let p = length-padded (at + n) v c in
    let q = length-put_at at (replicate n v) (padded (at + n) v c) in
    let r = length-replicate n v in
    record {
      size = omega arith;
      free = λ i lt which.
          elim (cases_in at n i) [
            | inl in' ↦
                put_at-in at (replicate n v) (padded (at + n) v c) i in'.0 (omega (arith, in'.1)) (omega arith)
                ∙ get_or-replicate n (i - at) v 0 (omega (arith, in'.0, in'.1))
            | inr out ↦ elim (cases_lt i (length c)) [
              | inl l ↦
                  let l' : i < s.greatest = omega arith in
                  let which' : (s.least ≤ i) ⊎ InWrites s.writes i =
                  elim which [
                    | inl x ↦ inl x
                    | inr x ↦ elim x [
                      | inl y ↦ absurd (elim out [ inl z ↦ omega (arith, y.0, z) | inr z ↦ omega (arith, y.1, z) ])
                      | inr y ↦ inr y
                    ]
                  ] in
                  (changes_filled at n v c).same i l out ∙ h.free i l' which'
              | inr ge ↦
                  let in' : i < at + n = omega arith in
                  let low : i < at = elim out [ inl z ↦ z | inr z ↦ absurd (omega (arith, z)) ] in
                  put_at-below at (replicate n v) (padded (at + n) v c) i low (omega arith)
                  ∙ padded-high (at + n) v c i ge in'
            ]
          ];
    }

filled_cut : (size v : ℕ) (s : FileState) (c : List ℕ) → IsFilled v s c → IsFilled v (with_cut size s) (torn_cut (Fill v) size c)
unfolding cut_filled
filled_cut size v s c h =
    let was = h.size in
    let n = length-cut_filled size v c in
    record {
      size = omega arith;
      free = λ i lt which.
          let lt' : i < length c = omega arith in
          elim (cases_lt i size) [
            | inl l ↦
                let which' : (s.least ≤ i) ⊎ InWrites s.writes i = elim which [ inl x ↦ inl (omega (arith, x)) | inr x ↦ inr x ] in
                cut_filled-below size v c i l lt' ∙ h.free i lt which'
            | inr ge ↦ cut_filled-behind size v c i ge lt'
          ];
    }

picked_written : (pick : Pick) (at : ℕ) (b : List ℕ) (s : FileState) (c : List ℕ) → IsPicked pick s c → IsPicked pick (with_written at b s) (torn_write pick at b c)
picked_written Old at b s c h = h
picked_written New at b s c h = ap (λ (l : List ℕ). put_at at b l) h
picked_written (Fill v) at b s c h = filled_written at v b s c h
picked_written (Cut n) at b s c h = ap (λ (l : List ℕ). put_padded at (take n b) l) h

picked_cut : (pick : Pick) (size : ℕ) (s : FileState) (c : List ℕ) → IsPicked pick s c → IsPicked pick (with_cut size s) (torn_cut pick size c)
picked_cut Old size s c h = h
picked_cut New size s c h = ap (λ (l : List ℕ). take size l) h
picked_cut (Fill v) size s c h = filled_cut size v s c h
picked_cut (Cut n) size s c h = h

picked_rest : (pick : Pick) (b : List ℕ) → IsPicked pick (at_rest b) b
picked_rest Old b = refl
picked_rest New b = refl
picked_rest (Fill v) b = record {
  size = refl;
  free = λ i lt which. elim which [ inl x ↦ absurd (omega (arith, x, lt)) | inr x ↦ absurd x ];
}
picked_rest (Cut n) b = refl

-- a file at rest has one image, whichever is picked
pub crash_rest : (pick : Pick) (b : List ℕ) → IsCrashOf pick (at_rest b) b
crash_rest pick b = record { image = now_is_image (at_rest b) (formed_rest b); picked = picked_rest pick b }

-- one call more
pub crash_after : (pick : Pick) (w : List ℕ) (f : ℕ) (e : Entry) (s : FileState) (c : List ℕ) → Formed s → IsCrashOf pick s c → IsCrashOf pick (after w f e s) (torn_after pick w f e s.now c)
crash_after pick w f Quiet s c h p = p
crash_after pick w f (Wrote file at from len) s c h p =
    let b = take len (drop from w) in
    elim (file == f) as (λ v. IsCrashOf pick (if v then with_written at b s else s) (if v then torn_write pick at b c else c)) [
      | true ↦ record {
        image = image_written at b s c (torn_write pick at b c) h p.image (changes_torn pick at b c);
        picked = picked_written pick at b s c p.picked;
      }
      | false ↦ p
    ]
crash_after pick w f (Shortened file size) s c h p =
    elim (file == f) as (λ v. IsCrashOf pick (if v then with_cut size s else s) (if v then torn_cut pick size c else c)) [
      | true ↦ record {
        image = image_cut size s c (torn_cut pick size c) p.image (shrinks_torn pick size c);
        picked = picked_cut pick size s c p.picked;
      }
      | false ↦ p
    ]
crash_after pick w f (Synced file) s c h p =
    elim (file == f) as (λ v. IsCrashOf pick (if v then at_rest s.now else s) (if v then s.now else c)) [
      | true ↦ crash_rest pick s.now
      | false ↦ p
    ]

pub now_after : (w : List ℕ) (f : ℕ) (e : Entry) (s : FileState) → (after w f e s).now ≡ read_after w f e s.now
now_after w f Quiet s = refl
now_after w f (Wrote file at from len) s =
    let b = take len (drop from w) in
    elim (file == f) as (λ v. (if v then with_written at b s else s).now ≡ (if v then put_at at b s.now else s.now)) [ true ↦ refl | false ↦ refl ]
now_after w f (Shortened file size) s =
    elim (file == f) as (λ v. (if v then with_cut size s else s).now ≡ (if v then take size s.now else s.now)) [ true ↦ refl | false ↦ refl ]
now_after w f (Synced file) s =
    elim (file == f) as (λ v. (if v then at_rest s.now else s).now ≡ s.now) [ true ↦ refl | false ↦ refl ]

-- a file that was never written
record Blank (s : FileState) : Type 0 where
  pub now : s.now ≡ []
  pub old : s.old ≡ []
  pub greatest : s.greatest ≡ 0
  pub writes : s.writes ≡ []

nothing : (size : ℕ) → take {A = ℕ} size [] ≡ []
nothing zero = refl
nothing (suc n) = refl

blank_rest : (b : List ℕ) → b ≡ [] → Blank (at_rest b)
blank_rest b e = record { now = e; old = e; greatest = ap length e; writes = refl }

blank_after : (w : List ℕ) (f there : ℕ) (e : Entry) (s : FileState) → file_end e ≤ there → there ≤ f → Blank s → Blank (after w f e s)
blank_after w f there Quiet s le high h = h
blank_after w f there (Wrote file at from len) s le high h =
    let ne : f ≢ file = omega arith in
    subst (λ (t : FileState). Blank t) (sym (if_elsewhere file f (with_written at (take len (drop from w)) s) s ne)) h
blank_after w f there (Shortened file size) s le high h =
    elim (file == f) as (λ v. Blank (if v then with_cut size s else s)) [
      | true ↦ record {
        now = ap (λ (l : List ℕ). take size l) h.now ∙ nothing size;
        old = h.old;
        greatest = h.greatest;
        writes = h.writes;
      }
      | false ↦ h
    ]
blank_after w f there (Synced file) s le high h =
    elim (file == f) as (λ v. Blank (if v then at_rest s.now else s)) [ true ↦ blank_rest s.now h.now | false ↦ h ]

blank_replayed : (es : List Entry) (w : List ℕ) (f there : ℕ) (s : FileState) → ((k : ℕ) → file_end (get_or es k Quiet) ≤ there) → there ≤ f → Blank s → Blank (after_all es w f s)
blank_replayed [] w f there s le high h = h
blank_replayed (e ∷ es) w f there s le high h =
    blank_replayed es w f there (after w f e s) (λ k. le (suc k)) high (blank_after w f there e s (le 0) high h)

none : (c : List ℕ) → length c ≡ 0 → c ≡ []
none [] e = refl
none (x ∷ c) e = absurd (omega arith)

picked_blank : (pick : Pick) (s : FileState) (c : List ℕ) → Blank s → IsPicked pick s c → c ≡ []
picked_blank Old s c h p = p ∙ h.old
picked_blank New s c h p = p ∙ h.now
picked_blank (Fill v) s c h p = none c (p.size ∙ h.greatest)
picked_blank (Cut n) s c h p =
    p ∙ ap (λ (ws : List (ℕ × List ℕ)). with_fronts n ws s.old) h.writes ∙ h.old

-- a crash leaves no bytes in a file that was never written
pub crash_unwritten : (pick : Pick) (start : List HeldBytes) (es : List Entry) (w : List ℕ) (f there : ℕ) (c : List ℕ) → ((k : ℕ) → file_end (get_or es k Quiet) ≤ there) → there ≤ f → bytes_at start f ≡ [] → IsCrashOf pick (file_state start es w f) c → c ≡ []
crash_unwritten pick start es w f there c le high empty p =
    picked_blank pick (file_state start es w f) c
    (blank_replayed es w f there (at_rest (bytes_at start f)) le high (blank_rest (bytes_at start f) empty))
    p.picked
