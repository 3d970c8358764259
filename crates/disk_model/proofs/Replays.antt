-- The files after one call more.
use Rattle.std.proofs.Common.{ℕ, suc, zero, ◌≡◌, ◌≢◌, ◌+◌, ◌<◌, ◌≤◌, ◌⊎◌, ◌==◌, if◌then◌else◌, true, false, List, [], ◌∷◌, ◌++◌, length, take, drop, get_or, set, refl, sym, ap, ◌∙◌, subst, arith, inl, inr, length-drop}
use Rattle.std.proofs.lemmas.Bool.{cond-true, cond-false, eq-eqb, ne_eqb, cases_eq}
use Rattle.std.proofs.lemmas.List.{take-append-le, drop-append-le, take_all, drop_at, get_or-set_same, get_or-set_other, set_past, length-set}
use Rattle.disk_model.specs.HeldBytes.{HeldBytes, no_bytes}
use Rattle.disk_model.specs.FileStates.{FileState, after, at_rest, after_all, with_cut, with_written}
use Rattle.disk_model.specs.TraceWords.{AtFile}
use Rattle.disk_model.specs.Traces.{bytes_at, file_end, is_still, reach_of, file_state, used_by, without}
use Rattle.disk_model.specs.declared.traces.Entry.{Entry}
use Rattle.disk_model.specs.declared.traces.Entry.TheVariants.{Quiet, Shortened, Synced, Wrote}

pub if_here : {A : Type 0} (file f : ℕ) (x y : A) → f ≡ file → (if file == f then x else y) ≡ x
if_here file f x y e = cond-true (file == f) x y (eq-eqb file f (sym e))

pub if_elsewhere : {A : Type 0} (file f : ℕ) (x y : A) → f ≢ file → (if file == f then x else y) ≡ y
if_elsewhere file f x y ne = cond-false (file == f) x y (ne_eqb file f (λ e. ne (sym e)))

pub replayed_append : (es fs : List Entry) (w : List ℕ) (f : ℕ) (s : FileState) → after_all (es ++ fs) w f s ≡ after_all fs w f (after_all es w f s)
replayed_append [] fs w f s = refl
replayed_append (e ∷ es) fs w f s = replayed_append es fs w f (after w f e s)

part_grown : (w b : List ℕ) (from len : ℕ) → from + len ≤ length w → take len (drop from (w ++ b)) ≡ take len (drop from w)
part_grown w b from len le =
    let low : from ≤ length w = omega arith in
    let low' : len ≤ length (drop from w) = omega (arith, length-drop from w) in
    ap (λ (l : List ℕ). take len l) (drop-append-le from w b low) ∙ take-append-le len (drop from w) b low'

after_grown : (w b : List ℕ) (f : ℕ) (e : Entry) (s : FileState) → used_by e ≤ length w → after (w ++ b) f e s ≡ after w f e s
after_grown w b f Quiet s le = refl
after_grown w b f (Wrote file at from len) s le =
    ap (λ (bytes : List ℕ). if file == f then with_written at bytes s else s) (part_grown w b from len le)
after_grown w b f (Shortened file size) s le = refl
after_grown w b f (Synced file) s le = refl

replayed_grown : (es : List Entry) (w b : List ℕ) (f : ℕ) (s : FileState) → ((k : ℕ) → used_by (get_or es k Quiet) ≤ length w) → after_all es (w ++ b) f s ≡ after_all es w f s
replayed_grown [] w b f s used = refl
replayed_grown (e ∷ es) w b f s used =
    ap (λ (t : FileState). after_all es (w ++ b) f t) (after_grown w b f e s (used 0))
    ∙ replayed_grown es w b f (after w f e s) (λ k. used (suc k))

used_take : (j : ℕ) (es : List Entry) (n : ℕ) → ((k : ℕ) → used_by (get_or es k Quiet) ≤ n) → (k : ℕ) → used_by (get_or (take j es) k Quiet) ≤ n
used_take zero es n used k = omega arith
used_take (suc j) [] n used k = omega arith
used_take (suc j) (e ∷ es) n used zero = used 0
used_take (suc j) (e ∷ es) n used (suc k) = used_take j es n (λ i. used (suc i)) k

-- a bound on each entry, with one entry more
pub push_bound : (m : Entry → ℕ) (es : List Entry) (e : Entry) (n : ℕ) → ((k : ℕ) → m (get_or es k Quiet) ≤ n) → m e ≤ n → (k : ℕ) → m (get_or (es ++ e ∷ []) k Quiet) ≤ n
push_bound m [] e n old here zero = here
push_bound m [] e n old here (suc k) = old (suc k)
push_bound m (x ∷ es) e n old here zero = old 0
push_bound m (x ∷ es) e n old here (suc k) = push_bound m es e n (λ i. old (suc i)) here k

pub bound_grown : (m : Entry → ℕ) (es es' : List Entry) (e : Entry) (n n' : ℕ) → es' ≡ es ++ e ∷ [] → ((k : ℕ) → m (get_or es k Quiet) ≤ n) → n ≤ n' → m e ≤ n' → (k : ℕ) → m (get_or es' k Quiet) ≤ n'
bound_grown m es es' e n n' is old le here k =
    let up : (i : ℕ) → m (get_or es i Quiet) ≤ n' = λ i. omega (arith, old i) in
    subst (λ (l : List Entry). m (get_or l k Quiet) ≤ n') (sym is) (push_bound m es e n' up here k)

still_after : (w v : List ℕ) (f : ℕ) (e : Entry) (s : FileState) → is_still e ≡ true → after w f e s ≡ after v f e s
still_after w v f Quiet s still = refl
still_after w v f (Wrote file at from len) s still = cc
still_after w v f (Shortened file size) s still = cc
still_after w v f (Synced file) s still = refl

still_now : (w : List ℕ) (f : ℕ) (e : Entry) (s : FileState) → is_still e ≡ true → (after w f e s).now ≡ s.now
still_now w f Quiet s still = refl
still_now w f (Wrote file at from len) s still = cc
still_now w f (Shortened file size) s still = cc
still_now w f (Synced file) s still =
    elim (file == f) as (λ v. (if v then at_rest s.now else s).now ≡ s.now) [ true ↦ refl | false ↦ refl ]

pub still_used : (e : Entry) (n : ℕ) → is_still e ≡ true → used_by e ≤ n
still_used Quiet n still = omega arith
still_used (Wrote file at from len) n still = cc
still_used (Shortened file size) n still = omega arith
still_used (Synced file) n still = omega arith

pub still_reach : (e : Entry) (n : ℕ) → is_still e ≡ true → reach_of e ≤ n
still_reach Quiet n still = omega arith
still_reach (Wrote file at from len) n still = cc
still_reach (Shortened file size) n still = omega arith
still_reach (Synced file) n still = omega arith

pub still_end : (e : Entry) (n : ℕ) → is_still e ≡ true → file_end e ≤ n
still_end Quiet n still = omega arith
still_end (Wrote file at from len) n still = cc
still_end (Shortened file size) n still = omega arith
still_end (Synced file) n still = omega arith

module _ (start : List HeldBytes) (noted noted' : List Entry) (e : Entry) (w : List ℕ) (is : noted' ≡ noted ++ e ∷ []) where
  -- one entry more that needs no written bytes
  pub state_more : (f : ℕ) → file_state start noted' w f ≡ after w f e (file_state start noted w f)
  state_more f =
      ap (λ (es : List Entry). file_state start es w f) is
      ∙ replayed_append noted (e ∷ []) w f (at_rest (bytes_at start f))

  pub state_still : is_still e ≡ true → (f : ℕ) → file_state start noted' w f ≡ after [] f e (file_state start noted w f)
  state_still still f = state_more f ∙ still_after w [] f e (file_state start noted w f) still

  pub still_kept : is_still e ≡ true → (f : ℕ) → (file_state start noted' w f).now ≡ (file_state start noted w f).now
  still_kept still f = ap (λ (s : FileState). s.now) (state_more f) ∙ still_now w f e (file_state start noted w f) still

  -- the calls before the last one
  pub state_past : (j f : ℕ) → j ≤ length noted → file_state start (take j noted') w f ≡ file_state start (take j noted) w f
  state_past j f le =
      ap (λ (es : List Entry). file_state start es w f)
      (ap (λ (es : List Entry). take j es) is ∙ take-append-le j noted (e ∷ []) le)

-- a cut
pub state_cut : (start : List HeldBytes) (noted noted' : List Entry) (file size : ℕ) (w : List ℕ) → noted' ≡ noted ++ Shortened file size ∷ [] → AtFile file (with_cut size) (file_state start noted w) (file_state start noted' w)
state_cut start noted noted' file size w is = record {
  here = state_more start noted noted' (Shortened file size) w is file ∙ if_here file file _ _ refl;
  elsewhere = λ f ne. state_more start noted noted' (Shortened file size) w is f ∙ if_elsewhere file f _ _ ne;
}

-- a write, with its bytes behind those of the calls before
module _ (start : List HeldBytes) (noted noted' : List Entry) (file at : ℕ) (w w' b : List ℕ) (is : noted' ≡ noted ++ Wrote file at (length w) (length b) ∷ []) (is' : w' ≡ w ++ b) (used : (k : ℕ) → used_by (get_or noted k Quiet) ≤ length w) where
  wrote : (f : ℕ) → file_state start noted' w' f ≡ (if file == f then with_written at b (file_state start noted w f) else file_state start noted w f)
  wrote f =
      let s = file_state start noted w f in
      let part : take (length b) (drop (length w) (w ++ b)) ≡ b =
      ap (λ (l : List ℕ). take (length b) l) (drop_at w b (length w) refl) ∙ take_all (length b) b (omega arith) in
      ap (λ (v : List ℕ). file_state start noted' v f) is'
      ∙ state_more start noted noted' (Wrote file at (length w) (length b)) (w ++ b) is f
      ∙ ap (λ (t : FileState). after (w ++ b) f (Wrote file at (length w) (length b)) t) (replayed_grown noted w b f (at_rest (bytes_at start f)) used)
      ∙ ap (λ (l : List ℕ). if file == f then with_written at l s else s) part

  pub state_wrote : AtFile file (with_written at b) (file_state start noted w) (file_state start noted' w')
  state_wrote = record {
    here = wrote file ∙ if_here file file _ _ refl;
    elsewhere = λ f ne. wrote f ∙ if_elsewhere file f _ _ ne;
  }

  pub wrote_past : (j f : ℕ) → j ≤ length noted → file_state start (take j noted') w' f ≡ file_state start (take j noted) w f
  wrote_past j f le =
      ap (λ (v : List ℕ). file_state start (take j noted') v f) is'
      ∙ state_past start noted noted' (Wrote file at (length w) (length b)) (w ++ b) is j f le
      ∙ replayed_grown (take j noted) w b f (at_rest (bytes_at start f)) (used_take j noted (length w) used)

cases_within : (i : ℕ) (l : List HeldBytes) → (i < length l) ⊎ (length l ≤ i)
cases_within i l = grind arith

-- the files' bytes stay those of the states, where one file is changed in both
pub kept_at : (files files' : List HeldBytes) (file : ℕ) (h : HeldBytes) (change : FileState → FileState) (old new : ℕ → FileState)
    → files' ≡ set files file h
    → ((f : ℕ) → bytes_at files f ≡ (old f).now)
    → AtFile file change old new
    → (file < length files → h.bytes ≡ (change (old file)).now)
    → (length files ≤ file → bytes_at files file ≡ (change (old file)).now)
    → (f : ℕ) → bytes_at files' f ≡ (new f).now
kept_at files files' file h change old new is kept step there gone f =
    let now : (f : ℕ) → bytes_at files' f ≡ bytes_at (set files file h) f = λ f. ap (λ (l : List HeldBytes). bytes_at l f) is in
    elim (cases_eq f file) [
      | inl e ↦
          let at_new : (new f).now ≡ (change (old file)).now = ap (λ i. (new i).now) e ∙ ap (λ (s : FileState). s.now) step.here in
          let at_files : bytes_at files' f ≡ bytes_at (set files file h) file = now f ∙ ap (λ i. bytes_at (set files file h) i) e in
          elim (cases_within file files) [
            | inl lt ↦ at_files ∙ ap (λ (x : HeldBytes). x.bytes) (get_or-set_same files file h no_bytes lt) ∙ there lt ∙ sym at_new
            | inr ge ↦ at_files ∙ ap (λ (l : List HeldBytes). bytes_at l file) (set_past files file h ge) ∙ gone ge ∙ sym at_new
          ]
      | inr ne ↦
          now f ∙ ap (λ (x : HeldBytes). x.bytes) (get_or-set_other files file f h no_bytes ne) ∙ kept f
          ∙ sym (ap (λ (s : FileState). s.now) (step.elsewhere f ne))
    ]

-- a file's room stays where its bytes are changed
pub rooms_set : (files files' : List HeldBytes) (file room : ℕ) (h : HeldBytes) → files' ≡ set files file h → ((k : ℕ) → k < length files → (get_or files k no_bytes).room ≡ room) → h.room ≡ (get_or files file no_bytes).room → (k : ℕ) → k < length files' → (get_or files' k no_bytes).room ≡ room
rooms_set files files' file room h is old same k lt =
    let lt' : k < length files = omega (arith, ap length is, length-set files file h) in
    let at : (get_or files' k no_bytes).room ≡ (get_or (set files file h) k no_bytes).room = ap (λ (l : List HeldBytes). (get_or l k no_bytes).room) is in
    elim (cases_eq k file) [
      | inl e ↦
          let lt2 : file < length files = subst (λ i. i < length files) e lt' in
          at ∙ ap (λ i. (get_or (set files file h) i no_bytes).room) e ∙ ap (λ (x : HeldBytes). x.room) (get_or-set_same files file h no_bytes lt2) ∙ same ∙ old file lt2
      | inr ne ↦ at ∙ ap (λ (x : HeldBytes). x.room) (get_or-set_other files file k h no_bytes ne) ∙ old k lt'
    ]

-- a file that was never written stays without bytes
pub unwritten_set : (files files' : List HeldBytes) (file there there' : ℕ) (h : HeldBytes) → files' ≡ set files file h → ((f : ℕ) → there ≤ f → bytes_at files f ≡ []) → there ≤ there' → (there' ≤ file → h.bytes ≡ []) → (f : ℕ) → there' ≤ f → bytes_at files' f ≡ []
unwritten_set files files' file there there' h is none up here f high =
    let now : bytes_at files' f ≡ bytes_at (set files file h) f = ap (λ (l : List HeldBytes). bytes_at l f) is in
    let high' : there ≤ f = omega arith in
    elim (cases_eq f file) [
      | inl e ↦
          let low : there' ≤ file = omega arith in
          let at_files : bytes_at files' f ≡ bytes_at (set files file h) file = now ∙ ap (λ i. bytes_at (set files file h) i) e in
          elim (cases_within file files) [
            | inl lt ↦ at_files ∙ ap (λ (x : HeldBytes). x.bytes) (get_or-set_same files file h no_bytes lt) ∙ here low
            | inr ge ↦
                at_files ∙ ap (λ (l : List HeldBytes). bytes_at l file) (set_past files file h ge)
                ∙ none file (omega arith)
          ]
      | inr ne ↦ now ∙ ap (λ (x : HeldBytes). x.bytes) (get_or-set_other files file f h no_bytes ne) ∙ none f high'
    ]

after_without : (w : List ℕ) (f g : ℕ) (e : Entry) (s : FileState) → f ≢ g → after w f (without g e) s ≡ after w f e s
after_without w f g Quiet s ne = refl
after_without w f g (Wrote file at from len) s ne = elim (cases_eq g file) [
  | inl e ↦
      let differ : f ≢ file = λ q. ne (q ∙ sym e) in
      ap (λ (x : Entry). after w f x s) (if_here file g Quiet (Wrote file at from len) e) ∙ sym (if_elsewhere file f _ _ differ)
  | inr other ↦ ap (λ (x : Entry). after w f x s) (if_elsewhere file g Quiet (Wrote file at from len) other)
]
after_without w f g (Shortened file size) s ne = elim (cases_eq g file) [
  | inl e ↦
      let differ : f ≢ file = λ q. ne (q ∙ sym e) in
      ap (λ (x : Entry). after w f x s) (if_here file g Quiet (Shortened file size) e) ∙ sym (if_elsewhere file f _ _ differ)
  | inr other ↦ ap (λ (x : Entry). after w f x s) (if_elsewhere file g Quiet (Shortened file size) other)
]
after_without w f g (Synced file) s ne = elim (cases_eq g file) [
  | inl e ↦
      let differ : f ≢ file = λ q. ne (q ∙ sym e) in
      ap (λ (x : Entry). after w f x s) (if_here file g Quiet (Synced file) e) ∙ sym (if_elsewhere file f _ _ differ)
  | inr other ↦ ap (λ (x : Entry). after w f x s) (if_elsewhere file g Quiet (Synced file) other)
]

after_nothing : (w : List ℕ) (g : ℕ) (e : Entry) (s : FileState) → after w g (without g e) s ≡ s
after_nothing w g Quiet s = refl
after_nothing w g (Wrote file at from len) s = elim (cases_eq g file) [
  | inl e ↦ ap (λ (x : Entry). after w g x s) (if_here file g Quiet (Wrote file at from len) e)
  | inr other ↦
      ap (λ (x : Entry). after w g x s) (if_elsewhere file g Quiet (Wrote file at from len) other) ∙ if_elsewhere file g _ _ other
]
after_nothing w g (Shortened file size) s = elim (cases_eq g file) [
  | inl e ↦ ap (λ (x : Entry). after w g x s) (if_here file g Quiet (Shortened file size) e)
  | inr other ↦
      ap (λ (x : Entry). after w g x s) (if_elsewhere file g Quiet (Shortened file size) other) ∙ if_elsewhere file g _ _ other
]
after_nothing w g (Synced file) s = elim (cases_eq g file) [
  | inl e ↦ ap (λ (x : Entry). after w g x s) (if_here file g Quiet (Synced file) e)
  | inr other ↦ ap (λ (x : Entry). after w g x s) (if_elsewhere file g Quiet (Synced file) other) ∙ if_elsewhere file g _ _ other
]

-- the calls without those of one file
pub forgotten_elsewhere : (es es' : List Entry) (w : List ℕ) (f g : ℕ) (s : FileState) → length es' ≡ length es → ((k : ℕ) → get_or es' k Quiet ≡ without g (get_or es k Quiet)) → f ≢ g → after_all es' w f s ≡ after_all es w f s
forgotten_elsewhere [] [] w f g s len each ne = refl
forgotten_elsewhere [] (x ∷ xs) w f g s len each ne = cc
forgotten_elsewhere (e ∷ es) [] w f g s len each ne = cc
forgotten_elsewhere (e ∷ es) (x ∷ xs) w f g s len each ne =
    let now : after w f x s ≡ after w f e s = ap (λ (y : Entry). after w f y s) (each 0) ∙ after_without w f g e s ne in
    let len' : length xs ≡ length es = omega arith in
    ap (λ (t : FileState). after_all xs w f t) now ∙ forgotten_elsewhere es xs w f g (after w f e s) len' (λ k. each (suc k)) ne

pub forgotten_here : (es es' : List Entry) (w : List ℕ) (g : ℕ) (s : FileState) → length es' ≡ length es → ((k : ℕ) → get_or es' k Quiet ≡ without g (get_or es k Quiet)) → after_all es' w g s ≡ s
forgotten_here [] [] w g s len each = refl
forgotten_here [] (x ∷ xs) w g s len each = cc
forgotten_here (e ∷ es) [] w g s len each = cc
forgotten_here (e ∷ es) (x ∷ xs) w g s len each =
    let now : after w g x s ≡ s = ap (λ (y : Entry). after w g y s) (each 0) ∙ after_nothing w g e s in
    let len' : length xs ≡ length es = omega arith in
    ap (λ (t : FileState). after_all xs w g t) now ∙ forgotten_here es xs w g s len' (λ k. each (suc k))

used_without : (g : ℕ) (e : Entry) (n : ℕ) → used_by e ≤ n → used_by (without g e) ≤ n
used_without g Quiet n le = le
used_without g (Wrote file at from len) n le = elim (file == g) as (λ v. used_by (if v then Quiet else Wrote file at from len) ≤ n) [ true ↦ omega arith | false ↦ le ]
used_without g (Shortened file size) n le = elim (file == g) as (λ v. used_by (if v then Quiet else Shortened file size) ≤ n) [ true ↦ omega arith | false ↦ le ]
used_without g (Synced file) n le = elim (file == g) as (λ v. used_by (if v then Quiet else Synced file) ≤ n) [ true ↦ omega arith | false ↦ le ]

reach_without : (g : ℕ) (e : Entry) (n : ℕ) → reach_of e ≤ n → reach_of (without g e) ≤ n
reach_without g Quiet n le = le
reach_without g (Wrote file at from len) n le = elim (file == g) as (λ v. reach_of (if v then Quiet else Wrote file at from len) ≤ n) [ true ↦ omega arith | false ↦ le ]
reach_without g (Shortened file size) n le = elim (file == g) as (λ v. reach_of (if v then Quiet else Shortened file size) ≤ n) [ true ↦ omega arith | false ↦ le ]
reach_without g (Synced file) n le = elim (file == g) as (λ v. reach_of (if v then Quiet else Synced file) ≤ n) [ true ↦ omega arith | false ↦ le ]

end_without : (g : ℕ) (e : Entry) (n : ℕ) → file_end e ≤ n → file_end (without g e) ≤ n
end_without g Quiet n le = le
end_without g (Wrote file at from len) n le = elim (file == g) as (λ v. file_end (if v then Quiet else Wrote file at from len) ≤ n) [ true ↦ omega arith | false ↦ le ]
end_without g (Shortened file size) n le = elim (file == g) as (λ v. file_end (if v then Quiet else Shortened file size) ≤ n) [ true ↦ omega arith | false ↦ le ]
end_without g (Synced file) n le = elim (file == g) as (λ v. file_end (if v then Quiet else Synced file) ≤ n) [ true ↦ omega arith | false ↦ le ]

module _ (es es' : List Entry) (g n : ℕ) (each : (k : ℕ) → get_or es' k Quiet ≡ without g (get_or es k Quiet)) where
  pub used_forgotten : ((k : ℕ) → used_by (get_or es k Quiet) ≤ n) → (k : ℕ) → used_by (get_or es' k Quiet) ≤ n
  used_forgotten old k = subst (λ (e : Entry). used_by e ≤ n) (sym (each k)) (used_without g (get_or es k Quiet) n (old k))

  pub reach_forgotten : ((k : ℕ) → reach_of (get_or es k Quiet) ≤ n) → (k : ℕ) → reach_of (get_or es' k Quiet) ≤ n
  reach_forgotten old k = subst (λ (e : Entry). reach_of e ≤ n) (sym (each k)) (reach_without g (get_or es k Quiet) n (old k))

  pub end_forgotten : ((k : ℕ) → file_end (get_or es k Quiet) ≤ n) → (k : ℕ) → file_end (get_or es' k Quiet) ≤ n
  end_forgotten old k = subst (λ (e : Entry). file_end e ≤ n) (sym (each k)) (end_without g (get_or es k Quiet) n (old k))

-- a file's bytes put in place from the start on
pub state_placed : (start start' : List HeldBytes) (es es' : List Entry) (w b : List ℕ) (g : ℕ) (h : HeldBytes)
    → start' ≡ set start g h → h.bytes ≡ b → g < length start
    → length es' ≡ length es → ((k : ℕ) → get_or es' k Quiet ≡ without g (get_or es k Quiet))
    → AtFile g (λ _. at_rest b) (file_state start es w) (file_state start' es' w)
state_placed start start' es es' w b g h is bytes lt len each = record {
  here =
      forgotten_here es es' w g (at_rest (bytes_at start' g)) len each
      ∙ ap (λ (l : List HeldBytes). at_rest (bytes_at l g)) is
      ∙ ap (λ (x : HeldBytes). at_rest x.bytes) (get_or-set_same start g h no_bytes lt)
      ∙ ap at_rest bytes;
  elsewhere = λ f ne.
      forgotten_elsewhere es es' w f g (at_rest (bytes_at start' f)) len each ne
      ∙ ap (λ (l : List HeldBytes). after_all es w f (at_rest (bytes_at l f))) is
      ∙ ap (λ (x : HeldBytes). after_all es w f (at_rest x.bytes)) (get_or-set_other start g f h no_bytes ne);
}
