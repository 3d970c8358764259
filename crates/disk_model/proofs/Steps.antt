-- What one call leaves of a whole disk, from what it does to the state of each file.
use Rattle.std.proofs.Common.{ℕ, ◌≡◌, ◌≢◌, ◌+◌, ◌<◌, ◌≤◌, ◌==◌, if◌then◌else◌, max, min, List, length, take, drop, refl, sym, ap, ◌∙◌, subst, arith, inl, inr}
use Rattle.std.proofs.lemmas.Bool.{cases_eq, cases_lt}
use Rattle.samza_model.specs.Files.{Image}
use Rattle.disk_model.proofs.Replays.{if_elsewhere, if_here}
use Rattle.disk_model.proofs.Torn.{cut_back, rest_only, torn_back}
use Rattle.disk_model.specs.FileStates.{FileState, IsFileImage, IsImage, at_rest, with_cut, with_written}
use Rattle.disk_model.specs.Formed.{Formed, now_is_image, then_now}
use Rattle.disk_model.specs.Images.{Follows, Joins, Keeps, TornCut, TornWrite}
use Rattle.disk_model.specs.TraceWords.{AtFile, calls_noted, now_of, then_of}
use Rattle.disk_model.specs.declared.traces.Trace.{Trace}

-- an image of states is one of the same states
pub keeps_same : (old new : ℕ → FileState) → ((f : ℕ) → new f ≡ old f) → Keeps (IsImage old) (IsImage new)
keeps_same old new same c now f = subst (λ (s : FileState). IsFileImage s (c f)) (same f) (now f)

pub keeps_back : (old new : ℕ → FileState) → ((f : ℕ) → new f ≡ old f) → Keeps (IsImage new) (IsImage old)
keeps_back old new same c now f = subst (λ (s : FileState). IsFileImage s (c f)) (sym (same f)) (now f)

pub not_torn : (file at n : ℕ) (c : Image) → TornWrite file at n c c
not_torn file at n c = record { before = refl; behind = refl; no_shorter = omega arith; no_longer = omega arith; elsewhere = λ f ne. refl }

pub not_cut : (file size : ℕ) (c : Image) → TornCut file size c c
not_cut file size c = record { before = refl; no_longer = omega arith; elsewhere = λ f ne. refl }

-- the image c with another content of one file
with_file : ℕ → List ℕ → Image → Image
with_file file d c f = if file == f then d else c f

with_file-here : (file : ℕ) (d : List ℕ) (c : Image) → with_file file d c file ≡ d
unfolding with_file
with_file-here file d c = if_here file file d (c file) refl

with_file-elsewhere : (file : ℕ) (d : List ℕ) (c : Image) (f : ℕ) → f ≢ file → with_file file d c f ≡ c f
unfolding with_file
with_file-elsewhere file d c f ne = if_elsewhere file f d (c f) ne

-- an image of the states before, from one of a changed file
before_change : (file : ℕ) (change : FileState → FileState) (old new : ℕ → FileState) (c : Image) (d : List ℕ) → AtFile file change old new → IsImage new c → IsFileImage (old file) d → IsImage old (with_file file d c)
before_change file change old new c d step now here f =
    elim (cases_eq f file) [
      | inl e ↦
          let at_file : IsFileImage (old file) (with_file file d c file) = subst (λ (l : List ℕ). IsFileImage (old file) l) (sym (with_file-here file d c)) here in
          subst (λ i. IsFileImage (old i) (with_file file d c i)) (sym e) at_file
      | inr ne ↦
          let there : IsFileImage (old f) (c f) = subst (λ (s : FileState). IsFileImage s (c f)) (step.elsewhere f ne) (now f) in
          subst (λ (l : List ℕ). IsFileImage (old f) l) (sym (with_file-elsewhere file d c f ne)) there
    ]

pub follows_written : (file at : ℕ) (b : List ℕ) (old new : ℕ → FileState) → AtFile file (with_written at b) old new → Formed (old file) → at ≤ length (old file).now → Follows (TornWrite file at (length b)) (IsImage old) (IsImage new)
follows_written file at b old new step h fits c now =
    let here : IsFileImage (with_written at b (old file)) (c file) = subst (λ (s : FileState). IsFileImage s (c file)) step.here (now file) in
    let p = torn_back at b (old file) (c file) h fits here in
    let d = p.0 in
    let torn = p.2 in
    let is : with_file file d c file ≡ d = with_file-here file d c in
    let shorter : length d ≤ length (c file) = torn.no_shorter in
    let longer : length (c file) ≤ max (length d) (at + length b) = torn.no_longer in (
      with_file file d c,
      before_change file (with_written at b) old new c d step now p.1,
      record {
        before = torn.before ∙ ap (λ (l : List ℕ). take at l) (sym is);
        behind = torn.behind ∙ ap (λ (l : List ℕ). drop (at + length b) l) (sym is);
        no_shorter = omega (arith, ap length is);
        no_longer = omega (arith, ap length is);
        elsewhere = λ f ne. sym (with_file-elsewhere file d c f ne);
      },
    )

pub follows_cut : (file size : ℕ) (old new : ℕ → FileState) → AtFile file (with_cut size) old new → Formed (old file) → Follows (TornCut file size) (IsImage old) (IsImage new)
follows_cut file size old new step h c now =
    let here : IsFileImage (with_cut size (old file)) (c file) = subst (λ (s : FileState). IsFileImage s (c file)) step.here (now file) in
    let p = cut_back size (old file) (c file) h here in
    let d = p.0 in
    let torn = p.2 in
    let is : with_file file d c file ≡ d = with_file-here file d c in
    let shorter : length (c file) ≤ length d = torn.no_longer in (
      with_file file d c,
      before_change file (with_cut size) old new c d step now p.1,
      record {
        before = torn.before ∙ ap (λ (l : List ℕ). take size l) (sym is);
        no_longer = omega (arith, ap length is);
        elsewhere = λ f ne. sym (with_file-elsewhere file d c f ne);
      },
    )

-- a file at rest is as it reads, and each image is one of before
pub rest_is : (file : ℕ) (old new : ℕ → FileState) → AtFile file (λ s. at_rest s.now) old new → (c : Image) → IsImage new c → c file ≡ (old file).now
rest_is file old new step c now =
    rest_only (old file).now (c file) (subst (λ (s : FileState). IsFileImage s (c file)) step.here (now file))

pub keeps_rest : (file : ℕ) (old new : ℕ → FileState) → AtFile file (λ s. at_rest s.now) old new → Formed (old file) → Keeps (IsImage old) (IsImage new)
keeps_rest file old new step h c now f =
    elim (cases_eq f file) [
      | inl e ↦
          let at_file : IsFileImage (old file) (c file) = subst (λ (l : List ℕ). IsFileImage (old file) l) (sym (rest_is file old new step c now)) (now_is_image (old file) h) in
          subst (λ i. IsFileImage (old i) (c i)) (sym e) at_file
      | inr ne ↦ subst (λ (s : FileState). IsFileImage s (c f)) (step.elsewhere f ne) (now f)
    ]

-- images since a number, after one call more
pub joins : (calls calls' : ℕ) (old new : ℕ → ℕ → FileState) (now : ℕ → FileState)
    → calls ≤ calls' → calls' ≤ calls + 1
    → ((j f : ℕ) → j ≤ calls → new j f ≡ old j f)
    → ((f : ℕ) → new (calls + 1) f ≡ now f)
    → Joins calls
    (λ k c. (j : ℕ) × (k ≤ j) × (j ≤ calls) × IsImage (old j) c)
    (λ k c. (j : ℕ) × (k ≤ j) × (j ≤ calls') × IsImage (new j) c)
    (IsImage now)
joins calls calls' old new now le le' same last = record {
  nothing_else = λ k c low since.
      let j = since.0 in
      let high : j ≤ calls' = since.2 in
      elim (cases_lt calls j) [
        | inl lt ↦
            let e : j ≡ calls + 1 = omega arith in
            inr (λ f. subst (λ (s : FileState). IsFileImage s (c f)) (ap (λ i. new i f) e ∙ last f) (since.3 f))
        | inr ge ↦ inl (j, since.1, ge, λ f. subst (λ (s : FileState). IsFileImage s (c f)) (same j f ge) (since.3 f))
      ];
  keeps = λ k c low since.
      let j = since.0 in
      let high : j ≤ calls = since.2 in
      (j, since.1, omega arith, λ f. subst (λ (s : FileState). IsFileImage s (c f)) (sym (same j f high)) (since.3 f));
}

-- the same of a disk in memory
pub joins_trace : (calls calls' : ℕ) (old new : Trace)
    → calls ≤ calls' → calls' ≤ calls + 1
    → calls_noted old ≡ min calls old.limit
    → calls_noted new ≡ min (calls_noted old + 1) old.limit
    → ((j f : ℕ) → (calls_noted old < old.limit → j ≤ calls_noted old) → then_of new j f ≡ then_of old j f)
    → Joins calls
    (λ k c. (j : ℕ) × (k ≤ j) × (j ≤ calls) × IsImage (then_of old j) c)
    (λ k c. (j : ℕ) × (k ≤ j) × (j ≤ calls') × IsImage (then_of new j) c)
    (IsImage (now_of new))
joins_trace calls calls' old new le le' counted count past =
    let last : calls_noted new ≤ calls + 1 = omega arith in
    joins calls calls' (then_of old) (then_of new) (now_of new) le le'
    (λ j f low. past j f (λ open'. omega arith))
    (λ f. then_now new (calls + 1) f last)
