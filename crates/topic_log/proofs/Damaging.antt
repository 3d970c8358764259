-- A file that is damaged has no frames, and one place of damage.
use Rattle.std.proofs.Common.{ℕ, ◌≡◌, ◌≢◌, inl, inr, List, [], ◌∷◌, ◌++◌, length, drop, Result, Ok, Err, refl, sym, ◌∙◌, ap, subst, arith, append_assoc}
use Rattle.std.specs.List.{AllByRecursion}
use Rattle.std.proofs.lemmas.List.{append-nil}
use Rattle.samza_model.specs.declared.messages.Record.{Record}
use Rattle.samza_model.specs.Frames.{frame_bytes}
use Rattle.samza_model.specs.Limits.{IsFrameable}
use Rattle.samza_model.specs.Logs.{spelled, HasFrames, HasNoLog}
use Rattle.log_frame.specs.Reading.{frame_at}
use Rattle.log_frame.proofs.Laws.{frame_again}
use Rattle.topic_log.specs.Damage.{IsDamage, IsDamagedAt}
use Rattle.topic_log.proofs.Spelling.{Goes, fronts, closed_ends}

-- where damage stands no frame does
damage_no_frame : (rest : List ℕ) (gate at : ℕ) (f : List Record) (more : List (List Record)) (y : List ℕ) → IsDamage rest gate at → AllByRecursion IsFrameable (f ∷ more) → rest ≡ spelled (f ∷ more) ++ y → ⊥
damage_no_frame [] gate at f more y damage fits is = absurd (omega (arith, ap length is))
damage_no_frame (g ∷ behind) gate at f more y damage fits is =
    let split : behind ≡ frame_bytes f ++ (spelled more ++ y) = ap (λ (l : List ℕ). drop 1 l) is ∙ append_assoc (frame_bytes f) (spelled more) y in
    let stops = damage.1 in
    let both : ◌≡◌ {A = Result (List Record × ℕ) ℕ} (Err stops.place) (Ok (f, length (frame_bytes f))) = sym stops.stops ∙ ap frame_at split ∙ frame_again f (spelled more ++ y) fits.0 in
    absurd cc

-- nor a closed gate
damage_not_closed : (rest : List ℕ) (gate at x : ℕ) (behind : List ℕ) → IsDamage rest gate at → x ≢ 0x4F → rest ≡ x ∷ behind → ⊥
damage_not_closed [] gate at x behind damage shut is = absurd (omega (arith, ap length is))
damage_not_closed (g ∷ rest) gate at x behind damage shut is = shut (let same : g ≡ x = cc in sym same ∙ damage.0)

-- a file with damage has no frames
pub damaged_once : (bytes : List ℕ) (at : ℕ) (frames : List (List Record)) → IsDamagedAt bytes at → HasFrames bytes frames → ⊥
damaged_once bytes at frames d (inl p) = omega (arith, p.0, d.long)
damaged_once bytes at frames d (inr h) =
    elim (fronts d.frames frames d.rest (h.gate ∷ h.behind) d.frameable h.frameable (sym d.split ∙ h.split)) [
      | inl p ↦ met d.rest (length (spelled d.frames)) at p.more (h.gate ∷ h.behind) h.gate h.behind d.here p.frameable refl h.closed p.behind
      | inr p ↦
          let none : p.more ≡ [] = closed_ends p.more h.gate h.behind d.rest h.closed p.behind in
          damage_not_closed d.rest (length (spelled d.frames)) at h.gate h.behind d.here h.closed (sym (p.behind ∙ ap (λ (m : List (List Record)). spelled m ++ d.rest) none))
    ]
  where
    met : (rest : List ℕ) (gate at : ℕ) (more : List (List Record)) (y : List ℕ) (x : ℕ) (behind : List ℕ) → IsDamage rest gate at → AllByRecursion IsFrameable more → y ≡ x ∷ behind → x ≢ 0x4F → rest ≡ spelled more ++ y → ⊥
    met rest gate at [] y x behind damage fits is shut e = damage_not_closed rest gate at x behind damage shut (e ∙ is)
    met rest gate at (f ∷ more) y x behind damage fits is shut e = damage_no_frame rest gate at f more y damage fits e

pub damaged_no_log : (bytes : List ℕ) (at : ℕ) → IsDamagedAt bytes at → HasNoLog bytes
damaged_no_log bytes at d = λ frames has. damaged_once bytes at frames d has

-- the same damage has one place
one_place : (rest : List ℕ) (gate m n : ℕ) → IsDamage rest gate m → IsDamage rest gate n → m ≡ n
one_place [] gate m n p q = p ∙ sym q
one_place (g ∷ behind) gate m n p q =
    let both : ◌≡◌ {A = Result (List Record × ℕ) ℕ} (Err p.1.place) (Err q.1.place) = sym p.1.stops ∙ q.1.stops in
    let same : p.1.place ≡ q.1.place = cc in
    omega (arith, p.1.at_is, q.1.at_is, same)

pub damage_unique : (bytes : List ℕ) (m n : ℕ) → IsDamagedAt bytes m → IsDamagedAt bytes n → m ≡ n
damage_unique bytes m n p q =
    elim (fronts p.frames q.frames p.rest q.rest p.frameable q.frameable (sym p.split ∙ q.split)) [
      | inl h ↦ stands p.frames q.frames p.rest q.rest m n p.here q.here h
      | inr h ↦ sym (stands q.frames p.frames q.rest p.rest n m q.here p.here h)
    ]
  where
    stands : (fs gs : List (List Record)) (x y : List ℕ) (m n : ℕ) → IsDamage x (length (spelled fs)) m → IsDamage y (length (spelled gs)) n → Goes fs gs x y → m ≡ n
    stands fs gs x y m n p q h = by_more h.more h.frames h.frameable h.behind
      where
        by_more : (more : List (List Record)) → gs ≡ fs ++ more → AllByRecursion IsFrameable more → x ≡ spelled more ++ y → m ≡ n
        by_more [] is fits behind =
            let same : gs ≡ fs = is ∙ append-nil fs in
            let q' = subst (λ (l : List (List Record)). IsDamage y (length (spelled l)) n) same q in
            one_place y (length (spelled fs)) m n (subst (λ (l : List ℕ). IsDamage l (length (spelled fs)) m) behind p) q'
        by_more (f ∷ more) is fits behind = absurd (damage_no_frame x (length (spelled fs)) m f more y p fits behind)
