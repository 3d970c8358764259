-- What a run of calls leaves of a disk at any moment, from what each call leaves.
use Rattle.std.proofs.Common.{ℕ, ◌≤◌, inl, inr, arith}
use Rattle.samza_model.specs.Files.{Image}
use Rattle.disk_model.specs.Images.{Joins, LeavesOnly}

module _ {D : Type 0} (number : D → ℕ) (images : D → Image → Type 0) (since : D → ℕ → Image → Type 0) where
  -- before the first call
  pub started : (old : D) (step : Image → Image → Type 0)
      → ((c : Image) → since old (number old) c → images old c)
      → ((c : Image) → images old c → (d : Image) × images old d × step d c)
      → LeavesOnly number images since old old step
  started old step only here = record {
    later = omega arith;
    each = λ c left. here c (only c left);
    before = λ k c le left. inl left;
  }

  -- one call more, whose images after it are those of old after a step
  pub goes_on : (old mid new : D) (step : Image → Image → Type 0)
      → LeavesOnly number images since old mid step
      → Joins (number mid) (since mid) (since new) (images new)
      → number mid ≤ number new
      → ((c : Image) → images new c → (d : Image) × images old d × step d c)
      → LeavesOnly number images since old new step
  goes_on old mid new step run time le from =
      let up : number old ≤ number mid = run.later in
      record {
        later = omega arith;
        each = λ c left. elim (time.nothing_else (number old) c up left) [ inl past ↦ run.each c past | inr now ↦ from c now ];
        before = λ k c low left.
            let low' : k ≤ number mid = omega arith in
            elim (time.nothing_else k c low' left) [ inl past ↦ run.before k c low past | inr now ↦ inr (from c now) ];
      }

  -- a whole run after a whole run; the steps may use that the image before them is one
  pub followed_from : (old mid new : D) (first second step : Image → Image → Type 0)
      → ((k : ℕ) (c : Image) → k ≤ number mid → images mid c → since mid k c)
      → LeavesOnly number images since old mid first
      → LeavesOnly number images since mid new second
      → ((a b c : Image) → images old a → images mid b → first a b → second b c → step a c)
      → ((a b : Image) → images old a → first a b → step a b)
      → LeavesOnly number images since old new step
  followed_from old mid new first second step counts one two both alone =
      let up : number old ≤ number mid = one.later in
      let on : number mid ≤ number new = two.later in
      let From : Image → Type 0 = λ c. (d : Image) × images old d × step d c in
      let alone' : (c : Image) → ((d : Image) × images old d × first d c) → From c =
      λ c p. (p.0, p.1, alone p.0 c p.1 p.2) in
      let joined : (c : Image) → ((b : Image) × images mid b × second b c) → From c =
      λ c p.
      let q : (d : Image) × images old d × first d p.0 = one.each p.0 (counts (number old) p.0 up p.1) in
      (q.0, q.1, both q.0 p.0 c q.1 p.1 q.2 p.2) in
      record {
        later = omega arith;
        each = λ c left. elim (two.before (number old) c up left) [ inl past ↦ alone' c (one.each c past) | inr p ↦ joined c p ];
        before = λ k c low left.
            let low' : k ≤ number mid = omega arith in
            elim (two.before k c low' left) [
              | inl past ↦ elim (one.before k c low past) [ inl p ↦ inl p | inr p ↦ inr (alone' c p) ]
              | inr p ↦ inr (joined c p)
            ];
      }

  -- a whole run after a whole run
  pub followed : (old mid new : D) (first second step : Image → Image → Type 0)
      → ((k : ℕ) (c : Image) → k ≤ number mid → images mid c → since mid k c)
      → LeavesOnly number images since old mid first
      → LeavesOnly number images since mid new second
      → ((a b c : Image) → first a b → second b c → step a c)
      → ((a b : Image) → first a b → step a b)
      → LeavesOnly number images since old new step
  followed old mid new first second step counts one two both alone =
      followed_from old mid new first second step counts one two
      (λ a b c now then p q. both a b c p q)
      (λ a b now p. alone a b p)

  -- a weaker step; it may use that the image before it is one
  pub weaker : (old new : D) (first step : Image → Image → Type 0)
      → LeavesOnly number images since old new first
      → ((a b : Image) → images old a → first a b → step a b)
      → LeavesOnly number images since old new step
  weaker old new first step run imply = record {
    later = run.later;
    each = λ c left.
        let p : (d : Image) × images old d × first d c = run.each c left in
        (p.0, p.1, imply p.0 c p.1 p.2);
    before = λ k c low left. elim (run.before k c low left) [
      | inl past ↦ inl past
      | inr p ↦ inr (p.0, p.1, imply p.0 c p.1 p.2)
    ];
  }
