-- What runs of device calls leave, joined.
use Rattle.std.proofs.Common.{ℕ, ◌≡◌, ◌≤◌, inl, inr, sym, ◌∙◌, subst, refl, arith}
use Rattle.samza_model.specs.Files.{Image}
use Rattle.disk_model.specs.Images.{Follows, Keeps, Joins, LeavesOnly}
use Rattle.disk_model.proofs.Laws.{started, goes_on}
use Rattle.topic_log.specs.Moves.{Moves, Rests, Same}

module _ {D : Type 0} (reads : D → Image) (number : D → ℕ) (images : D → Image → Type 0) (since : D → ℕ → Image → Type 0) where
  -- one device call
  pub one_call : (old new : D) (step : Image → Image → Type 0)
      → ((c : Image) → since old (number old) c → images old c)
      → ((c : Image) → step c c)
      → Joins (number old) (since old) (since new) (images new)
      → number old ≤ number new
      → Follows step (images old) (images new)
      → images new (reads new)
      → Moves reads number images since old new step
  one_call old new step only same time le from read = record {
    moment = goes_on number images since old old new step (started number images since old step only (λ c left. (c, left, same c))) time le from;
    now = from;
    read = read;
  }

  -- one device call that changes nothing
  pub one_rest : (old new : D)
      → ((c : Image) → since old (number old) c → images old c)
      → Joins (number old) (since old) (since new) (images new)
      → number old ≤ number new
      → Keeps (images old) (images new)
      → Keeps (images new) (images old)
      → images new (reads new)
      → reads new ≡ reads old
      → Rests reads number images since old new
  one_rest old new only time le kept none_lost read same = record {
    moves = one_call old new Same only (λ c. refl) time le (λ c left. (c, kept c left, refl)) read;
    reads_are = same;
    none_lost = none_lost;
  }

  -- nothing new is left where nothing but reads was called
  pub images_kept : (old new : D) → Rests reads number images since old new → Keeps (images old) (images new)
  images_kept old new r i left = let p = r.moves.now i left in subst (images old) (sym p.2) p.1

  -- no device call
  pub no_call : (old : D) (step : Image → Image → Type 0)
      → ((c : Image) → since old (number old) c → images old c)
      → ((c : Image) → step c c)
      → images old (reads old)
      → Moves reads number images since old old step
  no_call old step only same read = record {
    moment = started number images since old step only (λ c left. (c, left, same c));
    now = λ c left. (c, left, same c);
    read = read;
  }

  -- a run after a run; the steps may use that the image before them is one
  pub then_from : (old mid new : D) (first second step : Image → Image → Type 0)
      → Moves reads number images since old mid first
      → Moves reads number images since mid new second
      → ((a b c : Image) → images old a → images mid b → first a b → second b c → step a c)
      → ((a b : Image) → images old a → first a b → step a b)
      → Moves reads number images since old new step
  then_from old mid new first second step one two both alone =
      let up : number old ≤ number mid = one.moment.later in
      let on : number mid ≤ number new = two.moment.later in
      let From : Image → Type 0 = λ c. (d : Image) × images old d × step d c in
      let alone' : (c : Image) → ((d : Image) × images old d × first d c) → From c = λ c p. (p.0, p.1, alone p.0 c p.1 p.2) in
      let joined : (c : Image) → ((b : Image) × images mid b × second b c) → From c =
      λ c p.
      let q : (d : Image) × images old d × first d p.0 = one.now p.0 p.1 in
      (q.0, q.1, both q.0 p.0 c q.1 p.1 q.2 p.2) in
      record {
        moment = record {
          later = omega arith;
          each = λ c left. elim (two.moment.before (number old) c up left) [ inl past ↦ alone' c (one.moment.each c past) | inr p ↦ joined c p ];
          before = λ k c low left.
              let low' : k ≤ number mid = omega arith in
              elim (two.moment.before k c low' left) [
                | inl past ↦ elim (one.moment.before k c low past) [ inl p ↦ inl p | inr p ↦ inr (alone' c p) ]
                | inr p ↦ inr (joined c p)
              ];
        };
        now = λ c left. joined c (two.now c left);
        read = two.read;
      }

  pub then : (old mid new : D) (first second step : Image → Image → Type 0)
      → Moves reads number images since old mid first
      → Moves reads number images since mid new second
      → ((a b c : Image) → first a b → second b c → step a c)
      → ((a b : Image) → first a b → step a b)
      → Moves reads number images since old new step
  then old mid new first second step one two both alone =
      then_from old mid new first second step one two (λ a b c now mid p q. both a b c p q) (λ a b now p. alone a b p)

  -- a weaker step, which may use that the image before it is one
  pub weaken : (old new : D) (first step : Image → Image → Type 0)
      → Moves reads number images since old new first
      → ((a b : Image) → images old a → first a b → step a b)
      → Moves reads number images since old new step
  weaken old new first step run imply =
      let more : (c : Image) → ((d : Image) × images old d × first d c) → (d : Image) × images old d × step d c = λ c p. (p.0, p.1, imply p.0 c p.1 p.2) in
      record {
        moment = record {
          later = run.moment.later;
          each = λ c left. more c (run.moment.each c left);
          before = λ k c low left. elim (run.moment.before k c low left) [ inl past ↦ inl past | inr p ↦ inr (more c p) ];
        };
        now = λ c left. more c (run.now c left);
        read = run.read;
      }

  -- runs that leave each image as it was
  pub then_same : (old mid new : D) → Moves reads number images since old mid Same → Moves reads number images since mid new Same → Moves reads number images since old new Same
  then_same old mid new one two = then old mid new Same Same Same one two (λ a b c p q. q ∙ p) (λ a b p. p)

  -- a run of any step, after one that leaves each image as it was
  pub same_then : (old mid new : D) (step : Image → Image → Type 0) → ((c : Image) → step c c)
      → Moves reads number images since old mid Same → Moves reads number images since mid new step → Moves reads number images since old new step
  same_then old mid new step same one two =
      then old mid new Same step step one two (λ a b c p q. subst (λ (d : Image). step d c) p q) (λ a b p. subst (λ (d : Image). step a d) (sym p) (same a))

  -- a run that leaves each image as it was, after one of any step
  pub then_still : (old mid new : D) (step : Image → Image → Type 0)
      → Moves reads number images since old mid step → Moves reads number images since mid new Same → Moves reads number images since old new step
  then_still old mid new step one two =
      then old mid new step Same step one two (λ a b c p q. subst (λ (d : Image). step a d) (sym q) p) (λ a b p. p)

  pub one_read : (old new : D)
      → ((c : Image) → since old (number old) c → images old c)
      → Joins (number old) (since old) (since new) (images new)
      → number old ≤ number new
      → Keeps (images old) (images new)
      → Keeps (images new) (images old)
      → reads new ≡ reads old
      → images new (reads new)
      → Rests reads number images since old new
  one_read old new only time le keeps lost is read = record {
    moves = one_call old new Same only (λ c. refl) time le (λ c now. (c, keeps c now, refl)) read;
    reads_are = is;
    none_lost = lost;
  }

  pub no_read : (old : D) → ((c : Image) → since old (number old) c → images old c) → images old (reads old) → Rests reads number images since old old
  no_read old only read = record {
    moves = no_call old Same only (λ c. refl) read;
    reads_are = refl;
    none_lost = λ c now. now;
  }

  pub rests_then : (old mid new : D) → Rests reads number images since old mid → Rests reads number images since mid new → Rests reads number images since old new
  rests_then old mid new one two = record {
    moves = then_same old mid new one.moves two.moves;
    reads_are = two.reads_are ∙ one.reads_are;
    none_lost = λ c now. two.none_lost c (one.none_lost c now);
  }

  -- the same from its parts
  pub rests_from : (old new : D) → LeavesOnly number images since old new Same → reads new ≡ reads old → Keeps (images old) (images new) → Keeps (images new) (images old) → images new (reads new) → Rests reads number images since old new
  rests_from old new moment is keeps lost read = record {
    moves = record { moment = moment; now = λ c now. (c, keeps c now, refl); read = read };
    reads_are = is;
    none_lost = lost;
  }
