-- A unit that stands by some events stands by the same behind a commit.
use Rattle.std.proofs.Common.{ℕ, ◌≡◌, ◌≤◌, ◌<◌, ◌+◌, ◌-◌, ◌⊎◌, inl, inr, zero, suc, List, [], ◌∷◌, ◌++◌, length, length-append, append_assoc, append-nil, drop, take, get_or, Option, Some, None, Bool, true, false, refl, sym, ◌∙◌, ap, subst, arith, rules, slice_get}
use Rattle.std.proofs.lemmas.List.{take_all}
use Rattle.std.proofs.lemmas.Option.{same_Some}
use Rattle.std.specs.Prelude.{IfSome}
use Rattle.samza_model.specs.declared.messages.Record.{Record}
use Rattle.samza_model.specs.declared.checkpoints.Checkpoint.{Checkpoint}
use Rattle.samza_model.specs.declared.setups.Setup.{Setup}
use Rattle.samza_model.specs.Content.{Content, State, foldrec, sent_at, store_at}
use Rattle.samza_model.specs.Files.{Image, checkpoint_file, changelog_file, output_file}
use Rattle.samza_model.specs.Logs.{HasLog, joined}
use Rattle.samza_model.specs.Meaning.{Meaning}
use Rattle.samza_model.specs.Restored.{IsNamed, Restores, HoldsContent, id_of, next_at, count_at, store_file}
use Rattle.disk_model.specs.Images.{LeavesOnly}
use Rattle.disk_model.proofs.Laws.{followed}
use Rattle.topic_log.proofs.Laws.{joined-append, log_unique, frames_unique}
use Rattle.samza_model.specs.declared.events.Event.{Event}
use Rattle.samza_model.specs.Events.{older, low, flights, first_failure, window_open, state_after, is_covered, deliveries_of}
use Rattle.samza_model.specs.Lawful.{Given, start_at}
use Rattle.core_steps.specs.Held.{Held, state_of, contents_of}
use Rattle.core_steps.specs.Lanes.{lane_at}
use Rattle.core_steps.specs.Cores.{CoreValue, Outside, given, IsCore, IsHeld, IsWindow, Commits, Stands as CoreStands}
use Rattle.core_steps.proofs.Laws.{low_is}
use Rattle.unit_logs.specs.Unlogged.{unlogged_of}
use Rattle.unit_logs.proofs.Laws.{changes_follow, changes_may_follow, marked_follows, marked_stays, sends_follow, sends_may_follow}
use Rattle.unit_logs.specs.Commits.{IsCommitted, IsUncommitted, LeavesMade}
use Rattle.samza_model.specs.declared.marks.KeptMark.{KeptMark}
use Rattle.samza_model.specs.Histories.{History, all_of, whole, marked, marked_at, with_mark, ArePrompt}
use Rattle.samza_model.specs.Requests.{IsPrompt}
use Rattle.samza_model.specs.Marks.{AreMarks, IsMark, AreSpelled, SpellsLast, BeginsWith, Files, FromMark, FromBegun, MayBegun, RestoresTo, ImagesStand, last_mark}
use Rattle.unit_steps.specs.Leaving.{HoldAll, HoldOneMore, IsLeft}
use Rattle.unit_steps.specs.Moments.{FromMarks}
use Rattle.unit_steps.specs.Units.{UnitValue, Stands, Marks, Begins, SameGiven}

dropped : {X : Type 0} (xs ys : List X) → drop (length xs) (xs ++ ys) ≡ ys
dropped [] ys = refl
dropped (x ∷ xs) ys = dropped xs ys

-- the events behind the last mark
pub older_marked : (t : History) → older (length (marked t)) (whole t) ≡ marked t
older_marked t =
    let n : length (whole t) - length (marked t) ≡ length t.since = omega (arith, length-append t.since (marked t)) in
    ap (λ k. drop k (whole t)) n ∙ dropped t.since (marked t)

-- all events, as those of a mark that is begun now
pub begun_now : (t : History) → marked_at (length t.since) t ≡ whole t
begun_now t =
    let none : length t.since - length t.since ≡ 0 = omega arith in
    ap (λ k. drop k t.since ++ marked t) none

-- what was given, and what becomes of it in a commit
module _ (k : Given) (t : History) (held : Held) (is : IsHeld k.state (whole t) (length (marked t)) held) where
  -- what an output was sent up to now
  pub all_sent : (j : ℕ) → sent_at (state_after k.state (whole t)).sent j ≡ sent_at (state_after k.state (marked t)).sent j ++ sent_at held.unsent j
  all_sent j = is.sent j ∙ ap (λ (h : List Event). sent_at (state_after k.state h).sent j ++ sent_at held.unsent j) (older_marked t)

  sent_log : (c : Image) (j : ℕ) (had : List Record) → HasLog (c (output_file j)) ((had ++ sent_at (state_after k.state (marked t)).sent j) ++ sent_at held.unsent j) → HasLog (c (output_file j)) (had ++ sent_at (state_after k.state (whole t)).sent j)
  sent_log c j had log =
      subst (λ (l : List Record). HasLog (c (output_file j)) l)
      (append_assoc had (sent_at (state_after k.state (marked t)).sent j) (sent_at held.unsent j) ∙ ap (λ (l : List Record). had ++ l) (sym (all_sent j))) log

  begins : (c : Image) (j : ℕ) (front : List Record) → HasLog (c (output_file j)) front → BeginsWith (c (output_file j)) front
  begins c j front log = record { more = []; has = subst (λ (l : List Record). HasLog (c (output_file j)) l) (sym (append-nil front)) log }

  module _ (marks : List KeptMark) (reads : Image) (files : Files k t marks reads) (mark : Option Checkpoint) (next : ℕ) where
    -- an image with the next checkpoint restores to it with the content of all events
    pub made_restores : (c : Image) (made : Checkpoint) → IsCommitted k.setup reads c mark next (state_of held) (unlogged_of held.stores) made → RestoresTo k t.before c (Some made) (whole t)
    made_restores c made is_made = record {
      restores = subst (λ (cs : List Content). Restores k.setup c (Some made) cs) (sym is.stores) is_made.restores;
      sends = λ j had lt log. begins c j (had ++ sent_at (state_after k.state (whole t)).sent j)
          (sent_log c j had (sends_follow k.setup reads c mark next (state_of held) (unlogged_of held.stores) made is_made j (had ++ sent_at (state_after k.state (marked t)).sent j) lt (files.sends j had lt log)));
    }

    -- one without it restores to the last mark
    pub old_restores : (c : Image) → IsUncommitted k.setup reads c mark (state_after k.state (marked t)).stores (unlogged_of held.stores) held.unsent → RestoresTo k t.before c mark (marked t)
    old_restores c un = record {
      restores = un.restores;
      sends = λ j had lt log.
          let front = had ++ sent_at (state_after k.state (marked t)).sent j in
          elim (sends_may_follow k.setup reads c mark (state_after k.state (marked t)).stores (unlogged_of held.stores) held.unsent un j front lt (files.sends j had lt log)) [
            | inl same ↦ begins c j front same
            | inr more ↦ record { more = sent_at held.unsent j; has = more }
          ];
    }

-- a mark's content stays in a changelog that grows
grown_content : (old new : List ℕ) (count : ℕ) (content : Content) → ((had : List Record) → HasLog old had → (more : List Record) × HasLog new (had ++ more)) → HoldsContent old count content → HoldsContent new count content
grown_content old new count content grows h =
    let more = grows h.changes h.has in
    record {
      changes = h.changes ++ more.0;
      has = more.1;
      enough = omega (arith, h.enough, length-append h.changes more.0);
      content_is = h.content_is ∙ ap foldrec (sym (take_front count h.changes more.0 h.enough));
    }
  where
    take_front : (n : ℕ) (xs ys : List Record) → n ≤ length xs → take n (xs ++ ys) ≡ take n xs
    take_front zero xs ys le = refl
    take_front (suc n) [] ys le = absurd (omega (arith, le))
    take_front (suc n) (x ∷ xs) ys le = ap (λ l. x ∷ l) (take_front n xs ys (omega (arith, le)))

-- what stands in the files behind a commit
pub files_made : (k : Given) (t : History) (held : Held) (marks : List KeptMark) (reads reads' : Image) (mark : Option Checkpoint) (next at : ℕ) (made : Checkpoint)
    → IsHeld k.state (whole t) (length (marked t)) held → Files k t marks reads → IsCommitted k.setup reads reads' mark next (state_of held) (unlogged_of held.stores) made
    → Files k (with_mark t) (record { checkpoint = Some made; at = at } ∷ marks) reads'
files_made k t held marks reads reads' mark next at made is files c = record {
  hold = record {
    log = λ had log.
        let old = files.hold.log had log in
        let new = marked_follows k.setup reads reads' mark next (state_of held) (unlogged_of held.stores) made c (had ++ old.0) old.2 in (
          old.0 ++ new.0 ∷ [],
          record { front = old.0; last = new.0; split = refl; checkpoint = made; is = refl; spells = new.1; others = old.1 },
          subst (λ (l : List Record). HasLog (reads' checkpoint_file) l) (append_assoc had old.0 (new.0 ∷ [])) new.2,
        );
    contents = contents;
  };
  all = λ i records lt log.
      let held_is = c.restores.each_store i lt in
      let counted = c.counts i lt in
      let one : records ≡ joined counted.frames = log_unique (reads' (changelog_file i)) records (joined counted.frames) log (record { frames = counted.frames; has = counted.has; records_are = refl }) in
      let two : held_is.changes ≡ records = log_unique (reads' (changelog_file i)) held_is.changes records held_is.has log in
      let full : length records ≤ count_at (Some made) i = omega (arith, counted.held_is, ap length one) in
      sym (take_whole records (count_at (Some made) i) full)
      ∙ ap (λ (l : List Record). foldrec (take (count_at (Some made) i) l)) (sym two) ∙ sym held_is.content_is ∙ ap (λ (cs : List Content). store_at cs i) (sym is.stores);
  sends = λ j had lt log. sent_log k t held is reads' j had (sends_follow k.setup reads reads' mark next (state_of held) (unlogged_of held.stores) made c j (had ++ sent_at (state_after k.state (marked t)).sent j) lt (files.sends j had lt log));
}
  where
    take_whole : (records : List Record) (n : ℕ) → length records ≤ n → foldrec (take n records) ≡ foldrec records
    take_whole records n le = ap foldrec (take_all n records le)

    contents : (n i : ℕ) (m : KeptMark) → slice_get (record { checkpoint = Some made; at = at } ∷ marks) n ≡ Some m → i < length k.setup.stores
        → HoldsContent (reads' (store_file m.checkpoint i)) (count_at m.checkpoint i) (store_at (state_after k.state (all_of (drop n (t.since ∷ t.parts)))).stores i)
    contents zero i m e lt =
        subst (λ (x : KeptMark). HoldsContent (reads' (changelog_file i)) (count_at x.checkpoint i) (store_at (state_after k.state (whole t)).stores i)) (same_Some (record { checkpoint = Some made; at = at }) m e)
        (subst (λ (cs : List Content). HoldsContent (reads' (changelog_file i)) (count_at (Some made) i) (store_at cs i)) (sym is.stores) (c.restores.each_store i lt))
    contents (suc n) i m e lt = grown_content (reads (changelog_file i)) (reads' (store_file m.checkpoint i)) (count_at m.checkpoint i) (store_at (state_after k.state (all_of (drop n t.parts))).stores i)
        (λ had log. changes_follow k.setup reads reads' mark next (state_of held) (unlogged_of held.stores) made c i had lt log) (files.hold.contents n i m e lt)

-- what stands in them without it
pub held_before : (k : Given) (t : History) (held : Held) (marks : List KeptMark) (reads reads' : Image) (mark : Option Checkpoint) (next : ℕ)
    → IsHeld k.state (whole t) (length (marked t)) held → Files k t marks reads → IsUncommitted k.setup reads reads' mark (state_after k.state (marked t)).stores (unlogged_of held.stores) held.unsent
    → HoldAll k t marks reads'
held_before k t held marks reads reads' mark next is files un = record {
  hold = record {
    log = λ had log.
        let old = files.hold.log had log in
        (old.0, old.1, marked_stays k.setup reads reads' mark (state_after k.state (marked t)).stores (unlogged_of held.stores) held.unsent un (had ++ old.0) old.2);
    contents = λ n i m at lt. grown_content (reads (changelog_file i)) (reads' (store_file m.checkpoint i)) (count_at m.checkpoint i) (store_at (state_after k.state (all_of (drop n t.parts))).stores i)
        (λ had log. changes_may_follow k.setup reads reads' mark (state_after k.state (marked t)).stores (unlogged_of held.stores) held.unsent un i had lt log) (files.hold.contents n i m at lt);
  };
  sends = (old_restores k t held is marks reads files mark next reads' un).sends;
}

-- and with it, of a commit that wasn't finished
pub held_behind : (k : Given) (t : History) (held : Held) (marks : List KeptMark) (reads reads' : Image) (mark : Option Checkpoint) (next : ℕ) (made : Checkpoint)
    → IsHeld k.state (whole t) (length (marked t)) held → Files k t marks reads → IsCommitted k.setup reads reads' mark next (state_of held) (unlogged_of held.stores) made
    → IsMark k (whole t) (last_mark marks) (Some made) → HoldOneMore k t marks (length t.since) reads'
held_behind k t held marks reads reads' mark next made is files c is_mark =
    let m : KeptMark = record { checkpoint = Some made; at = 0 } in
    let none : 0 ≡ length t.since - length t.since = omega arith in
    let now : t.since ≡ older (length t.since) t.since = ap (λ n. drop n t.since) none in
    record {
      mark = m;
      is_mark = subst (λ (h : List Event). IsMark k h (last_mark marks) (Some made)) (sym (begun_now t)) is_mark;
      hold = subst (λ (l : List Event). HoldAll k (record { before = t.before; since = []; parts = l ∷ t.parts }) (m ∷ marks) reads') now (record {
        hold = (files_made k t held marks reads reads' mark next 0 made is files c).hold;
        sends = (made_restores k t held is marks reads files mark next reads' made c).sends;
      });
    }

last_is : (marks : List KeptMark) (m : KeptMark) → slice_get marks 0 ≡ Some m → last_mark marks ≡ m.checkpoint
last_is [] m e = absurd (none e)
  where
    none : None ≡ Some m → ⊥
    none q = search rules
last_is (n ∷ ms) m e = ap (λ (x : KeptMark). x.checkpoint) (same_Some n m e)

-- the images over a commit
module _ {D : Type 0} (number : D → ℕ) (images : D → Image → Type 0) (since : D → ℕ → Image → Type 0) (old new : D)
    (k : Given) (t : History) (held : Held) (is : IsHeld k.state (whole t) (length (marked t)) held) (marks : List KeptMark) (reads : Image) (files : Files k t marks reads)
    (here : images old reads) (before : ImagesStand number images since old k t marks None) (next : ℕ) (made : Checkpoint) (one : length k.starts ≡ 1) (at_low : low k.setup (start_at k 0) (whole t) 0 ≡ next) where
  -- what a read gives restores to the last mark
  pub last_from : (m : KeptMark) × (slice_get marks 0 ≡ Some m) × RestoresTo k t.before reads m.checkpoint (marked t)
  last_from = elim (before.here reads here) [
    | inl from ↦
        let zero_is : from.place ≡ 0 = omega (arith, from.newer) in
        (from.mark, subst (λ n. slice_get marks n ≡ Some from.mark) zero_is from.is, subst (λ n. RestoresTo k t.before reads from.mark.checkpoint (all_of (drop n t.parts))) zero_is from.to)
    | inr none ↦ absurd none
  ]

  pub restored : Restores k.setup reads (last_mark marks) (state_after k.state (marked t)).stores
  restored =
      let l = last_from in
      subst (λ (m : Option Checkpoint). Restores k.setup reads m (state_after k.state (marked t)).stores) (sym (last_is marks l.0 l.1)) l.2.restores

  abbrev Leaves : Image → Image → Type 0
  Leaves a c = LeavesMade k.setup reads a c (last_mark marks) (state_after k.state (marked t)).stores next (state_of held) (unlogged_of held.stores) made

  uncommitted : (n : ℕ) (c : Image) → IsUncommitted k.setup reads c (last_mark marks) (state_after k.state (marked t)).stores (unlogged_of held.stores) held.unsent → FromMark k t marks n c
  uncommitted n c un =
      let l = last_from in
      record {
        place = 0;
        mark = l.0;
        newer = omega arith;
        is = l.1;
        to = subst (λ (m : Option Checkpoint). RestoresTo k t.before c m (marked t)) (last_is marks l.0 l.1) (old_restores k t held is marks reads files (last_mark marks) next c un);
      }

  nexts : next_at (Some made) 0 ≡ Some next → (p : ℕ) → p < length k.starts → next_at (Some made) p ≡ Some (low k.setup (start_at k p) (whole t) p)
  nexts next_is p lt =
      let zero_is : p ≡ 0 = omega (arith, lt, one) in
      subst (λ q. next_at (Some made) q ≡ Some (low k.setup (start_at k q) (whole t) q)) (sym zero_is) (next_is ∙ ap Some (sym at_low))

  begun_at : (c : Image) → IsCommitted k.setup reads c (last_mark marks) next (state_of held) (unlogged_of held.stores) made → FromBegun k t marks (length t.since) c
  begun_at c is_made = record {
    made = made;
    id = is_made.id_is;
    next = λ p lt. subst (λ (h : List Event). next_at (Some made) p ≡ Some (low k.setup (start_at k p) h p)) (sym (begun_now t)) (nexts is_made.next_is p lt);
    to = subst (λ (h : List Event). RestoresTo k t.before c (Some made) h) (sym (begun_now t)) (made_restores k t held is marks reads files (last_mark marks) next c made is_made);
  }

  wider : (n : ℕ) (c : Image) → FromMark k t marks 0 c → FromMark k t marks n c
  wider n c f = record { place = f.place; mark = f.mark; newer = omega (arith, f.newer); is = f.is; to = f.to }

  -- a commit that was begun and not finished
  pub images_begun : ((c : Image) → images new c → since new (number old) c) → LeavesOnly number images since old new Leaves → ImagesStand number images since new k t marks (Some (length t.since))
  images_begun counts run = record {
    each = λ n m at.
        let was = before.each n m at in
        let on : number old ≤ number new = run.later in (
          omega (arith, was.0, on),
          λ c left. elim (run.before m.at c was.0 left) [
            | inl past ↦ elim (was.1 c past) [ inl from ↦ inl from | inr none ↦ absurd none ]
            | inr p ↦ elim p.2.1 [ inl un ↦ inl (uncommitted n c un) | inr is_made ↦ inr (begun_at c is_made) ]
          ],
        );
    here = λ c now. elim (run.each c (counts c now)).2.1 [ inl un ↦ inl (uncommitted 0 c un) | inr is_made ↦ inr (begun_at c is_made) ];
  }

  module _ (from : D) (counted : (n : ℕ) (c : Image) → n ≤ number old → images old c → since old n c) (so_far : LeavesOnly number images since from old (FromMarks k t marks None)) where
    pub moments_begun : LeavesOnly number images since old new Leaves → LeavesOnly number images since from new (FromMarks k t marks (Some (length t.since)))
    moments_begun run =
        followed number images since from old new (FromMarks k t marks None) Leaves (FromMarks k t marks (Some (length t.since))) counted so_far run
        (λ a b c p q. record {
          from = elim q.1 [ inl un ↦ inl (uncommitted (length t.parts) c un) | inr is_made ↦ inr (begun_at c is_made) ];
          others = λ f other. q.0 f other ∙ p.others f other;
        })
        (λ a b p. record { from = elim p.from [ inl from ↦ inl from | inr none ↦ absurd none ]; others = p.others })

  -- what it leaves in the files
  pub left_begun : ((c : Image) → images new c → since new (number old) c) → LeavesOnly number images since old new Leaves → IsMark k (whole t) (last_mark marks) (Some made)
      → (c : Image) → images new c → IsLeft k t marks (length t.since) c
  left_begun counts run is_mark c now = elim (run.each c (counts c now)).2.1 [
    | inl un ↦ inl (held_before k t held marks reads c (last_mark marks) next is files un)
    | inr is_made ↦ inr (held_behind k t held marks reads c (last_mark marks) next made is files is_made is_mark)
  ]

  abbrev Made : KeptMark
  Made = record { checkpoint = Some made; at = number new }

  shifted : (n : ℕ) (c : Image) → FromMark k t marks n c → FromMark k (with_mark t) (Made ∷ marks) (suc n) c
  shifted n c f = record { place = suc f.place; mark = f.mark; newer = omega (arith, f.newer); is = f.is; to = f.to }

  newest : (n : ℕ) (c : Image) → IsCommitted k.setup reads c (last_mark marks) next (state_of held) (unlogged_of held.stores) made → FromMark k (with_mark t) (Made ∷ marks) n c
  newest n c is_made = record { place = 0; mark = Made; newer = omega arith; is = refl; to = made_restores k t held is marks reads files (last_mark marks) next c made is_made }

  pub moments_made : (from : D) → ((n : ℕ) (c : Image) → n ≤ number old → images old c → since old n c) → LeavesOnly number images since from old (FromMarks k t marks None)
      → LeavesOnly number images since old new Leaves → LeavesOnly number images since from new (FromMarks k (with_mark t) (Made ∷ marks) None)
  moments_made from counted so_far run =
      followed number images since from old new (FromMarks k t marks None) Leaves (FromMarks k (with_mark t) (Made ∷ marks) None) counted so_far run
      (λ a b c p q. record {
        from = elim q.1 [
          | inl un ↦ inl (shifted (length t.parts) c (uncommitted (length t.parts) c un))
          | inr is_made ↦ inl (newest (suc (length t.parts)) c is_made)
        ];
        others = λ f other. q.0 f other ∙ p.others f other;
      })
      (λ a b p. record { from = elim p.from [ inl from ↦ inl (shifted (length t.parts) b from) | inr none ↦ absurd none ]; others = p.others })

  -- a commit that was made
  pub images_made : ((c : Image) → since new (number new) c → images new c) → LeavesOnly number images since old new Leaves
      → ((c : Image) → images new c → IsCommitted k.setup reads c (last_mark marks) next (state_of held) (unlogged_of held.stores) made) → ImagesStand number images since new k (with_mark t) (Made ∷ marks) None
  images_made only run done = record {
    each = each_of only run done;
    here = λ c now. inl (newest 0 c (done c now));
  }
    where
      each_of : ((c : Image) → since new (number new) c → images new c) → LeavesOnly number images since old new Leaves
          → ((c : Image) → images new c → IsCommitted k.setup reads c (last_mark marks) next (state_of held) (unlogged_of held.stores) made)
          → (n : ℕ) (m : KeptMark) → slice_get (Made ∷ marks) n ≡ Some m → (m.at ≤ number new) × ((c : Image) → since new m.at c → FromMark k (with_mark t) (Made ∷ marks) n c ⊎ MayBegun k (with_mark t) (Made ∷ marks) None c)
      each_of only run done zero m at =
          subst (λ (x : KeptMark). (x.at ≤ number new) × ((c : Image) → since new x.at c → FromMark k (with_mark t) (Made ∷ marks) 0 c ⊎ ⊥)) (same_Some Made m at)
          (omega arith, λ c left. inl (newest 0 c (done c (only c left))))
      each_of only run done (suc n) m at =
          let was = before.each n m at in
          let on : number old ≤ number new = run.later in (
            omega (arith, was.0, on),
            λ c left. elim (run.before m.at c was.0 left) [
              | inl past ↦ elim (was.1 c past) [ inl from ↦ inl (shifted n c from) | inr none ↦ absurd none ]
              | inr p ↦ elim p.2.1 [ inl un ↦ inl (shifted n c (uncommitted n c un)) | inr is_made ↦ inl (newest (suc n) c is_made) ]
            ],
          )
