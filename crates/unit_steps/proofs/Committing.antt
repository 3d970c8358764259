-- A commit of a unit, from what its logs' writing leaves.
use Rattle.std.proofs.Common.{ℕ, ◌≡◌, ◌≤◌, ◌<◌, ◌+◌, ◌-◌, ◌⊎◌, inl, inr, zero, suc, List, [], ◌∷◌, ◌++◌, length, drop, get_or, Option, Some, None, Bool, true, false, refl, sym, ◌∙◌, ap, subst, arith, slice_get}
use Rattle.std.proofs.lemmas.List.{take_all}
use Rattle.samza_model.specs.declared.messages.Record.{Record}
use Rattle.samza_model.specs.declared.checkpoints.Checkpoint.{Checkpoint}
use Rattle.samza_model.specs.declared.setups.Setup.{Setup}
use Rattle.samza_model.specs.Content.{Content, foldrec, store_at}
use Rattle.samza_model.specs.Files.{Image, changelog_file}
use Rattle.samza_model.specs.Logs.{HasLog, joined}
use Rattle.samza_model.specs.Meaning.{Meaning}
use Rattle.samza_model.specs.Restored.{IsNamed, Restores, id_of, next_at, count_at}
use Rattle.disk_model.specs.Images.{LeavesOnly}
use Rattle.topic_log.specs.declared.logs.Log.{Log}
use Rattle.kv_store.specs.Tracked.{AgreesOnClean}
use Rattle.samza_model.specs.declared.events.Event.{Event}
use Rattle.samza_model.specs.Events.{low, flights, first_failure, window_open, state_after, is_covered, deliveries_of}
use Rattle.samza_model.specs.Lawful.{Given, start_at}
use Rattle.core_steps.specs.Held.{Held, state_of, tracked_at}
use Rattle.core_steps.specs.Lanes.{lane_at}
use Rattle.core_steps.specs.Cores.{CoreValue, Outside, given, IsCore, IsHeld, IsWindow, Commits, Stands as CoreStands}
use Rattle.core_steps.proofs.Laws.{low_is}
use Rattle.unit_logs.specs.declared.writing.Logs.{Logs}
use Rattle.unit_logs.specs.Unlogged.{unlogged_of}
use Rattle.unit_logs.specs.Commits.{IsCommitted, LeavesMade}
use Rattle.unit_logs.specs.Standing.{OnDisk}
use Rattle.unit_logs.proofs.Laws.{open_has}
use Rattle.samza_model.specs.declared.marks.KeptMark.{KeptMark}
use Rattle.samza_model.specs.Histories.{History, all_of, whole, marked, with_mark, ArePrompt}
use Rattle.samza_model.specs.Requests.{IsPrompt}
use Rattle.samza_model.specs.Marks.{AreMarks, IsMark, Files, ImagesStand, last_mark}
use Rattle.unit_steps.specs.Growing.{GrownBy, HaveGrown}
use Rattle.unit_steps.specs.Leaving.{IsLeft}
use Rattle.unit_steps.specs.Moments.{FromMarks}
use Rattle.unit_steps.specs.Units.{UnitValue, Stands, Marks, Begins, SameGiven, OpenOnDisk}
use Rattle.unit_steps.proofs.Leaving.{left_is}
use Rattle.unit_steps.proofs.Marking.{files_made, images_made, images_begun, left_begun, moments_begun, moments_made, older_marked, restored}

-- the unit behind a commit
abbrev pub with_commit : {P D S : Type 0} → UnitValue P D S → D → CoreValue → KeptMark → UnitValue P D S
with_commit u disk core m = record { job = u.job; shelf = u.shelf; messages = u.messages; core = core; disk = disk; marks = m ∷ u.marks; begun = None; broken = false }

-- the unit behind one that wasn't finished
abbrev pub with_begun : {P D S : Type 0} → UnitValue P D S → D → ℕ → UnitValue P D S
with_begun u disk b = record { job = u.job; shelf = u.shelf; messages = u.messages; core = u.core; disk = disk; marks = u.marks; begun = Some b; broken = true }

-- a core that may commit: nothing in flight unless async commit is on, nothing failed, no window open
pub record AtRest (u : CoreValue) : Type 0 where
  pub idle : u.setup.async_commit ≡ false → u.callbacks.flights ≡ []
  pub sound : u.failed ≡ None
  pub closed : u.window ≡ None

module _ (o : Outside) (u : CoreValue) (h : List Event) (a : ℕ) (s : CoreStands o u h a) (one : length u.starts ≡ 1) where
  -- the first input's low
  pub low_here : low u.setup (start_at (given o u) 0) h 0 ≡ (lane_at u.lanes 0).low
  low_here = low_is (λ x. is_covered u.setup 0 x h) (start_at (given o u) 0) (deliveries_of 0 h) (lane_at u.lanes 0) (s.lanes 0 (omega (arith, one)))

  pub is_mark : (before : Option Checkpoint) (made : Checkpoint) → AtRest u → IsNamed u.setup made → made.id ≡ id_of before + 1 → next_at (Some made) 0 ≡ Some (lane_at u.lanes 0).low
      → IsMark (given o u) h before (Some made)
  is_mark before made rest named id next = record {
    checkpoint = made;
    is = refl;
    named = named;
    id = id;
    next = λ p lt.
        let zero_is : p ≡ 0 = omega (arith, lt, one) in
        subst (λ q. next_at (Some made) q ≡ Some (low u.setup (start_at (given o u) q) h q)) (sym zero_is) (next ∙ ap Some (sym low_here));
    sound = sym s.failed ∙ rest.sound;
    closed = (subst (IsWindow h) rest.closed s.window).0;
    idle = λ sync. sym s.flies ∙ rest.idle sync;
  }

module _ {P D S : Type 0} (meaning : P → Meaning) (tells : Type 0) (reads : D → Image) (number : D → ℕ) (images : D → Image → Type 0) (since : D → ℕ → Image → Type 0)
    (old : UnitValue P D S) (disk : D) (made : Checkpoint) (one : length old.core.starts ≡ 1) (sound : old.broken ≡ false)
    (here : tells → images old.disk (reads old.disk))
    (run : tells → (contents : List Content) → Restores old.core.setup (reads old.disk) (last_mark old.marks) contents
    → LeavesOnly number images since old.disk disk (λ a c. LeavesMade old.core.setup (reads old.disk) a c (last_mark old.marks) contents (lane_at old.core.lanes 0).low (state_of old.core.held) (unlogged_of old.core.held.stores) made)) where
  module _ (o : Outside) (t : History) (s : Stands meaning tells reads number images since o old t) where
    crash_none : tells → ImagesStand number images since old.disk (given o old.core) t old.marks None
    crash_none told = subst (λ (b : Option ℕ). ImagesStand number images since old.disk (given o old.core) t old.marks b) (s.sound sound) (s.crash told)

    leaves : (told : tells) → LeavesOnly number images since old.disk disk (λ a c. LeavesMade old.core.setup (reads old.disk) a c (last_mark old.marks) (state_after o.state (marked t)).stores (lane_at old.core.lanes 0).low (state_of old.core.held) (unlogged_of old.core.held.stores) made)
    leaves told = run told (state_after o.state (marked t)).stores
        (restored number images since old.disk disk (given o old.core) t old.core.held s.core.held old.marks (reads old.disk) (s.files sound told) (here told) (crash_none told) (lane_at old.core.lanes 0).low made one (low_here o old.core (whole t) (length (marked t)) s.core one))

    pub begins_stand : (tells → (c : Image) → images disk c → since disk (number old.disk) c) → (tells → images disk (reads disk)) → AtRest old.core → IsNamed old.core.setup made
        → made.id ≡ id_of (last_mark old.marks) + 1 → next_at (Some made) 0 ≡ Some (lane_at old.core.lanes 0).low
        → Stands meaning tells reads number images since o (with_begun old disk (length old.core.since)) t
    begins_stand counts now rest named id next = record {
      job = s.job;
      parts = s.parts;
      opened = s.opened;
      core = s.core;
      journal = s.journal;
      marks = s.marks;
      files = λ b. absurd (broken_now b);
      grown = λ b. absurd (broken_now b);
      crash = λ told. subst (λ (n : ℕ). ImagesStand number images since disk (given o old.core) t old.marks (Some n)) (ap length (sym s.journal))
          (images_begun number images since old.disk disk (given o old.core) t old.core.held s.core.held old.marks (reads old.disk) (s.files sound told) (here told) (crash_none told) (lane_at old.core.lanes 0).low made one (low_here o old.core (whole t) (length (marked t)) s.core one)
          (counts told) (leaves told));
      begun = omega (arith, ap length s.journal);
      sound = λ b. absurd (broken_now b);
      left = λ told. subst (λ (n : ℕ). IsLeft (given o old.core) t old.marks n (reads disk)) (ap length (sym s.journal))
          (left_begun number images since old.disk disk (given o old.core) t old.core.held s.core.held old.marks (reads old.disk) (s.files sound told) (here told) (crash_none told) (lane_at old.core.lanes 0).low made one (low_here o old.core (whole t) (length (marked t)) s.core one)
          (counts told) (leaves told) (is_mark o old.core (whole t) (length (marked t)) s.core one (last_mark old.marks) made rest named id next) (reads disk) (now told));
      prompt = s.prompt;
    }
      where
        broken_now : true ≡ false → ⊥
        broken_now e = cc

    module _ (told : tells) (counted : (n : ℕ) (c : Image) → n ≤ number old.disk → images old.disk c → since old.disk n c) (from : D)
        (so_far : LeavesOnly number images since from old.disk (FromMarks (given o old.core) t old.marks old.begun)) where
      none_begun : LeavesOnly number images since from old.disk (FromMarks (given o old.core) t old.marks None)
      none_begun = subst (λ (b : Option ℕ). LeavesOnly number images since from old.disk (FromMarks (given o old.core) t old.marks b)) (s.sound sound) so_far

      pub begins_moments : LeavesOnly number images since from disk (FromMarks (given o old.core) t old.marks (Some (length old.core.since)))
      begins_moments =
          subst (λ (n : ℕ). LeavesOnly number images since from disk (FromMarks (given o old.core) t old.marks (Some n))) (ap length (sym s.journal))
          (moments_begun number images since old.disk disk (given o old.core) t old.core.held s.core.held old.marks (reads old.disk) (s.files sound told) (here told) (crash_none told) (lane_at old.core.lanes 0).low made one (low_here o old.core (whole t) (length (marked t)) s.core one)
          from counted none_begun (leaves told))

      pub marks_moments : (core : CoreValue) → Commits old.core core
          → LeavesOnly number images since from disk (FromMarks (given o core) (with_mark t) (record { checkpoint = Some made; at = number disk } ∷ old.marks) None)
      marks_moments core commits =
          subst (λ (k : Given). LeavesOnly number images since from disk (FromMarks k (with_mark t) (record { checkpoint = Some made; at = number disk } ∷ old.marks) None)) (sym (commits.same o))
          (moments_made number images since old.disk disk (given o old.core) t old.core.held s.core.held old.marks (reads old.disk) (s.files sound told) (here told) (crash_none told) (lane_at old.core.lanes 0).low made one (low_here o old.core (whole t) (length (marked t)) s.core one)
          from counted none_begun (leaves told))

    -- the files grew by the commit
    grows : (c : Image) → length old.core.held.stores ≡ length old.core.setup.stores → IsCommitted old.core.setup (reads old.disk) c (last_mark old.marks) (lane_at old.core.lanes 0).low (state_of old.core.held) (unlogged_of old.core.held.stores) made
        → GrownBy (given o old.core) t.since (all_of t.parts) (last_mark old.marks) made (reads old.disk) c
    grows c as_many done = record {
      state = state_of old.core.held;
      unlogged = unlogged_of old.core.held.stores;
      left = left_is (given o old.core) t old.core.held s.core.held as_many;
      committed = subst (λ (n : ℕ). IsCommitted old.core.setup (reads old.disk) c (last_mark old.marks) n (state_of old.core.held) (unlogged_of old.core.held.stores) made) (sym (low_here o old.core (whole t) (length (marked t)) s.core one)) done;
    }

    pub marks_stand : (core : CoreValue) → length old.core.held.stores ≡ length old.core.setup.stores → Commits old.core core → AtRest old.core → IsNamed old.core.setup made → made.id ≡ id_of (last_mark old.marks) + 1 → next_at (Some made) 0 ≡ Some (lane_at old.core.lanes 0).low
        → (tells → (c : Image) → since disk (number disk) c → images disk c)
        → (tells → images disk (reads disk))
        → (tells → (c : Image) → images disk c → IsCommitted old.core.setup (reads old.disk) c (last_mark old.marks) (lane_at old.core.lanes 0).low (state_of old.core.held) (unlogged_of old.core.held.stores) made)
        → Stands meaning tells reads number images since o (with_commit old disk core (record { checkpoint = Some made; at = number disk })) (with_mark t)
    marks_stand core as_many commits rest named id next only now done =
        let m : KeptMark = record { checkpoint = Some made; at = number disk } in
        let same = commits.same o in
        record {
          job = s.job;
          parts = s.parts;
          opened = λ told x at. subst (λ (k : Given). Restores k.setup t.before x.checkpoint o.state.stores) (sym same) (s.opened told x at);
          core = commits.history o (whole t) (length (marked t)) s.core;
          journal = commits.journal;
          marks = subst (λ (k : Given). AreMarks k (t.since ∷ t.parts) (m ∷ old.marks)) (sym same)
              (is_mark o old.core (whole t) (length (marked t)) s.core one (last_mark old.marks) made rest named id next, s.marks);
          files = λ _ told. subst (λ (k : Given). Files k (with_mark t) (m ∷ old.marks) (reads disk)) (sym same)
              (files_made (given o old.core) t old.core.held old.marks (reads old.disk) (reads disk) (last_mark old.marks) (lane_at old.core.lanes 0).low (number disk) made s.core.held (s.files sound told) (done told (reads disk) (now told)));
          grown = λ _ told. subst (λ (k : Given). HaveGrown k t.before (t.since ∷ t.parts) (m ∷ old.marks) (reads disk)) (sym same)
              (made, refl, reads old.disk, s.grown sound told, grows (reads disk) as_many (done told (reads disk) (now told)));
          crash = λ told. subst (λ (k : Given). ImagesStand number images since disk k (with_mark t) (m ∷ old.marks) None) (sym same)
              (images_made number images since old.disk disk (given o old.core) t old.core.held s.core.held old.marks (reads old.disk) (s.files sound told) (here told) (crash_none told) (lane_at old.core.lanes 0).low made one (low_here o old.core (whole t) (length (marked t)) s.core one)
              (only told) (leaves told) (done told));
          begun = tt;
          sound = λ _. refl;
          left = tt;
          prompt = λ sync.
              let p = s.prompt (ap (λ (k : Given). k.setup.async_commit) (sym same) ∙ sync) in
              (tt, p);
        }

-- what stands on the disk, with what is held
pub on_disk : {P D S : Type 0} (meaning : P → Meaning) (tells : Type 0) (reads : D → Image) (number : D → ℕ) (images : D → Image → Type 0) (since : D → ℕ → Image → Type 0) (u : UnitValue P D S) (logs : Logs)
    → IsCore u.core → OpenOnDisk (reads u.disk) (images u.disk) u.core.setup logs (last_mark u.marks) → (o : Outside) (t : History) → Stands meaning tells reads number images since o u t → u.broken ≡ false → tells
    → OnDisk (reads u.disk) (images u.disk) u.core.setup logs (last_mark u.marks) u.core.held
on_disk meaning tells reads number images since u logs core opened o t s sound told = record {
  marks = opened.marks;
  stores = λ i d lt.
      let at = opened.stores i d lt in
      let log = get_or logs.changelogs.items i d in
      let all : foldrec (joined at.frames) ≡ store_at (state_after o.state (marked t)).stores i = (s.files sound told).all i (joined at.frames) lt (open_has (reads u.disk) (images u.disk) (changelog_file i) log at.frames at.is_open) in
      record {
        frames = at.frames;
        is_open = at.is_open;
        enough = at.enough;
        agrees = subst (λ (c : Content). AgreesOnClean (tracked_at u.core.held.stores i) c)
            (ap (λ (h : List Event). store_at (state_after o.state h).stores i) (older_marked t) ∙ sym all)
            (s.core.held.clean i (subst (λ n. i < n) (sym core.sized.stores) lt));
      };
  outputs = opened.outputs;
}
