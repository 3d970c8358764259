-- What a crash at a moment of a commit leaves, restored.
use Rattle.std.proofs.Common.{ℕ, ◌≡◌, ◌<◌, ◌≤◌, ◌+◌, ◌⊎◌, inl, inr, List, [], ◌∷◌, ◌++◌, length, get_or, take, Option, Some, refl, sym, ◌∙◌, ap, subst, arith, length-append}
use Rattle.std.proofs.lemmas.Bool.{cases_lt}
use Rattle.std.proofs.lemmas.List.{length-map, length_push, take_all, take-append-le, get_or_default}
use Rattle.samza_model.specs.declared.messages.Record.{Record}
use Rattle.samza_model.specs.declared.checkpoints.Checkpoint.{Checkpoint}
use Rattle.samza_model.specs.declared.setups.Setup.{Setup}
use Rattle.samza_model.specs.Checkpoint.{Spells}
use Rattle.samza_model.specs.Content.{Content, State, foldrec, nothing_stored, sent_at}
use Rattle.samza_model.specs.Files.{Image, checkpoint_file, changelog_file, output_file}
use Rattle.samza_model.specs.Limits.{frame_batch}
use Rattle.samza_model.specs.Logs.{joined, HasFrames}
use Rattle.samza_model.specs.Restored.{HasMark, EndsWith, IsNamed, HoldsContent, Restores, id_of, count_at, next_at}
use Rattle.kv_store.specs.Tracked.{Tracked}
use Rattle.kv_store.proofs.Laws.{replayed-append}
use Rattle.log_frame.specs.Cuts.{IsCut}
use Rattle.log_frame.specs.Frame.{IsFrame, AreFrames}
use Rattle.topic_log.specs.declared.logs.Log.{Log}
use Rattle.topic_log.proofs.Laws.{joined-append, frames_unique, log_unique}
use Rattle.unit_logs.specs.declared.writing.Logs.{Logs}
use Rattle.core_plans.specs.declared.planning.Frames.{Frames}
use Rattle.core_steps.specs.Held.{IsSized, Held, tracked_at, state_of}
use Rattle.unit_logs.specs.Unlogged.{unlogged_of, unlogged_at}
use Rattle.unit_logs.specs.Crashes.{TaskFrames, PlanRecords, StandWith, IsPlanOf, HasPart, HasAll, WriteLeaves}
use Rattle.unit_logs.specs.Planned.{PlansCommit}
use Rattle.core_plans.specs.Plans.{batch_at}
use Rattle.restore_trim.specs.Standing.{IsOpenAt}
use Rattle.unit_logs.specs.Standing.{OnDisk}
use Rattle.unit_logs.specs.Commits.{IsFollowed, IsCommitted, IsUncommitted, LeavesMade, CommitLeaves}
use Rattle.unit_logs.specs.Written.{AreWritten}
use Rattle.restore_trim.proofs.Shared.{open_has as open_frames, log_of, has_frames}
use Rattle.unit_logs.proofs.Committed.{id_was}
use Rattle.core_steps.proofs.Laws.{content_at}
use Rattle.unit_logs.proofs.Holding.{counts_behind, unlogged_is}

pick : {X : Type 0} (P : ℕ → X → Type 0) (d : X) (i n : ℕ) → (i < n → (x : X) × P i x) → (i < n) ⊎ (n ≤ i) → X
pick P d i n h (inl lt) = (h lt).0
pick P d i n h (inr ge) = d

picked : {X : Type 0} (P : ℕ → X → Type 0) (d : X) (i n : ℕ) (h : i < n → (x : X) × P i x) → i < n → (v : (i < n) ⊎ (n ≤ i)) → P i (pick P d i n h v)
unfolding pick
picked P d i n h lt (inl lt') = (h lt').1
picked P d i n h lt (inr ge) = absurd (omega arith)

-- what there is for each number below n there is as a function
chosen : {X : Type 0} (P : ℕ → X → Type 0) (d : X) (n : ℕ) → ((i : ℕ) → i < n → (x : X) × P i x) → (f : ℕ → X) × ((i : ℕ) → i < n → P i (f i))
chosen P d n h = ((λ i. pick P d i n (h i) (cases_lt i n)), (λ i lt. picked P d i n (h i) lt (cases_lt i n)))

-- a changelog that may be longer makes the same content at the same count
holds_still : (old new : List ℕ) (count : ℕ) (content : Content) (had more : List (List Record)) → HasFrames old had → HoldsContent old count content
    → HasFrames new had ⊎ HasFrames new (had ++ more) → HoldsContent new count content
holds_still old new count content had more was ho has =
    let same : ho.changes ≡ joined had = log_unique old ho.changes (joined had) ho.has (log_of old had was) in
    elim has [
      | inl now ↦ record { changes = ho.changes; has = record { frames = had; has = now; records_are = same }; enough = ho.enough; content_is = ho.content_is }
      | inr now ↦
          let both : joined (had ++ more) ≡ ho.changes ++ joined more = joined-append had more ∙ ap (λ (l : List Record). l ++ joined more) (sym same) in
          record {
            changes = joined (had ++ more);
            has = log_of new (had ++ more) now;
            enough = omega (arith, ho.enough, ap length both, length-append ho.changes (joined more));
            content_is = ho.content_is ∙ ap foldrec (sym (ap (λ (l : List Record). take count l) both ∙ take-append-le count ho.changes (joined more) ho.enough));
          }
    ]

-- each image has the frames that the file of a log that is open had
stays_as : (reads : Image) (images : Image → Type 0) (file : ℕ) (log : Log) (own frames : List (List Record)) → IsOpenAt reads images file log own → HasFrames (reads file) frames
    → (c : Image) → images c → HasFrames (c file) frames
stays_as reads images file log own frames o had c now =
    subst (λ (fs : List (List Record)). HasFrames (c file) fs) (frames_unique (reads file) own frames (open_frames reads images file log own o) had) (has_frames reads images file log own o c now)

-- before anything is written each image has the checkpoint
pub unwritten_restores : (s : Setup) (reads : Image) (images : Image → Type 0) (logs : Logs) (mark : Option Checkpoint) (h : Held) → OnDisk reads images s logs mark h → length logs.outputs.items ≡ length s.outputs
    → (contents : List Content) → Restores s reads mark contents → (c : Image) → images c → IsUncommitted s reads c mark contents (unlogged_of h.stores) h.unsent
unwritten_restores s reads images logs mark h on outputs_are contents old c now = record {
  restores = record {
    marked = record { frames = on.marks.frames; has = has_frames reads images checkpoint_file logs.marks on.marks.frames on.marks.is_open c now; mark_is = on.marks.mark_is };
    as_many = old.as_many;
    each_store = λ i lt.
        let o = on.stores i logs.marks lt in
        let log = get_or logs.changelogs.items i logs.marks in
        holds_still (reads (changelog_file i)) (c (changelog_file i)) (count_at mark i) (get_or contents i nothing_stored) o.frames []
        (open_frames reads images (changelog_file i) log o.frames o.is_open) (old.each_store i lt) (inl (has_frames reads images (changelog_file i) log o.frames o.is_open c now));
    each_output = λ j lt.
        let o = on.outputs j logs.marks (subst (λ n. j < n) (sym outputs_are) lt) in
        (joined o.0, log_of (c (output_file j)) o.0 (has_frames reads images (output_file j) (get_or logs.outputs.items j logs.marks) o.0 o.1 c now));
  };
  marked = λ frames had. stays_as reads images checkpoint_file logs.marks on.marks.frames frames on.marks.is_open had c now;
  changes = λ i lt frames had.
      let o = on.stores i logs.marks lt in
      inl (stays_as reads images (changelog_file i) (get_or logs.changelogs.items i logs.marks) o.frames frames o.is_open had c now);
  sends = λ j lt frames had.
      let o = on.outputs j logs.marks (subst (λ n. j < n) (sym outputs_are) lt) in
      inl (stays_as reads images (output_file j) (get_or logs.outputs.items j logs.marks) o.0 frames o.1 had c now);
}

-- a crash that leaves the checkpoint before or this one leaves that or some
pub leaves_some : (s : Setup) (before old new : Image) (mark : Option Checkpoint) (contents : List Content) (next : ℕ) (state : State) (unlogged : List (List Record)) (made : Checkpoint)
    → LeavesMade s before old new mark contents next state unlogged made → CommitLeaves s before old new mark contents next state unlogged
leaves_some s before old new mark contents next state unlogged made left = (left.0, elim left.1 [ inl kept ↦ inl kept | inr is ↦ inr (made, is) ])

module _ (s : Setup) (reads : Image) (images : Image → Type 0) (logs : Logs) (plan : Frames) (mark : Option Checkpoint) (next : ℕ) (made : Checkpoint) (h : Held) where
  -- a changelog's frames and those of the plan make the store's content, and the next checkpoint counts all of them
  pub record StoreGrows (i : ℕ) (had more : List (List Record)) : Type 0 where
    pub is_open : (d : Log) → IsOpenAt reads images (changelog_file i) (get_or logs.changelogs.items i d) had
    pub are : AreFrames (get_or plan.stores i []) more
    pub count_is : count_at (Some made) i ≡ length (joined (had ++ more))
    pub content_is : foldrec (joined (had ++ more)) ≡ (tracked_at h.stores i).content
    pub cut : IsCut (batch_at s.stores i) (unlogged_at (unlogged_of h.stores) i) more

  -- an output's frames, and those of the plan, which are what was sent
  pub record OutputGrows (j : ℕ) (had more : List (List Record)) : Type 0 where
    pub is_open : (d : Log) → IsOpenAt reads images (output_file j) (get_or logs.outputs.items j d) had
    pub are : AreFrames (get_or plan.outputs j []) more
    pub cut : IsCut frame_batch (sent_at h.unsent j) more

  -- the frames that the logs have, and the records that the plan adds
  pub record TaskGrows (had : TaskFrames) (more : PlanRecords) : Type 0 where
    pub mark_open : IsOpenAt reads images checkpoint_file logs.marks had.marks
    pub mark_is : HasMark s had.marks mark
    pub mark_frame : IsFrame plan.checkpoint (more.mark ∷ [])
    pub mark_spells : Spells made more.mark
    pub made_is : EndsWith (had.marks ++ (more.mark ∷ []) ∷ []) made
    pub id_is : made.id ≡ id_of mark + 1
    pub stores : (i : ℕ) → i < length s.stores → StoreGrows i (had.changelogs i) (more.changes i)
    pub outputs : (j : ℕ) → j < length s.outputs → OutputGrows j (had.outputs j) (more.sends j)

  module _ (on : OnDisk reads images s logs mark h)
      (plans : PlansCommit s logs h next plan made)
      (changelogs_are : length logs.changelogs.items ≡ length s.stores)
      (outputs_are : length logs.outputs.items ≡ length s.outputs)
      (sized : IsSized s h) where
    store_grows : (i : ℕ) → i < length s.stores → (p : List (List Record) × List (List Record)) × StoreGrows i p.0 p.1
    store_grows i lt =
        let d = logs.marks in
        let old = on.stores i d lt in
        let here : i < length logs.changelogs.items = subst (λ n. i < n) (sym changelogs_are) lt in
        let p = plans.stores.each i (subst (λ n. i < n) (sym sized.stores) lt) in
        let lists = p.logs.lists in (
          (old.frames, lists),
          record {
            is_open = λ e. subst (λ (l : Log). IsOpenAt reads images (changelog_file i) l old.frames) (get_or_default logs.changelogs.items i d e here) old.is_open;
            are = p.logs.are;
            count_is = counts_behind logs.changelogs.items i d (batch_at s.stores i) (tracked_at h.stores i) (get_or plan.stores i []) (count_at (Some made) i) old.frames here old.is_open.is_open.extent p;
            content_is = ap foldrec (joined-append old.frames lists) ∙ replayed-append nothing_stored (joined old.frames) (joined lists) ∙ p.logs.replays (foldrec (joined old.frames)) old.agrees;
            cut = subst (λ (rs : List Record). IsCut (batch_at s.stores i) rs lists) (unlogged_is h.stores i (subst (λ n. i < n) (sym sized.stores) lt)) p.logs.cut;
          },
        )

    output_grows : (j : ℕ) → j < length s.outputs → (p : List (List Record) × List (List Record)) × OutputGrows j p.0 p.1
    output_grows j lt =
        let d = logs.marks in
        let here : j < length logs.outputs.items = subst (λ n. j < n) (sym outputs_are) lt in
        let old = on.outputs j d here in
        let p = plans.sends.each j (subst (λ n. j < n) (sym sized.outputs) lt) in (
          (old.0, p.lists),
          record {
            is_open = λ e. subst (λ (l : Log). IsOpenAt reads images (output_file j) l old.0) (get_or_default logs.outputs.items j d e here) old.1;
            are = p.are;
            cut = p.cut;
          },
        )

    pub task_grows : (had : TaskFrames) × (more : PlanRecords) × TaskGrows had more
    task_grows =
        let ss = chosen (λ i (p : List (List Record) × List (List Record)). StoreGrows i p.0 p.1) ([], []) (length s.stores) store_grows in
        let os = chosen (λ j (p : List (List Record) × List (List Record)). OutputGrows j p.0 p.1) ([], []) (length s.outputs) output_grows in
        let old = on.marks in
        let r = plans.frame.0 in
        let grown : length (joined (old.frames ++ (r ∷ []) ∷ [])) ≡ length (joined old.frames) + 1 = ap (λ (l : List Record). length l) (joined-append old.frames ((r ∷ []) ∷ [])) ∙ length_push (joined old.frames) r in (
          record { marks = old.frames; changelogs = (λ i. (ss.0 i).0); outputs = (λ j. (os.0 j).0) },
          record { mark = r; changes = (λ i. (ss.0 i).1); sends = (λ j. (os.0 j).1) },
          record {
            mark_open = old.is_open;
            mark_is = old.mark_is;
            mark_frame = plans.frame.2;
            mark_spells = plans.frame.1;
            made_is = record { before = old.frames; last = r; split = refl; spells = plans.frame.1; id = plans.id_is ∙ ap (λ n. n + 1) old.is_open.is_open.extent.count ∙ sym grown };
            id_is = plans.id_is ∙ ap (λ n. n + 1) (old.is_open.is_open.extent.count ∙ sym (id_was s old.frames mark old.mark_is));
            stores = ss.1;
            outputs = os.1;
          },
        )

  module _ (had : TaskFrames) (more : PlanRecords) (grows : TaskGrows had more)
      (changelogs_are : length logs.changelogs.items ≡ length s.stores)
      (outputs_are : length logs.outputs.items ≡ length s.outputs) where
    pub stand_with : StandWith reads images logs had
    stand_with = record {
      marks = grows.mark_open;
      changelogs = λ i d lt. (grows.stores i (subst (λ n. i < n) changelogs_are lt)).is_open d;
      outputs = λ j d lt. (grows.outputs j (subst (λ n. j < n) outputs_are lt)).is_open d;
    }

    pub plan_of : IsPlanOf logs plan more
    plan_of = record {
      mark = grows.mark_frame;
      changes = λ i lt. (grows.stores i (subst (λ n. i < n) changelogs_are lt)).are;
      sends = λ j lt. (grows.outputs j (subst (λ n. j < n) outputs_are lt)).are;
    }

    marks_were : (frames : List (List Record)) → HasFrames (reads checkpoint_file) frames → had.marks ≡ frames
    marks_were frames was = frames_unique (reads checkpoint_file) had.marks frames (open_frames reads images checkpoint_file logs.marks had.marks grows.mark_open) was

    changes_were : (i : ℕ) (frames : List (List Record)) → i < length s.stores → HasFrames (reads (changelog_file i)) frames → had.changelogs i ≡ frames
    changes_were i frames lt was =
        frames_unique (reads (changelog_file i)) (had.changelogs i) frames
        (open_frames reads images (changelog_file i) (get_or logs.changelogs.items i logs.marks) (had.changelogs i) ((grows.stores i lt).is_open logs.marks)) was

    sends_were : (j : ℕ) (frames : List (List Record)) → j < length s.outputs → HasFrames (reads (output_file j)) frames → had.outputs j ≡ frames
    sends_were j frames lt was =
        frames_unique (reads (output_file j)) (had.outputs j) frames
        (open_frames reads images (output_file j) (get_or logs.outputs.items j logs.marks) (had.outputs j) ((grows.outputs j lt).is_open logs.marks)) was

    -- behind the frames that a changelog had stand the changes, and behind those of an output what it was sent
    changes_follow : (c : Image) (i : ℕ) → i < length s.stores → HasFrames (c (changelog_file i)) (had.changelogs i ++ more.changes i)
        → IsFollowed (batch_at s.stores i) (unlogged_at (unlogged_of h.stores) i) (reads (changelog_file i)) (c (changelog_file i))
    changes_follow c i lt has frames was =
        (more.changes i, (grows.stores i lt).cut, subst (λ (fs : List (List Record)). HasFrames (c (changelog_file i)) (fs ++ more.changes i)) (changes_were i frames lt was) has)

    sends_follow : (c : Image) (j : ℕ) → j < length s.outputs → HasFrames (c (output_file j)) (had.outputs j ++ more.sends j)
        → IsFollowed frame_batch (sent_at h.unsent j) (reads (output_file j)) (c (output_file j))
    sends_follow c j lt has frames was =
        (more.sends j, (grows.outputs j lt).cut, subst (λ (fs : List (List Record)). HasFrames (c (output_file j)) (fs ++ more.sends j)) (sends_were j frames lt was) has)

    -- with a part of the plan the image has the checkpoint before
    pub part_restores : (c : Image) (contents : List Content) → HasPart (length s.stores) (length s.outputs) had more c → Restores s reads mark contents → IsUncommitted s reads c mark contents (unlogged_of h.stores) h.unsent
    part_restores c contents part old = record {
      restores = record {
        marked = record { frames = had.marks; has = part.mark; mark_is = grows.mark_is };
        as_many = old.as_many;
        each_store = λ i lt.
            holds_still (reads (changelog_file i)) (c (changelog_file i)) (count_at mark i) (get_or contents i nothing_stored) (had.changelogs i) (more.changes i)
            (open_frames reads images (changelog_file i) (get_or logs.changelogs.items i logs.marks) (had.changelogs i) ((grows.stores i lt).is_open logs.marks))
            (old.each_store i lt) (part.changes i lt);
        each_output = λ j lt. elim (part.sends j lt) [
          | inl has ↦ (joined (had.outputs j), log_of (c (output_file j)) (had.outputs j) has)
          | inr has ↦ (joined (had.outputs j ++ more.sends j), log_of (c (output_file j)) (had.outputs j ++ more.sends j) has)
        ];
      };
      marked = λ frames was. subst (λ (fs : List (List Record)). HasFrames (c checkpoint_file) fs) (marks_were frames was) part.mark;
      changes = λ i lt frames was. elim (part.changes i lt) [
        | inl has ↦ inl (subst (λ (fs : List (List Record)). HasFrames (c (changelog_file i)) fs) (changes_were i frames lt was) has)
        | inr has ↦ inr (changes_follow c i lt has frames was)
      ];
      sends = λ j lt frames was. elim (part.sends j lt) [
        | inl has ↦ inl (subst (λ (fs : List (List Record)). HasFrames (c (output_file j)) fs) (sends_were j frames lt was) has)
        | inr has ↦ inr (sends_follow c j lt has frames was)
      ];
    }

    -- with all of the plan the image has the next checkpoint
    pub all_restores : (c : Image) → IsSized s h → IsNamed s made → next_at (Some made) 0 ≡ Some next → HasAll (length s.stores) (length s.outputs) had more c
        → IsCommitted s reads c mark next (state_of h) (unlogged_of h.stores) made
    all_restores c sized named next_is all = record {
      id_is = grows.id_is;
      next_is = next_is;
      counts = λ i lt. record { frames = had.changelogs i ++ more.changes i; has = all.changes i lt; held_is = (grows.stores i lt).count_is };
      restores = record {
        marked = record { frames = had.marks ++ (more.mark ∷ []) ∷ []; has = all.mark; mark_is = (grows.made_is, named) };
        as_many = length-map h.stores (λ (t : Tracked). t.content) ∙ sized.stores;
        each_store = λ i lt.
            let m = grows.stores i lt in
            let frames = had.changelogs i ++ more.changes i in
            record {
              changes = joined frames;
              has = log_of (c (changelog_file i)) frames (all.changes i lt);
              enough = omega (arith, m.count_is);
              content_is = content_at h.stores i (subst (λ n. i < n) (sym sized.stores) lt) ∙ sym m.content_is ∙ ap foldrec (sym (take_all (count_at (Some made) i) (joined frames) (omega (arith, m.count_is))));
            };
        each_output = λ j lt. (joined (had.outputs j ++ more.sends j), log_of (c (output_file j)) (had.outputs j ++ more.sends j) (all.sends j lt));
      };
      marked = λ frames was. (more.mark, grows.mark_spells, subst (λ (fs : List (List Record)). HasFrames (c checkpoint_file) (fs ++ (more.mark ∷ []) ∷ [])) (marks_were frames was) all.mark);
      changes = λ i lt. changes_follow c i lt (all.changes i lt);
      sends = λ j lt. sends_follow c j lt (all.sends j lt);
    }

    -- a crash in the writing of the plan leaves one or the other
    pub write_leaves : (a c : Image) (contents : List Content) → IsSized s h → IsNamed s made → next_at (Some made) 0 ≡ Some next → Restores s reads mark contents
        → WriteLeaves (length logs.changelogs.items) (length logs.outputs.items) had more a c → LeavesMade s reads a c mark contents next (state_of h) (unlogged_of h.stores) made
    write_leaves a c contents sized named next_is old left =
        let here : WriteLeaves (length s.stores) (length s.outputs) had more a c =
        subst (λ (m : ℕ). WriteLeaves (length s.stores) m had more a c) outputs_are (subst (λ (n : ℕ). WriteLeaves n (length logs.outputs.items) had more a c) changelogs_are left) in (
          here.0,
          elim here.1 [
            | inl part ↦ inl (part_restores c contents part old)
            | inr all ↦ inr (all_restores c sized named next_is all)
          ],
        )

    -- each image has all of the plan once it is written
    pub written_has : (reads' : Image) (images' : Image → Type 0) (logs' : Logs) → AreWritten reads images reads' images' logs logs' plan → (c : Image) → images' c → HasAll (length s.stores) (length s.outputs) had more c
    written_has reads' images' logs' follows c now = record {
      mark = has_frames reads' images' checkpoint_file logs'.marks (had.marks ++ (more.mark ∷ []) ∷ []) (follows.marks had.marks more.mark grows.mark_open grows.mark_frame) c now;
      changes = λ i lt.
          let d = logs.marks in
          let here : i < length logs.changelogs.items = subst (λ n. i < n) (sym changelogs_are) lt in
          has_frames reads' images' (changelog_file i) (get_or logs'.changelogs.items i d) (had.changelogs i ++ more.changes i)
          (follows.changelogs i d (had.changelogs i) (more.changes i) here ((grows.stores i lt).is_open d) (grows.stores i lt).are) c now;
      sends = λ j lt.
          let d = logs.marks in
          let here : j < length logs.outputs.items = subst (λ n. j < n) (sym outputs_are) lt in
          has_frames reads' images' (output_file j) (get_or logs'.outputs.items j d) (had.outputs j ++ more.sends j)
          (follows.outputs j d (had.outputs j) (more.sends j) here ((grows.outputs j lt).is_open d) (grows.outputs j lt).are) c now;
    }
