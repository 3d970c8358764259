-- What a unit keeps over a commit, from what its calls on the logs say.
use Rattle.std.proofs.Common.{ℕ, ◌≡◌, ◌≤◌, ◌+◌, List, [], ◌∷◌, length, Option, Some, None, Bool, true, false, refl, sym, ◌∙◌, ap, subst, arith, is_some, reverse, ◌++◌}
use Rattle.std.proofs.lemmas.List.{reverse-append}
use Rattle.samza_model.specs.declared.checkpoints.Checkpoint.{Checkpoint}
use Rattle.samza_model.specs.declared.marks.KeptMark.{KeptMark}
use Rattle.samza_model.specs.declared.setups.Setup.{Setup}
use Rattle.samza_model.specs.Content.{Content}
use Rattle.samza_model.specs.Files.{Image}
use Rattle.samza_model.specs.Histories.{with_mark}
use Rattle.samza_model.specs.Marks.{last_mark}
use Rattle.samza_model.specs.Meaning.{Meaning}
use Rattle.samza_model.specs.Restored.{Restores, id_of}
use Rattle.disk_model.specs.Images.{LeavesOnly}
use Rattle.core_steps.specs.Held.{Held, state_of}
use Rattle.core_steps.specs.Lanes.{lane_at}
use Rattle.core_steps.specs.Cores.{CoreValue, IsCore, Commits}
use Rattle.topic_log.specs.Opened.{count_of}
use Rattle.unit_logs.specs.declared.writing.Logs.{Logs}
use Rattle.core_plans.specs.declared.planning.Frames.{Frames}
use Rattle.unit_logs.specs.Commits.{IsCommitted, LeavesMade}
use Rattle.unit_logs.specs.Crashes.{TaskFrames, PlanRecords, StandWith, IsPlanOf, WriteLeaves}
use Rattle.unit_logs.specs.Planned.{PlansCommit}
use Rattle.unit_logs.specs.Standing.{IsSetUp, OnDisk}
use Rattle.unit_logs.specs.Unlogged.{unlogged_of}
use Rattle.unit_logs.specs.Written.{AreSound, AreWritten, StandOpen}
use Rattle.unit_logs.proofs.Laws.{commits, left_made, left_others, stand_open, stands_made}
use Rattle.unit_steps.specs.Units.{UnitValue, Stands, Marks, Begins, IsUnit, OpenOnDisk}
use Rattle.unit_steps.proofs.Committing.{with_commit, with_begun, AtRest, begins_moments, begins_stand, marks_moments, marks_stand, on_disk}
use Rattle.unit_steps.proofs.Keeping.{one_start}

-- the logs are open, whatever is held
pub open_whatever : (reads : Image) (images : Image → Type 0) (s : Setup) (logs : Logs) (mark : Option Checkpoint) (h : Held) → OnDisk reads images s logs mark h → OpenOnDisk reads images s logs mark
open_whatever reads images s logs mark h on = record {
  marks = on.marks;
  stores = λ i d lt. let o = on.stores i d lt in record { frames = o.frames; is_open = o.is_open; enough = o.enough };
  outputs = on.outputs;
}

broken_now : true ≡ false → ⊥
broken_now e = cc

module _ {P D S : Type 0} (meaning : P → Meaning) (tells : Type 0) (reads : D → Image) (number : D → ℕ) (images : D → Image → Type 0) (since : D → ℕ → Image → Type 0)
    (old : UnitValue P D S) (logs : Logs) (inv : IsUnit meaning tells reads number images since logs old) (core : IsCore old.core) (sound : old.broken ≡ false) where
  pub on_disk_now : tells → OnDisk (reads old.disk) (images old.disk) old.core.setup logs (last_mark old.marks) old.core.held
  on_disk_now told = on_disk meaning tells reads number images since old logs core (inv.on_disk sound told) inv.outside inv.history inv.stands sound told

  pub stand_open_now : tells → StandOpen (reads old.disk) (images old.disk) logs
  stand_open_now told = stand_open old.core.setup (reads old.disk) (images old.disk) logs (last_mark old.marks) old.core.held (on_disk_now told) inv.changelogs_are

  module _ (disk : D) (plan : Frames) (made : Checkpoint) (p : PlansCommit old.core.setup logs old.core.held (lane_at old.core.lanes 0).low plan made) (here : tells → images old.disk (reads old.disk))
      (counted : tells → (n : ℕ) (c : Image) → n ≤ number old.disk → images old.disk c → since old.disk n c)
      (any : tells → (had : TaskFrames) (more : PlanRecords) → StandWith (reads old.disk) (images old.disk) logs had → IsPlanOf logs plan more
      → LeavesOnly number images since old.disk disk (WriteLeaves (length logs.changelogs.items) (length logs.outputs.items) had more)) where
    run : tells → (contents : List Content) → Restores old.core.setup (reads old.disk) (last_mark old.marks) contents
        → LeavesOnly number images since old.disk disk (λ a c. LeavesMade old.core.setup (reads old.disk) a c (last_mark old.marks) contents (lane_at old.core.lanes 0).low (state_of old.core.held) (unlogged_of old.core.held.stores) made)
    run told contents restores = left_made reads number images since old.disk old.core.setup logs plan (last_mark old.marks) (lane_at old.core.lanes 0).low made old.core.held (on_disk_now told) p inv.changelogs_are inv.outputs_are core.sized disk (any told) contents restores

    later : tells → number old.disk ≤ number disk
    later told = (left_others reads number images since old.disk old.core.setup logs plan (last_mark old.marks) (lane_at old.core.lanes 0).low made old.core.held (on_disk_now told) p inv.changelogs_are inv.outputs_are core.sized disk (any told)).later

    one : length old.core.starts ≡ 1
    one = one_start old.core core inv.set_up

    id_is : made.id ≡ id_of (last_mark old.marks) + 1
    id_is = p.id_is ∙ ap (λ n. n + 1) (inv.counted sound)

    module _ (logs' : Logs) (changelogs_are : length logs'.changelogs.items ≡ length logs.changelogs.items) (outputs_are : length logs'.outputs.items ≡ length logs.outputs.items) where
      -- a write that failed
      module _ (counts : tells → number old.disk ≤ number disk → (c : Image) → images disk c → since disk (number old.disk) c) (now : tells → images disk (reads disk)) (rest : AtRest old.core) where
        pub unfinished : Begins meaning tells reads number images since old (with_begun old disk (length old.core.since))
        unfinished = record {
          same = record { job = refl; shelf = refl; messages = refl; core = λ o. refl };
          core = refl;
          marks = refl;
          begun = (refl, sound, refl);
          history = λ o t s. begins_stand meaning tells reads number images since old disk made one sound here run o t s (λ told. counts told (later told)) now rest p.named id_is p.next_is;
          moments = λ o t s told from so_far. begins_moments meaning tells reads number images since old disk made one sound here run o t s told (counted told) from so_far;
        }

        pub unfinished_unit : IsUnit meaning tells reads number images since logs' (with_begun old disk (length old.core.since))
        unfinished_unit = record {
          set_up = inv.set_up;
          changelogs_are = changelogs_are ∙ inv.changelogs_are;
          outputs_are = outputs_are ∙ inv.outputs_are;
          ends = inv.ends;
          sound = λ b. absurd (broken_now b);
          counted = λ b. absurd (broken_now b);
          last = inv.last;
          on_disk = λ b. absurd (broken_now b);
          outside = inv.outside;
          history = inv.history;
          stands = unfinished.history inv.outside inv.history inv.stands;
        }

      -- a write that was made
      module _ (after : CoreValue) (commits_core : Commits old.core after) (rest : AtRest old.core) (only : tells → (c : Image) → since disk (number disk) c → images disk c) (now : tells → images disk (reads disk))
          (follows : tells → AreWritten (reads old.disk) (images old.disk) (reads disk) (images disk) logs logs' plan) (sound' : AreSound logs') (one_more : count_of logs'.marks ≡ count_of logs.marks + 1) where
        done : tells → (c : Image) → images disk c → IsCommitted old.core.setup (reads old.disk) c (last_mark old.marks) (lane_at old.core.lanes 0).low (state_of old.core.held) (unlogged_of old.core.held.stores) made
        done told c is =
            commits reads number images since old.disk old.core.setup logs plan (last_mark old.marks) (lane_at old.core.lanes 0).low made old.core.held (on_disk_now told) p inv.changelogs_are inv.outputs_are core.sized
            (reads disk) (images disk) logs' (follows told) c is

        pub finished : Marks meaning tells reads number images since old (with_commit old disk after (record { checkpoint = Some made; at = number disk })) made
        finished = record {
          same = record { job = refl; shelf = refl; messages = refl; core = commits_core.same };
          times = commits_core.times;
          window = commits_core.window;
          journal = commits_core.journal;
          id = id_is;
          marks = refl;
          sound = (sound, refl, refl);
          history = λ o t s. marks_stand meaning tells reads number images since old disk made one sound here run o t s after core.sized.stores commits_core rest p.named id_is p.next_is only now done;
          moments = λ o t s told from so_far. marks_moments meaning tells reads number images since old disk made one sound here run o t s told (counted told) from so_far after commits_core;
        }

        pub finished_unit : IsUnit meaning tells reads number images since logs' (with_commit old disk after (record { checkpoint = Some made; at = number disk }))
        finished_unit =
            let same : old.core.setup ≡ after.setup = sym (ap (λ k. k.setup) (commits_core.same inv.outside)) in
            record {
              set_up = subst (λ (s : Setup). IsSetUp s) same inv.set_up;
              changelogs_are = changelogs_are ∙ inv.changelogs_are ∙ ap (λ (s : Setup). length s.stores) same;
              outputs_are = outputs_are ∙ inv.outputs_are ∙ ap (λ (s : Setup). length s.outputs) same;
              ends = ap (λ k. k.ends) (commits_core.same inv.outside) ∙ inv.ends;
              sound = λ _. sound';
              counted = λ _. one_more ∙ sym p.id_is;
              last = commits_core.last ∙ ap (λ n. n + 1) inv.last ∙ sym id_is;
              on_disk = λ _ told. subst (λ (s : Setup). OpenOnDisk (reads disk) (images disk) s logs' (Some made)) same
                  (open_whatever (reads disk) (images disk) old.core.setup logs' (Some made) old.core.held
                  (stands_made old.core.setup (reads old.disk) (reads disk) (images old.disk) (images disk) logs logs' plan (last_mark old.marks) (lane_at old.core.lanes 0).low made old.core.held (on_disk_now told) (follows told) p
                  inv.changelogs_are inv.outputs_are outputs_are core.sized old.core.held core.sized refl));
              outside = inv.outside;
              history = with_mark inv.history;
              stands = finished.history inv.outside inv.history inv.stands;
            }

-- a mark more
pub marks_more : (m : KeptMark) (old mid new : List KeptMark) → mid ≡ old → new ≡ mid ++ m ∷ [] → m ∷ reverse old ≡ reverse new
marks_more m old mid new same pushed = sym (ap reverse (pushed ∙ ap (λ (l : List KeptMark). l ++ m ∷ []) same) ∙ reverse-append old (m ∷ []))
