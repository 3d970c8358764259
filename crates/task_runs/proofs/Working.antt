-- What a task's run made, from its opening and its unit's run.
use Rattle.std.proofs.Common.{ℕ, ◌≡◌, ◌<◌, ◌≤◌, ◌+◌, ◌-◌, ◌⊎◌, inl, inr, zero, suc, List, [], ◌∷◌, ◌++◌, length, append-nil, drop, get_or, map, is_some, Option, Some, None, Result, Ok, Err, true, false, refl, sym, ◌∙◌, ap, subst, arith, slice_get}
use Rattle.std.specs.Prelude.{IfSome}
use Rattle.samza_model.specs.declared.messages.Record.{Record}
use Rattle.samza_model.specs.declared.checkpoints.Checkpoint.{Checkpoint}
use Rattle.samza_model.specs.declared.marks.KeptMark.{KeptMark}
use Rattle.samza_model.specs.declared.setups.Setup.{Setup}
use Rattle.samza_model.specs.declared.setups.InputSetup.{InputSetup}
use Rattle.samza_model.specs.declared.setups.OffsetDefault.TheVariants.{Oldest}
use Rattle.samza_model.specs.declared.events.Event.{Event}
use Rattle.samza_model.specs.Content.{Content, State, sent_at}
use Rattle.samza_model.specs.Events.{deliveries_of, first_failure, flights, is_covered, low, older, state_after, window_open}
use Rattle.samza_model.specs.Files.{Image, output_file}
use Rattle.samza_model.specs.Histories.{History, whole, marked, marked_at, with_mark, ArePrompt}
use Rattle.samza_model.specs.Lawful.{Given, IsLawful, end_at_input, start_at}
use Rattle.samza_model.specs.Logs.{HasLog}
use Rattle.samza_model.specs.Marks.{AreMarks, BeginWithSends, BeginsWith, Files, FromBegun, FromMark, HaveSends, HoldMarks, IsMark, MayBegun, RestoresTo, last_mark}
use Rattle.samza_model.specs.Meaning.{Meaning}
use Rattle.samza_model.specs.Partition.{Partition, partition_of}
use Rattle.samza_model.proofs.Laws.{end_in}
use Rattle.samza_model.specs.Ran.{EndsWindow, Opening, fresh, opening, starts_from}
use Rattle.samza_model.specs.Requests.{IsPrompt, shutdown_asked}
use Rattle.samza_model.specs.Restored.{Restores, id_of, next_at, start_of}
use Rattle.disk_model.specs.declared.names.DiskName.{DiskName}
use Rattle.disk_model.specs.Images.{LeavesOnly}
use Rattle.disk_model.proofs.Laws.{followed, started, weaker}
use Rattle.history_laws.proofs.Shared.{low_idle}
use Rattle.restore_trim.specs.Crashes.{OpeningLeaves}
use Rattle.restore_trim.specs.Refused.{StoresOpen}
use Rattle.restore_trim.proofs.Shared.{restores_one}
use Rattle.core_steps.specs.Cores.{IsCore, IsWindow, Outside, given, next_at as delivered_to}
use Rattle.core_steps.specs.Held.{contents_of, state_of}
use Rattle.core_steps.specs.Lanes.{lane_at}
use Rattle.output_log.specs.Outputs.{sent_count}
use Rattle.task_core.specs.Seen.{sent_of}
use Rattle.unit_logs.specs.Growth.{PassesLimit}
use Rattle.unit_opening.specs.Inputs.{input_of}
use Rattle.unit_logs.specs.Unlogged.{unlogged_of}
use Rattle.unit_steps.specs.Growing.{FillFile, HaveGrown}
use Rattle.unit_steps.specs.Leaving.{HoldAll, HoldOneMore, IsLeft}
use Rattle.unit_steps.specs.Moments.{FromMarks, SameOfTask}
use Rattle.unit_steps.specs.Units.{UnitValue, Stands, opened_history}
use Rattle.unit_steps.proofs.Laws.{begun_now, left_is, low_here}
use Rattle.run_loop.specs.Messages.{IsOfMessages}
use Rattle.run_loop.specs.Runs.{AreFromMarks, Runs}
use Rattle.run_loop.specs.Stops.{IsBroken, IsFull, IsSettled, WhyStopped}
use Rattle.run_loop.specs.declared.stops.Stop.{Stop}
use Rattle.run_loop.specs.declared.stops.Stop.TheVariants.{Ended, Asked, Failed as FailedStop, Device as DeviceStop, Limit as LimitStop, NoMemory as NoMemoryStop}
use Rattle.container_texts.specs.UnitReports.{ReportsUnit}
use Rattle.container_texts.specs.declared.faults.RunFault.{RunFault}
use Rattle.container_texts.specs.declared.faults.RunFault.TheVariants.{Words, NoText, TextLimit, BadEscape, BadKey, NotBuilt, NoPartition, Device, NotOpened, Failed, Limit, NoMemory}
use Rattle.container_texts.specs.declared.reports.TaskReport.{TaskReport}
use Rattle.task_runs.specs.Answers.{IsEnd, IsFailure, IsRefused, Says}
use Rattle.task_runs.specs.Ends.{AreAllMade, EndsAs, Finishes, TellsEvents, done_to}
use Rattle.task_runs.specs.Leaving.{FromLast, TaskLeaves}
use Rattle.task_runs.specs.Runs.{TaskRan}
use Rattle.task_runs.specs.Worked.{Worked}
use Rattle.task_runs.proofs.Opened.{IsOpened}
use Rattle.task_runs.proofs.Placing.{windowless_all}
use Rattle.task_runs.proofs.Reporting.{sent_by_events, tells_as}

-- where the one input begins
starts_one : (mark : Option Checkpoint) (inputs : List InputSetup) (d : InputSetup) (part : Partition) → length inputs ≡ 1 → starts_from mark 0 inputs (part ∷ []) ≡ start_of (next_at mark 0) (get_or inputs 0 d) part ∷ []
starts_one mark [] d part one = absurd (omega (arith, one))
starts_one mark (i ∷ []) d part one = refl
starts_one mark (i ∷ j ∷ is) d part one = absurd (omega (arith, one))

-- one mark more than commits: the opening's
as_many : (k : Given) (parts : List (List Event)) (marks : List KeptMark) → AreMarks k parts marks → length marks ≡ length parts + 1
as_many k [] [] are = absurd are
as_many k [] (m ∷ ms) are = omega (arith, ap length are)
as_many k (p ∷ ps) [] are = absurd are
as_many k (p ∷ ps) (m ∷ ms) are = omega (arith, as_many k ps ms are.1)

module _ {P D S : Type 0} (meaning : P → Meaning) (tells : Type 0) (reads : D → Image) (number : D → ℕ) (images : D → Image → Type 0) (since : D → ℕ → Image → Type 0) (name : D → DiskName) (faults : D → ℕ) (told : tells)
    (counts : (d : D) (k : ℕ) (c : Image) → k ≤ number d → images d c → since d k c) (only : (d : D) (c : Image) → since d (number d) c → images d c)
    (disk : D) (s : Setup) (one : length s.inputs ≡ 1) (no_window : s.window_ms ≡ None) (input : List ℕ) (u v : UnitValue P D S)
    (opened : IsOpened meaning tells reads number images since disk s input u) (core : IsCore v.core) (r : Runs meaning tells reads number images since name faults u v) where
  abbrev Job : Meaning
  Job = meaning u.job

  abbrev Mark : Option Checkpoint
  Mark = last_mark u.marks

  abbrev Stores : List Content
  Stores = contents_of u.core.held.stores

  abbrev Parts : List Partition
  Parts = partition_of u.messages ∷ []

  abbrev K : Given
  K = opening Job s Parts Mark Stores

  abbrev O : Outside
  O = record { job = Some Job; parts = Some (partition_of u.messages) ∷ []; state = fresh s Stores }

  abbrev Begins : Stands meaning tells reads number images since O u (opened_history (reads disk))
  Begins = opened.stands O refl refl refl

  abbrev Behind : Type 0
  Behind = Stands meaning tells reads number images since O v (r.history O (opened_history (reads disk)) Begins).0

  abbrev T : History
  T = (r.history O (opened_history (reads disk)) Begins).0

  abbrev St : Stands meaning tells reads number images since O v T
  St = (r.history O (opened_history (reads disk)) Begins).2

  given_is : given O u.core ≡ K
  given_is = λ i. record {
    job = Some Job;
    setup = opened.setup i;
    parts = Some (partition_of u.messages) ∷ [];
    starts = (opened.starts ∙ sym (starts_one Mark s.inputs (record { ssp = record { system = []; stream = []; partition = 0 }; fallback = Oldest; reset = false }) (partition_of u.messages) one)) i;
    ends = (opened.ends ∙ ap (λ (n : ℕ). n ∷ []) (sym (end_in u.messages))) i;
    state = fresh s Stores;
  }

  here : given O v.core ≡ K
  here = r.same.core O ∙ given_is

  setup_is : v.core.setup ≡ s
  setup_is = ap (λ (k : Given). k.setup) here

  begins_at : T.before ≡ reads disk
  begins_at = (r.history O (opened_history (reads disk)) Begins).1.before

  abbrev Op : Opening Job s Parts T.before
  Op = record { mark = Mark; stores = Stores; restores = subst (λ (b : Image). Restores s b Mark Stores) (sym begins_at) opened.restored }

  lawful : IsLawful K (whole T)
  lawful = subst (λ (k : Given). IsLawful k (whole T)) here St.core.lawful

  are_marks : AreMarks K T.parts v.marks
  are_marks = subst (λ (k : Given). AreMarks k T.parts v.marks) here St.marks

  from_first : (m : KeptMark) → slice_get v.marks (length T.parts) ≡ Some m → m.checkpoint ≡ Mark
  from_first m at = (restores_one s T.before m.checkpoint Mark Stores Stores (subst (λ (x : Setup). Restores x T.before m.checkpoint Stores) setup_is (St.opened told m at)) Op.restores).0

  prompt : s.async_commit ≡ false → IsPrompt T.since × ArePrompt T.parts
  prompt sync = St.prompt (ap (λ (x : Setup). x.async_commit) setup_is ∙ sync)

  of_messages : IsOfMessages T
  of_messages = (r.history O (opened_history (reads disk)) Begins).1.of_messages tt

  one_start : 0 < length v.core.starts
  one_start = omega (arith, core.inputs, ap (λ (x : Setup). length x.inputs) setup_is, one)

  start_is : start_at (given O v.core) 0 ≡ start_at K 0
  start_is = ap (λ (k : Given). start_at k 0) here

  end_is : get_or v.core.ends 0 0 ≡ end_at_input K 0
  end_is = ap (λ (k : Given). end_at_input k 0) here

  first_is : start_at K 0 ≡ start_of (next_at Mark 0) (input_of s) (partition_of u.messages)
  first_is = ap (λ (l : List ℕ). get_or l 0 0) (starts_one Mark s.inputs (record { ssp = record { system = []; stream = []; partition = 0 }; fallback = Oldest; reset = false }) (partition_of u.messages) one)

  within : start_of (next_at Mark 0) (input_of s) (partition_of u.messages) ≤ length u.messages
  within =
      let lane = St.core.lanes 0 one_start in
      let upto = core.within 0 one_start in
      omega (arith, lane.next, upto, start_is, end_is, end_in u.messages, first_is)

  -- the run, by the files that it left
  ran_now : (after : Image) → HoldMarks K T v.marks after → BeginWithSends K T.before after (marked T) → TaskRan Job s input (reads disk) after T
  ran_now after hold sends = record {
    begins = begins_at;
    messages = u.messages;
    has_messages = opened.has_messages;
    ran = record {
      opened = Op;
      lawful = lawful;
      marks = v.marks;
      are_marks = are_marks;
      from_opening = from_first;
      hold = hold;
      sends = sends;
      prompt = prompt;
      no_windows = windowless_all s.window_ms (whole T) of_messages;
    };
    of_messages = of_messages;
    opens = subst (λ (b : Image). StoresOpen b Mark (length s.stores)) (sym begins_at) opened.opens;
    within = within;
  }

  -- the same, with a mark behind all events
  ran_more : (after : Image) (m : KeptMark) → IsMark K (whole T) (last_mark v.marks) m.checkpoint → HoldMarks K (with_mark T) (m ∷ v.marks) after → BeginWithSends K T.before after (whole T)
      → TaskRan Job s input (reads disk) after (with_mark T)
  ran_more after m is_mark hold sends = record {
    begins = begins_at;
    messages = u.messages;
    has_messages = opened.has_messages;
    ran = record {
      opened = Op;
      lawful = lawful;
      marks = m ∷ v.marks;
      are_marks = (is_mark, are_marks);
      from_opening = from_first;
      hold = hold;
      sends = sends;
      prompt = λ sync. (tt, prompt sync);
      no_windows = windowless_all s.window_ms (whole T) of_messages;
    };
    of_messages = of_messages;
    opens = subst (λ (b : Image). StoresOpen b Mark (length s.stores)) (sym begins_at) opened.opens;
    within = within;
  }

  -- a crash since the opening's start
  start_moments : AreFromMarks number images since u.disk O u (opened_history (reads disk))
  start_moments = started number images since u.disk (FromMarks (given O u.core) (opened_history (reads disk)) u.marks u.begun) (only u.disk)
      (λ c now. (c, now, record { from = (Begins.crash told).here c now; others = λ f other. refl }))

  abbrev Leaves : Option ℕ → Image → Image → Type 0
  Leaves begun a c = OpeningLeaves s a c ⊎ FromMarks K T v.marks begun a c

  so_far : LeavesOnly number images since disk v.disk (Leaves v.begun)
  so_far = followed number images since disk u.disk v.disk (OpeningLeaves s) (FromMarks K T v.marks v.begun) (Leaves v.begun) (λ k c le now. counts u.disk k c le now) opened.moment
      (subst (λ (k : Given). LeavesOnly number images since u.disk v.disk (FromMarks k T v.marks v.begun)) here ((r.history O (opened_history (reads disk)) Begins).3 told u.disk start_moments))
      (λ a b c p q. inr (record { from = q.from; others = λ f other. q.others f other ∙ p.others f other }))
      (λ a b p. inl p)

  leaves_sound : v.begun ≡ None → (result : Result TaskReport RunFault) → LeavesOnly number images since disk v.disk (TaskLeaves result K T v.marks)
  leaves_sound none result =
      weaker number images since disk v.disk (Leaves None) (TaskLeaves result K T v.marks) (subst (λ (b : Option ℕ). LeavesOnly number images since disk v.disk (Leaves b)) none so_far)
      (λ a c was p. elim p [
        | inl restored ↦ inl restored
        | inr f ↦ inr (f.others, elim f.from [ inl mark ↦ inl mark | inr begun ↦ absurd begun ])
      ])

  -- where no commit failed
  module _ (sound : v.broken ≡ false) (durable : (c : Image) → images v.disk c → SameOfTask (length v.core.setup.stores) (length v.core.setup.outputs) (reads v.disk) c) where
    files : Files K T v.marks (reads v.disk)
    files = subst (λ (k : Given). Files k T v.marks (reads v.disk)) here (St.files sound told)

    all_made : AreAllMade K T v.marks (reads v.disk) (images v.disk)
    all_made = record {
      grown = subst (λ (k : Given). HaveGrown k T.before T.parts v.marks (reads v.disk)) here (St.grown sound told);
      durable = λ c now. subst (λ (x : Setup). SameOfTask (length x.stores) (length x.outputs) (reads v.disk) c) setup_is (durable c now);
    }

    all_begin : BeginWithSends K T.before (reads v.disk) (marked T)
    all_begin = λ j had lt log. begins (reads v.disk (output_file j)) (had ++ sent_at (state_after K.state (marked T)).sent j) (files.sends j had lt log)
      where
        begins : (bytes : List ℕ) (front : List Record) → HasLog bytes front → BeginsWith bytes front
        begins bytes front log = record { more = []; has = subst (λ (l : List Record). HasLog bytes l) (sym (append-nil front)) log }

    work : (result : Result TaskReport RunFault) → TellsEvents K T v.marks (reads v.disk) result
        → (t : History) × Worked number images since disk v.disk Job s input (reads disk) (reads v.disk) result t
    unfolding ran_now
    work result tells = (T, record { ran = ran_now (reads v.disk) files.hold all_begin; ended = record { made = inr all_made; tells = tells }; moments = leaves_sound (St.sound sound) result })

    low_now : done_to K T ≡ (lane_at v.core.lanes 0).low
    low_now = subst (λ (k : Given). low k.setup (start_at k 0) (whole T) 0 ≡ (lane_at v.core.lanes 0).low) here (low_here O v.core (whole T) (length (marked T)) St.core (omega (arith, core.inputs, ap (λ (x : Setup). length x.inputs) setup_is, one)))

    -- one of the files is too full for the next commit
    fills : PassesLimit v.core.setup (reads v.disk) (last_mark v.marks) (lane_at v.core.lanes 0).low (unlogged_of v.core.held.stores) v.core.held.unsent → FillFile K T v.marks (reads v.disk)
    fills passes = record {
      state = state_of v.core.held;
      unlogged = unlogged_of v.core.held.stores;
      left = left_is K T v.core.held St.core.held (core.sized.stores ∙ ap (λ (x : Setup). length x.stores) setup_is);
      passes =
          subst (λ (n : ℕ). PassesLimit s (reads v.disk) (last_mark v.marks) n (unlogged_of v.core.held.stores) v.core.held.unsent) (sym low_now)
          (subst (λ (x : Setup). PassesLimit x (reads v.disk) (last_mark v.marks) (lane_at v.core.lanes 0).low (unlogged_of v.core.held.stores) v.core.held.unsent) setup_is passes);
    }

    -- it came to an end
    module _ (settled : IsSettled v) (report : TaskReport) (reports : ReportsUnit v report) where
      idle : flights s (whole T) ≡ []
      idle = subst (λ (x : Setup). flights x (whole T) ≡ []) setup_is (sym St.core.flies ∙ settled.idle)

      none_failed : first_failure (whole T) ≡ None
      none_failed = sym St.core.failed ∙ settled.going.sound

      next_is : (delivered_to v.core 0 ≡ get_or v.core.ends 0 0) ⊎ (is_some v.core.asked ≡ true) → (done_to K T ≡ end_at_input K 0) ⊎ (is_some (shutdown_asked (whole T)) ≡ true)
      next_is (inl at_end) =
          let lane = St.core.lanes 0 one_start in
          let covered : low K.setup (start_at K 0) (whole T) 0 ≡ start_at K 0 + deliveries_of 0 (whole T) = low_idle K (whole T) 0 lawful idle none_failed in
          inl (omega (arith, covered, lane.next, start_is, at_end, end_is))
      next_is (inr asked) = inr (sym (ap is_some St.core.asked) ∙ asked)

      finishes : (delivered_to v.core 0 ≡ get_or v.core.ends 0 0) ⊎ (is_some v.core.asked ≡ true) → Finishes K T v.marks (reads v.disk) report
      finishes next = record {
        finished = record {
          idle = idle;
          sound = none_failed;
          closed = (subst (IsWindow (whole T)) settled.going.closed St.core.window).0;
          committed = omega (arith, settled.committed, as_many K T.parts v.marks are_marks);
          all_marked = sym St.journal ∙ settled.marked;
          sends = files.sends;
          windowed = subst (λ (w : Option ℕ). EndsWindow w (whole T)) (sym no_window) tt;
        };
        next = next_is next;
        tells =
            let low = (lane_at v.core.lanes 0).low in
            tells_as v.core.setup s (id_of (last_mark v.marks)) (low - get_or v.core.starts 0 0) (done_to K T - start_at K 0) low (done_to K T) (get_or v.core.ends 0 0) (end_at_input K 0)
            (contents_of v.core.held.stores) (state_after K.state (whole T)).stores (sent_count (sent_of v.core.held)) (λ j. length (sent_at (state_after K.state (whole T)).sent j)) report
            setup_is (ap (λ (n : ℕ). n - get_or v.core.starts 0 0) (sym low_now) ∙ ap (λ (n : ℕ). done_to K T - n) start_is) (sym low_now) end_is (sym St.core.held.stores)
            (λ j lt. sent_by_events K.state (whole T) (length (marked T)) v.core.held St.core.held j (omega (arith, lt, core.sized.outputs, ap (λ (x : Setup). length x.outputs) setup_is))) reports;
      }

  -- where a commit answered Device
  module _ (broken : IsBroken faults u v) where
    begun_is : v.begun ≡ Some (length T.since)
    begun_is = broken.begun ∙ ap (λ (l : List Event). Some (length l)) St.journal

    left : IsLeft K T v.marks (length T.since) (reads v.disk)
    left = subst (λ (k : Given). IsLeft k T v.marks (length T.since) (reads v.disk)) here (left_by v.begun begun_is St.left)
      where
        left_by : (b : Option ℕ) → b ≡ Some (length T.since) → IfSome b (λ n. tells → IsLeft (given O v.core) T v.marks n (reads v.disk)) → IsLeft (given O v.core) T v.marks (length T.since) (reads v.disk)
        left_by b is all = (subst (λ (x : Option ℕ). IfSome x (λ n. tells → IsLeft (given O v.core) T v.marks n (reads v.disk))) is all) told

    begun_so_far : LeavesOnly number images since disk v.disk (Leaves (Some (length T.since)))
    begun_so_far = subst (λ (b : Option ℕ). LeavesOnly number images since disk v.disk (Leaves b)) begun_is so_far

    -- a begun mark covers all events
    from_last : (marks : List KeptMark) (c : Image) (f : FromBegun K T v.marks (length T.since) c) → (f.made.id ≡ id_of (last_mark marks)) ⊎ (f.made.id ≡ id_of (last_mark marks) + 1) → FromLast K T marks c
    from_last marks c f id = record {
      made = f.made;
      id = id;
      next = λ p lt. subst (λ (h : List Event). next_at (Some f.made) p ≡ Some (low K.setup (start_at K p) h p)) (begun_now T) (f.next p lt);
      to = subst (λ (h : List Event). RestoresTo K T.before c (Some f.made) h) (begun_now T) f.to;
    }

    abbrev Works : Type 0
    Works = (t : History) × Worked number images since disk v.disk Job s input (reads disk) (reads v.disk) (Err Device) t

    -- the files have the marks as they were
    without : HoldAll K T v.marks (reads v.disk) → Works
    unfolding ran_now
    without all = (
      T,
      record {
        ran = ran_now (reads v.disk) all.hold all.sends;
        ended = record { made = inl tt; tells = tt };
        moments = weaker number images since disk v.disk (Leaves (Some (length T.since))) (TaskLeaves (Err Device) K T v.marks) begun_so_far
            (λ a c was p. elim p [
              | inl restored ↦ inl restored
              | inr f ↦ inr (f.others, elim f.from [ inl mark ↦ inl mark | inr begun ↦ inr (tt, from_last v.marks c begun (inr begun.id)) ])
            ]);
      },
    )

    -- or the begun one too
    with_it : HoldOneMore K T v.marks (length T.since) (reads v.disk) → Works
    unfolding ran_more from_last
    with_it more =
        let m = more.mark in
        let is_mark : IsMark K (whole T) (last_mark v.marks) m.checkpoint = subst (λ (h : List Event). IsMark K h (last_mark v.marks) m.checkpoint) (begun_now T) more.is_mark in
        let id : id_of m.checkpoint ≡ id_of (last_mark v.marks) + 1 = ap id_of is_mark.is ∙ is_mark.id in
        let none : length T.since - length T.since ≡ 0 = omega arith in
        let all : HoldAll K (with_mark T) (m ∷ v.marks) (reads v.disk) =
        subst (λ (l : List Event). HoldAll K (record { before = T.before; since = []; parts = l ∷ T.parts }) (m ∷ v.marks) (reads v.disk)) (ap (λ (n : ℕ). drop n T.since) none) more.hold in (
          with_mark T,
          record {
            ran = ran_more (reads v.disk) m is_mark all.hold all.sends;
            ended = record { made = inl tt; tells = tt };
            moments = weaker number images since disk v.disk (Leaves (Some (length T.since))) (TaskLeaves (Err Device) K (with_mark T) (m ∷ v.marks)) begun_so_far
                (λ a c was p. elim p [
                  | inl restored ↦ inl restored
                  | inr f ↦ inr (
                    f.others,
                    elim f.from [
                      | inl mark ↦ inl (record { place = suc mark.place; mark = mark.mark; newer = omega (arith, mark.newer); is = mark.is; to = mark.to })
                      | inr begun ↦
                          let last = from_last v.marks c begun (inr begun.id) in
                          inr (tt, record { made = last.made; id = inl (begun.id ∙ sym id); next = last.next; to = last.to })
                    ],
                  )
                ]);
          },
        )

    work_broken : Works
    work_broken = elim left [ inl all ↦ without all | inr more ↦ with_it more ]

  -- what the run's answer tells
  ended_by : (stop : Stop) → IsEnd stop → WhyStopped tells reads faults u v stop → IsSettled v × ((delivered_to v.core 0 ≡ get_or v.core.ends 0 0) ⊎ (is_some v.core.asked ≡ true))
  ended_by Ended is why = (why.0, inl why.1)
  ended_by Asked is why = (why.0, inr why.1)
  ended_by (FailedStop unit) is why = absurd is
  ended_by DeviceStop is why = absurd is
  ended_by LimitStop is why = absurd is
  ended_by NoMemoryStop is why = absurd is

  refused_by : (stop : Stop) → IsRefused stop → WhyStopped tells reads faults u v stop → v.broken ≡ false
  refused_by Ended is why = why.0.going.unbroken
  refused_by Asked is why = why.0.going.unbroken
  refused_by (FailedStop unit) is why = absurd is
  refused_by DeviceStop is why = absurd is
  refused_by LimitStop is why = absurd is
  refused_by NoMemoryStop is why = why.unbroken

  failed_by : (stop : Stop) → IsFailure stop → WhyStopped tells reads faults u v stop → v.broken ≡ false
  failed_by Ended is why = absurd is
  failed_by Asked is why = absurd is
  failed_by (FailedStop unit) is why = why.1.unbroken
  failed_by DeviceStop is why = absurd is
  failed_by LimitStop is why = absurd is
  failed_by NoMemoryStop is why = absurd is

  module _ (durable : v.broken ≡ false → (c : Image) → images v.disk c → SameOfTask (length v.core.setup.stores) (length v.core.setup.outputs) (reads v.disk) c)
      (stop : Stop) (why : WhyStopped tells reads faults u v stop) where
    pub worked : (result : Result TaskReport RunFault) → Says v stop result → (t : History) × Worked number images since disk v.disk Job s input (reads disk) (reads v.disk) result t
    worked (Ok report) says =
        let e = ended_by stop says.0 why in
        let sound = e.0.going.unbroken in
        work sound (durable sound) (Ok report) (finishes sound (durable sound) e.0 report says.1 e.1)
    worked (Err (Failed f)) says =
        let sound = failed_by stop says.0 why in
        work sound (durable sound) (Err (Failed f)) (sym St.core.failed ∙ says.1)
    worked (Err Limit) says =
        let full = subst (λ (x : Stop). WhyStopped tells reads faults u v x) says why in
        let sound = full.going.unbroken in
        work sound (durable sound) (Err Limit) (fills sound (durable sound) (full.full told))
    worked (Err NoMemory) says =
        let sound = refused_by stop says why in
        work sound (durable sound) (Err NoMemory) tt
    worked (Err Device) says = work_broken (subst (λ (x : Stop). WhyStopped tells reads faults u v x) says why)
    worked (Err (Words place)) says = absurd says
    worked (Err NoText) says = absurd says
    worked (Err TextLimit) says = absurd says
    worked (Err (BadEscape line)) says = absurd says
    worked (Err (BadKey key what)) says = absurd says
    worked (Err (NotBuilt key)) says = absurd says
    worked (Err NoPartition) says = absurd says
    worked (Err (NotOpened e)) says = absurd says
