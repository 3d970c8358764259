use Rattle.std.proofs.Common.{◌≡◌, ◌≤◌, List, [], ◌∷◌, ◌++◌, length, ap, subst, sym, ◌∙◌, arith, refl, rules}
use Rattle.std.proofs.lemmas.List.{append-nil}
use Rattle.std.proofs.lemmas.Bool.Decides.{nat_tests}
use Rattle.samza_model.specs.declared.messages.Record.{Record}
use Rattle.log_frame.specs.Frame.{FrameView}
use Rattle.topic_log.specs.Steps.{closed_frames, record_count, staged, Stages}
use Rattle.topic_log.specs.Opened.{IsOpen}
use Rattle.topic_log.proofs.Logged.{are_none, open_long, opened_is, appends_still, appends_moves, others_open}
use Rattle.topic_log.proofs.logs.Log.append_planned.Goals as goal

pub put_behind-requires-clause-gate : goal.put_behind-requires-clause-gate
put_behind-requires-clause-gate g c κs within = λ told.
    let p = c.requires.«open» told in
    open_long (g.D.Disk.reads c.args.disk.now) (g.D.Disk.images c.args.disk.now) c.args.self.now p.0 p.1

pub put_behind-requires-clause-durable : goal.put_behind-requires-clause-durable
put_behind-requires-clause-durable g c κs within = λ told. (c.requires.«open» told).1.durable

-- no frames have no record and no byte
none_counted : (frames : List FrameView) → length frames ≡ 0 → (record_count frames ≡ 0) × (length (closed_frames frames) ≡ 0)
none_counted [] none = (refl, refl)
none_counted (f ∷ frames) none = absurd (omega arith)

pub returns-then-is_empty-clause-appended : goal.returns-then-is_empty-clause-appended
returns-then-is_empty-clause-appended g c =
    let disk = g.D.Disk in
    let old = c.args.disk.now in
    let law = (g.met.D.Disk g.world.𝓛 g.world.𝓜 g.world.𝓡 ((λ s x. x), (λ x. x), (λ x. x), λ x. x)) in
    let none : length c.args.frames.now ≡ 0 = grind (arith, nat_tests) in
    let counts = none_counted c.args.frames.now none in
    record {
      count = search rules;
      counted = omega (arith, counts.0);
      file = search rules;
      appended = λ told before lists opened are.
          subst (λ (l : List (List Record)). IsOpen (disk.reads old) (disk.images old) c.args.self.now l)
          (sym (ap (λ (l : List (List Record)). before ++ l) (are_none c.args.frames.now lists none are) ∙ append-nil before)) opened;
      grown = omega (arith, counts.1);
      idle = search rules;
      elsewhere = search rules;
      any_moment = λ told before lists opened are.
          appends_still disk.reads disk.call_number disk.images disk.images_since old c.args.self.now before lists (λ f left. law.only_now old f told left) opened;
      others = search rules;
      sound = search rules;
      breaks = search rules;
      refused = search rules;
      extent = search rules;
      later = search rules;
      named = search rules;
    }

pub returns-in_err-put_behind-clause-appended : goal.returns-in_err-put_behind-clause-appended
returns-in_err-put_behind-clause-appended g c =
    let disk = g.D.Disk in
    let some : 1 ≤ length c.args.frames.now = grind (arith, nat_tests) in
    record {
      count = search rules;
      counted = search rules;
      file = search rules;
      appended = search rules;
      grown = search rules;
      idle = λ none. absurd (omega (arith, some, ap length none));
      elsewhere = search rules;
      any_moment = λ told before lists opened are.
          appends_moves disk.reads disk.call_number disk.images disk.images_since c.args.disk.now c.put_behind.new.disk c.args.self.now before lists c.args.frames.now some (c.put_behind.ensures.moves told) opened are;
      others = λ told.
          others_open disk.reads disk.call_number disk.images disk.images_since c.args.disk.now c.put_behind.new.disk c.args.self.now.file (Stages c.args.self.now.file c.args.self.now.extent.gate (staged c.args.frames.now)) (c.put_behind.ensures.moves told) (λ a b s. s.elsewhere);
      sound = search rules;
      breaks = search rules;
      refused = search rules;
      extent = search rules;
      later = search rules;
      named = search rules;
    }

pub returns-clause-appended : goal.returns-clause-appended
returns-clause-appended g c =
    let disk = g.D.Disk in
    let some : 1 ≤ length c.args.frames.now = grind (arith, nat_tests) in
    record {
      count = search rules;
      counted = search rules;
      file = search rules;
      appended = λ told before lists opened are.
          opened_is (disk.reads c.args.disk.now) (disk.images c.args.disk.now) c.args.self.now before opened (disk.reads c.put_behind.new.disk) (disk.images c.put_behind.new.disk) _ c.args.frames.now lists some are
          refl (c.requires.reaches.has before lists opened.extent are) (c.in_ok-put_behind.ensures.opened told) (c.in_ok-put_behind.ensures.durable told);
      grown = omega (arith, c.requires.reaches.size);
      idle = λ none. absurd (omega (arith, some, ap length none));
      elsewhere = search rules;
      any_moment = λ told before lists opened are.
          appends_moves disk.reads disk.call_number disk.images disk.images_since c.args.disk.now c.put_behind.new.disk c.args.self.now before lists c.args.frames.now some (c.put_behind.ensures.moves told) opened are;
      others = λ told.
          others_open disk.reads disk.call_number disk.images disk.images_since c.args.disk.now c.put_behind.new.disk c.args.self.now.file (Stages c.args.self.now.file c.args.self.now.extent.gate (staged c.args.frames.now)) (c.put_behind.ensures.moves told) (λ a b s. s.elsewhere);
      sound = search rules;
      breaks = search rules;
      refused = search rules;
      extent = search rules;
      later = search rules;
      named = search rules;
    }
