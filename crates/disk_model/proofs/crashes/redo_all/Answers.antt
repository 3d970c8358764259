use Rattle.std.proofs.Common.{ℕ, ◌≡◌, ◌∙◌, ◌+◌, List, ap, sym, subst, take, get_or}
use Rattle.std.proofs.lemmas.List.{take_more}
use Rattle.disk_model.proofs.CrashSteps.{crash_after, now_after}
use Rattle.disk_model.proofs.Replays.{state_more}
use Rattle.disk_model.specs.FileStates.{FileState, after}
use Rattle.disk_model.specs.Formed.{formed}
use Rattle.disk_model.specs.Picks.{IsCrashOf, read_after, torn_after}
use Rattle.disk_model.specs.Traces.{bytes_at, file_state}
use Rattle.disk_model.specs.declared.traces.Entry.TheVariants.{Quiet}
use Rattle.disk_model.proofs.crashes.redo_all.Goals as goal

pub loop-i-preserved : goal.loop-i-preserved
loop-i-preserved c =
    let start = c.args.torn.now.items in
    let noted = c.args.noted.now in
    let w = c.args.written.now in
    let i = c.loop-i.i in
    let e = get_or noted i Quiet in
    let s : ℕ → FileState = file_state start (take i noted) w in
    let was = c.loop-i.invariant in
    let more : (f : ℕ) → file_state start (take (i + 1) noted) w f ≡ after w f e (s f) =
    state_more start (take i noted) (take (i + 1) noted) e w (take_more noted i Quiet c.loop-i-test.true) in
    record {
      file_rooms = record {
        len = c.redo.ensures.file_rooms.len ∙ was.file_rooms.len;
        rooms = λ k. c.redo.ensures.file_rooms.rooms k ∙ was.file_rooms.rooms k;
      };
      torn_rooms = record {
        len = c.redo.ensures.torn_rooms.len ∙ was.torn_rooms.len;
        rooms = λ k. c.redo.ensures.torn_rooms.rooms k ∙ was.torn_rooms.rooms k;
      };
      read = λ f.
          c.redo.ensures.read f ∙ ap (λ (l : List ℕ). read_after w f e l) (was.read f)
          ∙ sym (now_after w f e (s f))
          ∙ sym (ap (λ (t : FileState). t.now) (more f));
      torn = λ f.
          let made = c.redo.ensures.torn f ∙ ap (λ (l : List ℕ). torn_after c.args.pick w f e l (bytes_at c.loop-i.torn.items f)) (was.read f) in
          let step : IsCrashOf c.args.pick (after w f e (s f)) (torn_after c.args.pick w f e (s f).now (bytes_at c.loop-i.torn.items f)) =
          crash_after c.args.pick w f e (s f) (bytes_at c.loop-i.torn.items f) (formed start (take i noted) w f) (was.torn f) in
          let at_state = subst (λ (t : FileState). IsCrashOf c.args.pick t (torn_after c.args.pick w f e (s f).now (bytes_at c.loop-i.torn.items f))) (sym (more f)) step in
          subst (λ (l : List ℕ). IsCrashOf c.args.pick (file_state start (take (i + 1) noted) w f) l) (sym made) at_state;
    }
