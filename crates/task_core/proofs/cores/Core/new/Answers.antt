use Rattle.std.proofs.Common.{◌∙◌, ap, map, refl}
use Rattle.samza_model.specs.Journals.{Trimmed}
use Rattle.callback_manager.specs.Callbacks.{CallbacksValue}
use Rattle.window_timer.specs.declared.times.Times.{Times}
use Rattle.core_steps.specs.Lanes.{begun_lane}
use Rattle.core_steps.proofs.Laws.{begins_core, begins_sized, begins_standing}
use Rattle.task_core.proofs.cores.Core.new.Goals as goal

pub invariant_of-result : goal.invariant_of-result
invariant_of-result c =
    let b = c.in_ok-lanes.ensures in
    begins_core _ c.requires.runnable c.requires.starts c.requires.ends c.requires.within c.requires.few
    (b.lanes ∙ ap (map (begun_lane c.args.setup.span)) c.as_slice.ensures.value) b.callbacks refl
    (begins_sized c.args.setup c.args.tables c.in_ok-lanes.field-0.holdings c.requires.tables b.contents b.unsent.outputs)
    (record { commit = ap (λ (t : Times). t.commit.interval) c.new-times.ensures; window = ap (λ (t : Times). t.window.interval) c.new-times.ensures })

pub returns-clause-stands : goal.returns-clause-stands
returns-clause-stands c =
    λ o state.
    let b = c.in_ok-lanes.ensures in
    begins_standing _ o c.args.tables
    (record {
      next = ap (λ (k : CallbacksValue). k.next) b.callbacks;
      none = ap (λ (k : CallbacksValue). k.flights) b.callbacks;
      sound = refl;
      closed = refl;
      since = ap (λ (t : Trimmed). t.since) c.new.ensures;
      kept = ap (λ (t : Trimmed). t.kept) c.new.ensures;
      unasked = refl;
    })
    (b.lanes ∙ ap (map (begun_lane c.args.setup.span)) c.as_slice.ensures.value) b.contents b.clean b.unsent state
