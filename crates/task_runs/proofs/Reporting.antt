-- A report that tells of a unit tells of the events by which it stands.
use Rattle.std.proofs.Common.{ℕ, ◌≡◌, ◌<◌, ◌-◌, List, [], ◌∷◌, length, length-append, get_or, sym, ◌∙◌, ap, subst, arith}
use Rattle.samza_model.specs.declared.setups.Setup.{Setup}
use Rattle.samza_model.specs.declared.events.Event.{Event}
use Rattle.samza_model.specs.Content.{Content, State, sent_at}
use Rattle.samza_model.specs.Events.{older, state_after}
use Rattle.output_log.specs.Outputs.{sent_count}
use Rattle.core_steps.specs.Cores.{IsHeld}
use Rattle.core_steps.specs.Held.{Held}
use Rattle.task_core.specs.Seen.{sent_of}
use Rattle.container_texts.specs.declared.reports.TaskReport.{TaskReport}
use Rattle.container_texts.specs.UnitReports.{input_report, store_report, AreRows, ReportsTask}

-- the same values
pub tells_as : (s s' : Setup) (id completed completed' next next' end end' : ℕ) (stores stores' : List Content) (sent sent' : ℕ → ℕ) (r : TaskReport)
    → s ≡ s' → completed ≡ completed' → next ≡ next' → end ≡ end' → stores ≡ stores' → ((j : ℕ) → j < length s'.outputs → sent j ≡ sent' j)
    → ReportsTask s id completed next end stores sent r → ReportsTask s' id completed' next' end' stores' sent' r
tells_as s s' id completed completed' next next' end end' stores stores' sent sent' r same b c d e f tells =
    let t : ReportsTask s' id completed next end stores sent r = subst (λ x. ReportsTask x id completed next end stores sent r) same tells in
    record {
      task_is = t.task_is;
      checkpoint_is = t.checkpoint_is;
      completed_is = t.completed_is ∙ b;
      inputs_are = t.inputs_are ∙ ap (λ n. input_report s' n end ∷ []) c ∙ ap (λ n. input_report s' next' n ∷ []) d;
      stores_are = subst (λ x. AreRows (length s'.stores) (store_report s' x) r.stores) e t.stores_are;
      outputs_are = record {
        as_many = t.outputs_are.as_many;
        each = λ j x lt. t.outputs_are.each j x lt ∙ ap (λ n. record { name = get_or s'.outputs j []; sent = n }) (f j lt);
      };
    }

-- an output was sent what the events sent
pub sent_by_events : (state : State) (h : List Event) (a : ℕ) (held : Held) → IsHeld state h a held → (j : ℕ) → j < length held.unsent
    → sent_count (sent_of held) j ≡ length (sent_at (state_after state h).sent j)
sent_by_events state h a held is j lt =
    let all = ap length (is.sent j) in
    omega (arith, is.cleared j lt, all, length-append (sent_at (state_after state (older a h)).sent j) (sent_at held.unsent j))
