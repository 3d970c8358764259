use Rattle.std.proofs.Common.{[], Ok, inl, inr, refl, ◌∙◌}
use Rattle.std.proofs.lemmas.Bool.{cases_eq}
use Rattle.std.specs.Prelude.{map, string_bytes}
use Rattle.container_texts.specs.declared.faults.RunFault.TheVariants.{NoMemory}
use Rattle.samza_container.proofs.Done.{ok_refused}
use Rattle.samza_container.proofs.Ending.{printed_as, printed_cause, printed_done}
use Rattle.samza_container.proofs.Exact.{not_stopped}
use Rattle.samza_container.proofs.Naming.{no_memory}
use Rattle.samza_container.proofs.top.samza_main.Goals as goal

pub returns-in-Ok-clause-well : goal.returns-in-Ok-clause-well
returns-in-Ok-clause-well g c = λ zero. record { report = c.in-Ok.report; done = c.in-Ok.ensures.done; printed = (c.put_report.ensures.whole zero).0 }

pub returns-in-Ok-clause-stopped : goal.returns-in-Ok-clause-stopped
returns-in-Ok-clause-stopped g c = λ zero seven.
    let h = g.H.Host in
    elim c.put_report.ensures.one_of [
      | inl is ↦ absurd (zero is)
      | inr (inl is) ↦ absurd (seven is)
      | inr (inr is) ↦ record {
        cause = NoMemory;
        task = record { 0 = 0 };
        inputs = [];
        status_is = is;
        is = no_memory h.tells (map string_bytes c.args.words.now) (h.folder c.args.host.now) (record { 0 = 0 }) [];
        done = λ told. ok_refused h.folder h.images h.images_since h.call_number c.args.host.now c.run.new.host (map string_bytes c.args.words.now) c.in-Ok.report (c.in-Ok.ensures.done told);
        printed = (c.put_report.ensures.none is).1;
      }
    ]

pub returns-in-Ok-clause-unheard : goal.returns-in-Ok-clause-unheard
returns-in-Ok-clause-unheard g c = λ seven.
    let h = g.H.Host in
    elim (c.put_report.ensures.cut seven) [
      | inl p ↦ inl (record { report = c.in-Ok.report; done = c.in-Ok.ensures.done; part = p.1; rose = p.0 }, p.2)
      | inr p ↦ inr (
        p.1,
        record {
          cause = NoMemory;
          task = record { 0 = 0 };
          inputs = [];
          is = no_memory h.tells (map string_bytes c.args.words.now) (h.folder c.args.host.now) (record { 0 = 0 }) [];
          done = λ told. ok_refused h.folder h.images h.images_since h.call_number c.args.host.now c.run.new.host (map string_bytes c.args.words.now) c.in-Ok.report (c.in-Ok.ensures.done told);
          part = p.2;
          rose = p.0;
        },
      )
    ]

pub returns-in-Ok-clause-complete : goal.returns-in-Ok-clause-complete
returns-in-Ok-clause-complete g c = λ told is can steady. elim c.put_report.ensures.one_of [
  | inl zero ↦ inl zero
  | inr (inl seven) ↦ elim (c.put_report.ensures.cut seven) [ inl p ↦ absurd (steady.of_out p.0) | inr p ↦ absurd (steady.of_err p.0) ]
  | inr (inr eight) ↦ inr eight
]

pub returns-in-Err-clause-stopped : goal.returns-in-Err-clause-stopped
returns-in-Err-clause-stopped g c = λ zero seven.
    let h = g.H.Host in
    let s = c.in-Err.stopped in
    let p = c.put_fault.ensures.printed in
    let result = c.put_fault.result in
    let words = map string_bytes c.args.words.now in
    let sink = g.E.Sink in
    record {
      cause = p.cause;
      task = s.task;
      inputs = s.inputs.items;
      status_is = p.status_is seven;
      is = printed_cause sink.tells (sink.received c.args.err.now) (sink.received c.put_fault.new.err) s.task s.inputs.items s.fault result p h.tells words (h.folder c.args.host.now) c.in-Err.ensures.cause;
      done = λ told. printed_done sink.tells (sink.received c.args.err.now) (sink.received c.put_fault.new.err) s.task s.inputs.items s.fault result p h.folder h.images h.images_since h.call_number c.args.host.now c.run.new.host words (c.in-Err.ensures.done told);
      printed = p.whole seven;
    }

pub returns-in-Err-clause-unheard : goal.returns-in-Err-clause-unheard
returns-in-Err-clause-unheard g c = λ seven.
    let h = g.H.Host in
    let s = c.in-Err.stopped in
    let p = c.put_fault.ensures.printed in
    let result = c.put_fault.result in
    let words = map string_bytes c.args.words.now in
    let sink = g.E.Sink in
    inr (
      refl,
      record {
        cause = p.cause;
        task = s.task;
        inputs = s.inputs.items;
        is = printed_cause sink.tells (sink.received c.args.err.now) (sink.received c.put_fault.new.err) s.task s.inputs.items s.fault result p h.tells words (h.folder c.args.host.now) c.in-Err.ensures.cause;
        done = λ told. printed_done sink.tells (sink.received c.args.err.now) (sink.received c.put_fault.new.err) s.task s.inputs.items s.fault result p h.folder h.images h.images_since h.call_number c.args.host.now c.run.new.host words (c.in-Err.ensures.done told);
        part = p.part;
        rose = c.put_fault.ensures.failed seven;
      },
    )

pub returns-in-Err-clause-complete : goal.returns-in-Err-clause-complete
returns-in-Err-clause-complete g c = λ told is can steady.
    let s = c.in-Err.stopped in
    let result = c.put_fault.result in
    let words = map string_bytes c.args.words.now in
    elim (cases_eq result 7) [
      | inl seven ↦ absurd (steady.of_err (c.put_fault.ensures.failed seven))
      | inr seven ↦ elim (cases_eq result 8) [
        | inl eight ↦ inr eight
        | inr eight ↦
            let same = printed_as g.E.Sink.tells (g.E.Sink.received c.args.err.now) (g.E.Sink.received c.put_fault.new.err) s.task s.inputs.items s.fault result c.put_fault.ensures.printed seven eight in
            absurd (not_stopped words (g.H.Host.folder c.args.host.now) s.fault is can (λ four. steady.of_host (c.in-Err.ensures.device four)) (λ memory. eight (same ∙ memory)) (c.in-Err.ensures.cause.why told))
      ]
    ]
