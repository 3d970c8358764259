use Rattle.std.proofs.Common.{ℕ, ◌≡◌, ◌∙◌, ◌==◌, Bool, [], if◌then◌else◌, ap, arith, inl, inr, refl}
use Rattle.std.proofs.lemmas.Bool.{cases_Bool}
use Rattle.disk_model.proofs.Steps.{joins_trace, keeps_rest, keeps_same}
use Rattle.disk_model.proofs.Replays.{if_elsewhere, if_here}
use Rattle.disk_model.specs.FileStates.{FileState, after, at_rest}
use Rattle.disk_model.specs.Formed.{formed}
use Rattle.disk_model.specs.TraceWords.{AtFile, now_of}
use Rattle.disk_model.specs.declared.traces.Entry.{Entry}
use Rattle.disk_model.specs.declared.traces.Entry.TheVariants.{Quiet, Synced}
use Rattle.disk_model.proofs.memory_disk.MemDiskDisk.sync.Goals as goal

pub returns-clause-time : goal.returns-clause-time
returns-clause-time c =
    let old = c.args.self.now in
    let new = c.note-synced.new.self in
    let calls = old.tally.calls in
    joins_trace calls c.answer.new.self.calls old.trace new (omega (arith, c.answer.ensures.calls, c.begin-failing.ensures.calls)) (omega (arith, c.answer.ensures.calls, c.begin-failing.ensures.calls)) old.counted c.note-synced.ensures.count c.note-synced.ensures.past

pub returns-clause-crash : goal.returns-clause-crash
returns-clause-crash c =
    let old = c.args.self.now.trace in
    let new = c.note-synced.new.self in
    let file = c.args.file in
    elim (cases_Bool c.note-synced.result) [
      | inl noted ↦ elim (cases_Bool c.begin-failing.result) [
        | inl fails ↦
            let quiet : c.sync_entry.result ≡ Quiet = c.sync_entry.ensures ∙ ap (λ (b : Bool). if b then Quiet else Synced file) fails in
            keeps_same (now_of old) (now_of new) (λ f. c.note-synced.ensures.noted noted f ∙ ap (λ (e : Entry). after [] f e (now_of old f)) quiet)
        | inr fine ↦
            let synced : c.sync_entry.result ≡ Synced file = c.sync_entry.ensures ∙ ap (λ (b : Bool). if b then Quiet else Synced file) fine in
            let each : (f : ℕ) → now_of new f ≡ (if file == f then at_rest (now_of old f).now else now_of old f) =
            λ f. c.note-synced.ensures.noted noted f ∙ ap (λ (e : Entry). after [] f e (now_of old f)) synced in
            let step : AtFile file (λ (s : FileState). at_rest s.now) (now_of old) (now_of new) = record {
              here = each file ∙ if_here file file _ _ refl;
              elsewhere = λ f ne. each f ∙ if_elsewhere file f _ _ ne;
            } in
            keeps_rest file (now_of old) (now_of new) step (formed old.start.items old.noted.items old.written.items file)
      ]
      | inr spared ↦ keeps_same (now_of old) (now_of new) (c.note-synced.ensures.spared spared)
    ]
