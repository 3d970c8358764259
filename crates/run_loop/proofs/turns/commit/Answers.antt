use Rattle.std.proofs.Common.{◌≡◌, ◌≢◌, ◌∙◌, inl, inr, length, Some, ap, sym, subst}
use Rattle.unit_logs.specs.declared.faults.CommitFault.TheVariants.{Device, Limit, NoMemory}
use Rattle.event_unit.specs.Committing.{CommitPasses}
use Rattle.run_loop.specs.Runs.{IsGoing}
use Rattle.run_loop.specs.Stops.{IsShort, WhyStopped}
use Rattle.run_loop.specs.declared.stops.Stop.{Stop}
use Rattle.run_loop.proofs.Standing.{marked}
use Rattle.run_loop.proofs.turns.commit.Goals as goal

memory_alone : NoMemory ≢ Device
memory_alone is = absurd cc

limit_alone : Limit ≢ Device
limit_alone is = absurd cc

pub returns-in-Ok-clause-marked : goal.returns-in-Ok-clause-marked
returns-in-Ok-clause-marked g c =
    let disk = g.D.Disk in
    let m = c.in-Ok.ensures.marked in
    marked g.J.Job.meaning disk.tells disk.reads disk.call_number disk.images disk.images_since c.args.unit.now c.commit.new.self c.requires.standing m.0 c.requires.going m.2

pub returns-in-Err-clause-stop : goal.returns-in-Err-clause-stop
returns-in-Err-clause-stop g c =
    let disk = g.D.Disk in
    let old = c.args.unit.now in
    let new = c.commit.new.self in
    let err = c.in-Err.ensures in
    elim (err.others c.requires.free) [
      | inl memory ↦
          let same : new ≡ old = err.refused (λ e. memory_alone (sym memory ∙ e)) in
          subst (λ (s : Stop). IsShort s × WhyStopped disk.tells disk.reads disk.fault_count old new s) (sym (c.stop_by.ensures.memory memory))
          (tt, subst (λ u. IsGoing u) (sym same) c.requires.going)
      | inr rest ↦ elim rest [
        | inl limit ↦
            let same : new ≡ old = err.refused (λ e. limit_alone (sym limit ∙ e)) in
            subst (λ (s : Stop). IsShort s × WhyStopped disk.tells disk.reads disk.fault_count old new s) (sym (c.stop_by.ensures.limit limit)) (
              tt,
              record {
                going = subst (λ u. IsGoing u) (sym same) c.requires.going;
                full = λ told. subst (λ u. CommitPasses u (disk.reads u.disk)) (sym same) (err.limit limit told);
              },
            )
        | inr device ↦
            let b = err.begun device in
            subst (λ (s : Stop). IsShort s × WhyStopped disk.tells disk.reads disk.fault_count old new s) (sym (c.stop_by.ensures.device device)) (
              tt,
              record {
                rose = err.device device;
                begun = b.begun.0 ∙ ap (λ core. Some (length core.since)) (sym b.core);
                sound = ap (λ core. core.failed) b.core ∙ c.requires.going.sound;
              },
            )
      ]
    ]
