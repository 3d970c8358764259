use Rattle.topic_log.proofs.Logged.{appends_still}
use Rattle.topic_log.proofs.logs.Log.append_all.Goals as goal

pub returns-then-self-clause-any_moment : goal.returns-then-self-clause-any_moment
returns-then-self-clause-any_moment g c = λ told before lists opened are.
    let disk = g.D.Disk in
    let old = c.args.disk.now in
    let law = (g.met.D.Disk g.world.𝓛 g.world.𝓜 g.world.𝓡 ((λ s x. x), (λ x. x), (λ x. x), λ x. x)) in
    appends_still disk.reads disk.call_number disk.images disk.images_since old c.args.self.now before lists (λ f left. law.only_now old f told left) opened

pub returns-in-None-clause-any_moment : goal.returns-in-None-clause-any_moment
returns-in-None-clause-any_moment g c = λ told before lists opened are.
    let disk = g.D.Disk in
    let old = c.args.disk.now in
    let law = (g.met.D.Disk g.world.𝓛 g.world.𝓜 g.world.𝓡 ((λ s x. x), (λ x. x), (λ x. x), λ x. x)) in
    appends_still disk.reads disk.call_number disk.images disk.images_since old c.args.self.now before lists (λ f left. law.only_now old f told left) opened
