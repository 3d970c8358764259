use Rattle.std.proofs.Common.{◌∙◌}
use Rattle.samza_model.specs.Files.{changelog_file}
use Rattle.restore_trim.proofs.Growing.{open_has}
use Rattle.restore_trim.proofs.Logs.{still_held}
use Rattle.restore_trim.proofs.Openings.{frames_like, no_store_like, store_opens_like}
use Rattle.restore_trim.proofs.Tails.{reverts_open, reverts_opened}
use Rattle.restore_trim.proofs.reverting.open_store.Goals as goal

pub returns-in-Ok-take_back-clause-store : goal.returns-in-Ok-take_back-clause-store
returns-in-Ok-take_back-clause-store g c = λ told.
    let disk = g.D.Disk in
    let d0 = c.args.disk.now in
    let d1 = c.open_changes.new.disk in
    let d2 = c.take_back.new.disk in
    let file = changelog_file c.args.store in
    let s = c.in-Ok.ensures.stands told in
    let has = open_has (disk.reads d1) (disk.images d1) file c.in-Ok.log s.frames s.is_open in
    still_held (disk.reads d1) (disk.reads d0) (disk.reads d2) (disk.reads d2) (disk.images d2) (disk.images d2) file c.args.count c.take_back.new.log c.in-Ok-take_back.table
    (frames_like (disk.reads d1) (disk.reads d0) file s.frames has s.had) (c.in-Ok-take_back.ensures.store told) (λ o. o)

pub returns-in-Ok-take_back-clause-opens : goal.returns-in-Ok-take_back-clause-opens
returns-in-Ok-take_back-clause-opens g c = λ told.
    let disk = g.D.Disk in
    let d0 = c.args.disk.now in
    let d1 = c.open_changes.new.disk in
    let d2 = c.take_back.new.disk in
    let file = changelog_file c.args.store in
    let s = c.in-Ok.ensures.stands told in
    let has = open_has (disk.reads d1) (disk.images d1) file c.in-Ok.log s.frames s.is_open in
    store_opens_like (disk.reads d1) (disk.reads d0) c.args.store c.args.count s.frames has s.had (c.in-Ok-take_back.ensures.opens told)

pub returns-in-Ok-take_back-clause-any_moment : goal.returns-in-Ok-take_back-clause-any_moment
returns-in-Ok-take_back-clause-any_moment g c = λ told.
    let disk = g.D.Disk in
    let d0 = c.args.disk.now in
    let d1 = c.open_changes.new.disk in
    let d2 = c.take_back.new.disk in
    let law = (g.met.D.Disk g.world.𝓛 g.world.𝓜 g.world.𝓡 ((λ s x. x), (λ x. x), (λ x. x), λ x. x)) in
    reverts_opened disk.reads disk.call_number disk.images disk.images_since d0 d1 d2 (changelog_file c.args.store) c.args.count (λ k f le left. law.counts_now d1 k f told le left) (c.open_changes.ensures.any_moment told) (c.take_back.ensures.any_moment told)

pub returns-in-Err-take_back-clause-why : goal.returns-in-Err-take_back-clause-why
returns-in-Err-take_back-clause-why g c = λ told.
    let disk = g.D.Disk in
    let d0 = c.args.disk.now in
    let d1 = c.open_changes.new.disk in
    let d2 = c.take_back.new.disk in
    let file = changelog_file c.args.store in
    let s = c.in-Ok.ensures.stands told in
    let has = open_has (disk.reads d1) (disk.images d1) file c.in-Ok.log s.frames s.is_open in
    no_store_like (disk.reads d1) (disk.reads d0) c.args.store c.args.count s.frames has s.had c.in-Err-take_back.fault (c.in-Err-take_back.ensures.why told)

pub returns-in-Err-take_back-clause-any_moment : goal.returns-in-Err-take_back-clause-any_moment
returns-in-Err-take_back-clause-any_moment g c = λ told.
    let disk = g.D.Disk in
    let d0 = c.args.disk.now in
    let d1 = c.open_changes.new.disk in
    let d2 = c.take_back.new.disk in
    let law = (g.met.D.Disk g.world.𝓛 g.world.𝓜 g.world.𝓡 ((λ s x. x), (λ x. x), (λ x. x), λ x. x)) in
    reverts_opened disk.reads disk.call_number disk.images disk.images_since d0 d1 d2 (changelog_file c.args.store) c.args.count (λ k f le left. law.counts_now d1 k f told le left) (c.open_changes.ensures.any_moment told) (c.take_back.ensures.any_moment told)

pub returns-in-Err-clause-any_moment : goal.returns-in-Err-clause-any_moment
returns-in-Err-clause-any_moment g c = λ told.
    let disk = g.D.Disk in
    reverts_open disk.reads disk.call_number disk.images disk.images_since c.args.disk.now c.open_changes.new.disk (changelog_file c.args.store) c.args.count (c.open_changes.ensures.any_moment told)

pub returns-in-Err-take_back-clause-refused : goal.returns-in-Err-take_back-clause-refused
returns-in-Err-take_back-clause-refused g c = λ other told f ne. c.in-Err-take_back.ensures.refused other told f ne ∙ c.in-Ok.ensures.elsewhere told f ne
