use Rattle.std.proofs.Common.{ℕ, ◌≡◌, ◌<◌, List, ◌++◌, ap, sym, ◌∙◌, subst, arith}
use Rattle.samza_model.specs.declared.messages.Record.{Record}
use Rattle.samza_model.specs.Files.{Image, changelog_file}
use Rattle.samza_model.specs.Limits.{frame_batch}
use Rattle.samza_model.specs.Logs.{joined}
use Rattle.disk_model.specs.Images.{LeavesOnly}
use Rattle.kv_store.specs.Tracked.{records_of}
use Rattle.log_frame.specs.Cuts.{IsCut}
use Rattle.log_frame.specs.Frame.{FrameView, AreFrames}
use Rattle.topic_log.specs.declared.logs.Log.{Log}
use Rattle.topic_log.specs.Opened.{count_of, size_of, Appends}
use Rattle.topic_log.specs.Growth.{HasRoom, LacksRoom}
use Rattle.changelog.proofs.Laws.{records_of-fold}
use Rattle.restore_trim.specs.Standing.{HoldsStore, IsOpenAt}
use Rattle.restore_trim.proofs.Openings.{written_fault}
use Rattle.restore_trim.proofs.Taking.{counted_holds, counted_opens, lacks_room, taken_back, taken_opens}
use Rattle.restore_trim.proofs.Telling.{no_device}
use Rattle.restore_trim.proofs.Tails.{reverts_append, reverts_read}
use Rattle.restore_trim.proofs.reverting.take_back.Goals as goal

pub returns-then-len-count-clause-store : goal.returns-then-len-count-clause-store
returns-then-len-count-clause-store g c = λ told.
    let disk = g.D.Disk in
    let d0 = c.args.disk.now in
    let d1 = c.fold.new.disk in
    let store = c.args.store in
    let count = c.args.count in
    let log = c.args.log.now in
    let stands = c.requires.stands told in
    let frames = stands.0 in
    let o = stands.1 in
    let fold = c.in-Ok.ensures.folded told frames o.is_open in
    let same = c.in-Ok.ensures.ok.1 in
    let all : count_of log ≡ count = ap count_of (sym same) ∙ sym c.len.ensures.count ∙ c.if-len-count.true in
    subst (λ (l : Log). HoldsStore (disk.reads d0) (disk.reads d1) (disk.images d1) (changelog_file store) count l c.in-Ok.folded.0) (sym same)
    (counted_holds (disk.reads d0) (disk.images d0) store count log frames o c.in-Ok.folded.0 c.in-Ok.folded.1.items fold all (disk.reads d1) (disk.images d1) log
    (record { file_is = o.file_is; sound = o.sound; is_open = c.fold.ensures.others told log frames o.is_open }))

pub returns-then-len-count-clause-opens : goal.returns-then-len-count-clause-opens
returns-then-len-count-clause-opens g c = λ told.
    let disk = g.D.Disk in
    let d0 = c.args.disk.now in
    let d1 = c.fold.new.disk in
    let store = c.args.store in
    let count = c.args.count in
    let log = c.args.log.now in
    let stands = c.requires.stands told in
    let frames = stands.0 in
    let o = stands.1 in
    let fold = c.in-Ok.ensures.folded told frames o.is_open in
    let same = c.in-Ok.ensures.ok.1 in
    let all : count_of log ≡ count = ap count_of (sym same) ∙ sym c.len.ensures.count ∙ c.if-len-count.true in
    counted_opens (disk.reads d0) (disk.images d0) store count log frames o c.in-Ok.folded.0 c.in-Ok.folded.1.items fold all

pub returns-then-len-count-clause-any_moment : goal.returns-then-len-count-clause-any_moment
returns-then-len-count-clause-any_moment g c = λ told.
    let disk = g.D.Disk in
    let d0 = c.args.disk.now in
    let d1 = c.fold.new.disk in
    reverts_read disk.reads disk.call_number disk.images disk.images_since d0 d1 (changelog_file c.args.store) c.args.count (c.fold.ensures.rests told)

pub returns-in-Err-clause-any_moment : goal.returns-in-Err-clause-any_moment
returns-in-Err-clause-any_moment g c = λ told.
    let disk = g.D.Disk in
    let d0 = c.args.disk.now in
    let d1 = c.fold.new.disk in
    reverts_read disk.reads disk.call_number disk.images disk.images_since d0 d1 (changelog_file c.args.store) c.args.count (c.fold.ensures.rests told)

pub returns-in-Err-revert_frames-clause-any_moment : goal.returns-in-Err-revert_frames-clause-any_moment
returns-in-Err-revert_frames-clause-any_moment g c = λ told.
    let disk = g.D.Disk in
    let d0 = c.args.disk.now in
    let d1 = c.fold.new.disk in
    reverts_read disk.reads disk.call_number disk.images disk.images_since d0 d1 (changelog_file c.args.store) c.args.count (c.fold.ensures.rests told)

pub returns-in-Ok-write-clause-store : goal.returns-in-Ok-write-clause-store
returns-in-Ok-write-clause-store g c = λ told.
    let disk = g.D.Disk in
    let d0 = c.args.disk.now in
    let d1 = c.fold.new.disk in
    let store = c.args.store in
    let count = c.args.count in
    let log = c.args.log.now in
    let stands = c.requires.stands told in
    let frames = stands.0 in
    let o = stands.1 in
    let fold = c.in-Ok.ensures.folded told frames o.is_open in
    let same = c.in-Ok.ensures.ok.1 in
    let d2 = c.write.new.disk in
    let cut = c.in-Ok-revert_frames.ensures in
    let lists = cut.0 in
    let is_cut = subst (λ (ks : List (List ℕ)). IsCut frame_batch (records_of c.in-Ok.folded.0 ks) lists) c.deref.ensures.value cut.1 in
    let are = subst (λ (fs : List FrameView). AreFrames fs lists) (sym c.deref-2.ensures.value) cut.2 in
    let o1 : IsOpenAt (disk.reads d1) (disk.images d1) (changelog_file store) c.fold.new.self frames =
    subst (λ (l : Log). IsOpenAt (disk.reads d1) (disk.images d1) (changelog_file store) l frames) (sym same) (record { file_is = o.file_is; sound = o.sound; is_open = c.fold.ensures.others told log frames o.is_open }) in
    let now : IsOpenAt (disk.reads d2) (disk.images d2) (changelog_file store) c.write.new.self (frames ++ lists) =
    record { file_is = c.write.ensures.file ∙ o1.file_is; sound = c.in-Ok-write.ensures.sound; is_open = c.in-Ok-write.ensures.appended told frames lists o1.is_open are } in
    taken_back (disk.reads d0) (disk.images d0) store count log frames o c.in-Ok.folded.0 c.in-Ok.folded.1.items fold c.requires.enough lists is_cut (disk.reads d2) (disk.images d2) c.write.new.self now

pub returns-in-Ok-write-clause-opens : goal.returns-in-Ok-write-clause-opens
returns-in-Ok-write-clause-opens g c = λ told.
    let disk = g.D.Disk in
    let d0 = c.args.disk.now in
    let d1 = c.fold.new.disk in
    let store = c.args.store in
    let count = c.args.count in
    let log = c.args.log.now in
    let stands = c.requires.stands told in
    let frames = stands.0 in
    let o = stands.1 in
    let fold = c.in-Ok.ensures.folded told frames o.is_open in
    let same = c.in-Ok.ensures.ok.1 in
    let d2 = c.write.new.disk in
    let cut = c.in-Ok-revert_frames.ensures in
    let lists = cut.0 in
    let is_cut = subst (λ (ks : List (List ℕ)). IsCut frame_batch (records_of c.in-Ok.folded.0 ks) lists) c.deref.ensures.value cut.1 in
    let are = subst (λ (fs : List FrameView). AreFrames fs lists) (sym c.deref-2.ensures.value) cut.2 in
    let o1 : IsOpenAt (disk.reads d1) (disk.images d1) (changelog_file store) c.fold.new.self frames =
    subst (λ (l : Log). IsOpenAt (disk.reads d1) (disk.images d1) (changelog_file store) l frames) (sym same) (record { file_is = o.file_is; sound = o.sound; is_open = c.fold.ensures.others told log frames o.is_open }) in
    let room = subst (λ (l : Log). HasRoom (size_of l) c.deref-2.result.now) same c.in-Ok-write.ensures.ok.1 in
    taken_opens (disk.reads d0) (disk.images d0) store count log frames o c.in-Ok.folded.0 c.in-Ok.folded.1.items fold c.requires.enough lists is_cut c.deref-2.result.now are room

pub returns-in-Ok-write-clause-any_moment : goal.returns-in-Ok-write-clause-any_moment
returns-in-Ok-write-clause-any_moment g c = λ told.
    let disk = g.D.Disk in
    let d0 = c.args.disk.now in
    let d1 = c.fold.new.disk in
    let store = c.args.store in
    let count = c.args.count in
    let log = c.args.log.now in
    let stands = c.requires.stands told in
    let frames = stands.0 in
    let o = stands.1 in
    let fold = c.in-Ok.ensures.folded told frames o.is_open in
    let same = c.in-Ok.ensures.ok.1 in
    let d2 = c.write.new.disk in
    let cut = c.in-Ok-revert_frames.ensures in
    let lists = cut.0 in
    let is_cut = subst (λ (ks : List (List ℕ)). IsCut frame_batch (records_of c.in-Ok.folded.0 ks) lists) c.deref.ensures.value cut.1 in
    let are = subst (λ (fs : List FrameView). AreFrames fs lists) (sym c.deref-2.ensures.value) cut.2 in
    let o1 : IsOpenAt (disk.reads d1) (disk.images d1) (changelog_file store) c.fold.new.self frames =
    subst (λ (l : Log). IsOpenAt (disk.reads d1) (disk.images d1) (changelog_file store) l frames) (sym same) (record { file_is = o.file_is; sound = o.sound; is_open = c.fold.ensures.others told log frames o.is_open }) in
    let law = (g.met.D.Disk g.world.𝓛 g.world.𝓜 g.world.𝓡 ((λ s x. x), (λ x. x), (λ x. x), λ x. x)) in
    let real = subst (λ (rs : List Record). IsCut frame_batch rs lists) (records_of-fold count (joined frames) c.in-Ok.folded.0 c.in-Ok.folded.1.items fold) is_cut in
    reverts_append disk.reads disk.call_number disk.images disk.images_since d0 d1 d2 (changelog_file store) count c.fold.new.self frames lists (λ k f le left. law.counts_now d1 k f told le left) real o1 (c.fold.ensures.rests told)
    (subst (λ (f : ℕ). LeavesOnly disk.call_number disk.images disk.images_since d1 d2 (Appends f frames lists)) o1.file_is (c.write.ensures.any_moment told frames lists o1.is_open are))

pub returns-in-Err-write-clause-any_moment : goal.returns-in-Err-write-clause-any_moment
returns-in-Err-write-clause-any_moment g c = λ told.
    let disk = g.D.Disk in
    let d0 = c.args.disk.now in
    let d1 = c.fold.new.disk in
    let store = c.args.store in
    let count = c.args.count in
    let log = c.args.log.now in
    let stands = c.requires.stands told in
    let frames = stands.0 in
    let o = stands.1 in
    let fold = c.in-Ok.ensures.folded told frames o.is_open in
    let same = c.in-Ok.ensures.ok.1 in
    let d2 = c.write.new.disk in
    let cut = c.in-Ok-revert_frames.ensures in
    let lists = cut.0 in
    let is_cut = subst (λ (ks : List (List ℕ)). IsCut frame_batch (records_of c.in-Ok.folded.0 ks) lists) c.deref.ensures.value cut.1 in
    let are = subst (λ (fs : List FrameView). AreFrames fs lists) (sym c.deref-2.ensures.value) cut.2 in
    let o1 : IsOpenAt (disk.reads d1) (disk.images d1) (changelog_file store) c.fold.new.self frames =
    subst (λ (l : Log). IsOpenAt (disk.reads d1) (disk.images d1) (changelog_file store) l frames) (sym same) (record { file_is = o.file_is; sound = o.sound; is_open = c.fold.ensures.others told log frames o.is_open }) in
    let law = (g.met.D.Disk g.world.𝓛 g.world.𝓜 g.world.𝓡 ((λ s x. x), (λ x. x), (λ x. x), λ x. x)) in
    let real = subst (λ (rs : List Record). IsCut frame_batch rs lists) (records_of-fold count (joined frames) c.in-Ok.folded.0 c.in-Ok.folded.1.items fold) is_cut in
    reverts_append disk.reads disk.call_number disk.images disk.images_since d0 d1 d2 (changelog_file store) count c.fold.new.self frames lists (λ k f le left. law.counts_now d1 k f told le left) real o1 (c.fold.ensures.rests told)
    (subst (λ (f : ℕ). LeavesOnly disk.call_number disk.images disk.images_since d1 d2 (Appends f frames lists)) o1.file_is (c.write.ensures.any_moment told frames lists o1.is_open are))

pub returns-in-Err-write-clause-why : goal.returns-in-Err-write-clause-why
returns-in-Err-write-clause-why g c = λ told.
    let disk = g.D.Disk in
    let d0 = c.args.disk.now in
    let d1 = c.fold.new.disk in
    let store = c.args.store in
    let count = c.args.count in
    let log = c.args.log.now in
    let stands = c.requires.stands told in
    let frames = stands.0 in
    let o = stands.1 in
    let fold = c.in-Ok.ensures.folded told frames o.is_open in
    let same = c.in-Ok.ensures.ok.1 in
    let d2 = c.write.new.disk in
    let cut = c.in-Ok-revert_frames.ensures in
    let lists = cut.0 in
    let is_cut = subst (λ (ks : List (List ℕ)). IsCut frame_batch (records_of c.in-Ok.folded.0 ks) lists) c.deref.ensures.value cut.1 in
    let are = subst (λ (fs : List FrameView). AreFrames fs lists) (sym c.deref-2.ensures.value) cut.2 in
    let o1 : IsOpenAt (disk.reads d1) (disk.images d1) (changelog_file store) c.fold.new.self frames =
    subst (λ (l : Log). IsOpenAt (disk.reads d1) (disk.images d1) (changelog_file store) l frames) (sym same) (record { file_is = o.file_is; sound = o.sound; is_open = c.fold.ensures.others told log frames o.is_open }) in
    let more : count < count_of log = omega (arith, c.requires.enough, c.len.ensures.count, ap count_of same, c.if-len-count.false) in
    written_fault (disk.reads d0) store count c.in-Err-write.fault c.opening-in-Err-write.result c.opening-in-Err-write.ensures c.in-Err-write.ensures.never.0 (λ e.
    lacks_room (disk.reads d0) (disk.images d0) store count log frames o c.in-Ok.folded.0 c.in-Ok.folded.1.items fold c.requires.enough lists is_cut c.deref-2.result.now are more
    (subst (λ (l : Log). LacksRoom (size_of l) c.deref-2.result.now) same (c.in-Err-write.ensures.limit.0 e).1))

pub returns-in-Err-clause-refused : goal.returns-in-Err-clause-refused
returns-in-Err-clause-refused g c = λ other told f ne. ap (λ (i : Image). i f) (c.fold.ensures.reads told)

pub returns-in-Err-revert_frames-clause-refused : goal.returns-in-Err-revert_frames-clause-refused
returns-in-Err-revert_frames-clause-refused g c = λ other told f ne. ap (λ (i : Image). i f) (c.fold.ensures.reads told)

pub returns-in-Err-write-clause-refused : goal.returns-in-Err-write-clause-refused
returns-in-Err-write-clause-refused g c = λ other told f ne.
    let disk = g.D.Disk in
    let same = (c.in-Err-write.ensures.refused (no_device (changelog_file c.args.store) c.in-Err-write.fault c.opening-in-Err-write.result c.opening-in-Err-write.ensures other)).1 in
    ap (λ d. disk.reads d f) same ∙ ap (λ (i : Image). i f) (c.fold.ensures.reads told)
