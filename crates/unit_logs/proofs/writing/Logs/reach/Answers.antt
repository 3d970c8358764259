use Rattle.std.proofs.Common.{List, subst, inr}
use Rattle.log_frame.specs.Frame.{FrameView}
use Rattle.topic_log.specs.declared.logs.Log.{Log}
use Rattle.topic_log.specs.Growth.{LacksRoom}
use Rattle.topic_log.specs.Opened.{size_of}
use Rattle.unit_logs.specs.Room.{HaveRoom}
use Rattle.unit_logs.proofs.Extents.{have_room}
use Rattle.unit_logs.proofs.writing.Logs.reach.Goals as goal

pub returns-in-None-clause-limit : goal.returns-in-None-clause-limit
returns-in-None-clause-limit c _ =
    let logs = c.args.self.now in
    let changes = have_room c.as_slice-3.result.now c.as_slice-4.result.now c.reach_each-2.new.extents.items c.in_ok-reach_each-2.ensures.reaches in
    inr (inr (record {
      changelogs = subst (λ (ls : List Log). HaveRoom ls c.args.frames.now.stores) c.as_slice-3.ensures.value (subst (λ (fs : List (List FrameView)). HaveRoom c.as_slice-3.result.now fs) c.as_slice-4.ensures changes);
      lacks = subst (λ (fs : List FrameView). LacksRoom (size_of logs.marks) fs) c.from_ref.ensures.value c.in-None.ensures.limit;
    }))
