use Rattle.std.proofs.Common.{◌≡◌, ◌+◌, List, [], ◌∷◌, ◌++◌, get_or, subst, sym, ◌∙◌, arith}
use Rattle.std.proofs.lemmas.List.{get_or_read}
use Rattle.log_frame.specs.Frame.{FrameView}
use Rattle.topic_log.specs.declared.extents.Extent.{Extent}
use Rattle.topic_log.specs.declared.logs.Log.{Log}
use Rattle.topic_log.specs.Planning.{ReachesBy}
use Rattle.unit_logs.proofs.Extents.{ReachSoFar, reach_more}
use Rattle.unit_logs.proofs.reaching.reach_each.Goals as goal

pub loop-i-preserved : goal.loop-i-preserved
loop-i-preserved c =
    let logs = c.args.logs.now in
    let frames = c.args.frames.now in
    let i = c.loop-i.i in
    let extent = c.in-Some.extent in
    let log : (d : Log) → c.index-logs-i.result ≡ get_or logs i d = λ d. get_or_read logs i c.index-logs-i.result (omega arith) c.index-logs-i.is d in
    let these : c.as_slice.result.now ≡ get_or frames i [] = c.as_slice.ensures ∙ get_or_read frames i c.index-frames-i.result (omega arith) c.index-frames-i.is [] in
    let put : c.put.new.list.items ≡ c.loop-i.extents.items ++ extent ∷ [] = c.in_ok-put-in-Some.ensures in
    let here : (d : Log) → ReachesBy (get_or logs i d) (get_or frames i []) extent = λ d.
    subst (λ (l : Log). ReachesBy l (get_or frames i []) extent) (log d) (subst (λ (fs : List FrameView). ReachesBy c.index-logs-i.result fs extent) these c.in-Some.ensures.reaches) in
    subst (λ (l : List Extent). ReachSoFar logs frames (i + 1) l) (sym put) (reach_more logs frames i c.loop-i.extents.items extent c.loop-i.invariant here)
