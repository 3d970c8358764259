use Rattle.std.proofs.Common.{List, ◌∷◌, [], subst, sym}
use Rattle.log_frame.specs.Frame.{FrameView, AreFrames}
use Rattle.topic_log.proofs.logs.Log.append.Goals as goal

pub returns-clause-any_moment : goal.returns-clause-any_moment
returns-clause-any_moment g c = λ told before records opened is.
    c.append_all.ensures.any_moment told before (records ∷ []) opened (subst (λ (l : List FrameView). AreFrames l (records ∷ [])) (sym c.from_ref.ensures.value) (is, tt))
