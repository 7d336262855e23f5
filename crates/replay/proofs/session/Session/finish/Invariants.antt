use Rattle.replay.proofs.session.Session.finish.Given as goal

abbrev pub decreases-loop-info : goal.decreases-loop-info
decreases-loop-info g l = goal.left-loop-info g l
