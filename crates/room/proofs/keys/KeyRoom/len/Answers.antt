use Rattle.std.proofs.Common.{◌∙◌, ap, length}
use Rattle.room.proofs.Holding.{count_long}
use Rattle.room.proofs.keys.KeyRoom.len.Goals as goal

pub returns-clause-many : goal.returns-clause-many
returns-clause-many c = count_long c.self.inside c.self.invariant ∙ ap length c.self.view_is
