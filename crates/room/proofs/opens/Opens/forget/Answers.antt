use Rattle.std.proofs.Common.{ap, [], ◌∙◌}
use Rattle.room.proofs.Innermost.{cut_opened}
use Rattle.room.proofs.opens.Opens.forget.Goals as goal

pub returns : goal.returns
returns c = cut_opened c.self.inside c.self.invariant c.truncate.new.self c.truncate.ensures ∙ ap (λ o. record { opens = o.opens; listed = [] }) c.self.view_is
