use Rattle.std.proofs.Common.{[], drop, ap, ◌∙◌}
use Rattle.room.specs.Frames.{over}
use Rattle.room.specs.Opened.{with_opens}
use Rattle.room.specs.Opens.{opened}
use Rattle.room.proofs.Levels.{columnless}
use Rattle.room.proofs.Innermost.{free_left, pushed_kept, pushed_opens}
use Rattle.room.proofs.opens.Opens.push.Goals as goal

pub push-requires-clause-free : goal.push-requires-clause-free
push-requires-clause-free c = free_left c.self.inside c.self.invariant c.args.self.now (c.self.view_is ∙ c.fill.ensures) c.requires.free

pub invariant_of-self : goal.invariant_of-self
invariant_of-self c =
    let left = free_left c.self.inside c.self.invariant c.args.self.now (c.self.view_is ∙ c.fill.ensures) c.requires.free in
    let plain = columnless c.args.frame c.requires.plain in
    let own = c.self.inside.own in
    pushed_kept c.self.inside c.self.invariant c.args.frame own c.push.new.frames c.push.new.depth left c.push.ensures.there c.push.ensures.less (plain.ends own) (plain.under own) c.self.invariant.own plain.no_row

pub returns : goal.returns
returns c =
    let left = free_left c.self.inside c.self.invariant c.args.self.now (c.self.view_is ∙ c.fill.ensures) c.requires.free in
    let plain = columnless c.args.frame c.requires.plain in
    let own = c.self.inside.own in
    let listed = drop own c.self.inside.keys in
    ap (λ s. record { opens = s; listed = listed })
    (pushed_opens c.self.inside c.self.invariant c.args.frame own c.push.new.frames c.push.new.depth left c.push.ensures.there c.push.ensures.less (plain.ends own) (plain.under own) c.self.invariant.own plain.no_row)
    ∙ ap (λ s. record { opens = s; listed = listed }) (plain.same [] c.self.inside.keys (opened c.self.inside).opens)
    ∙ ap (λ o. with_opens o (over [] c.args.frame o.opens)) (c.self.view_is ∙ c.fill.ensures)
