use Rattle.std.proofs.Common.{◌-◌, ◌≤◌, [], ◌∷◌, drop, length, ap, ap₂, ◌∙◌, refl, arith, drop_of_length-le}
use Rattle.std.proofs.lemmas.List.{take_all}
use lib.ListN.{length-drop}
use Rattle.room.specs.Open.{rows}
use Rattle.room.specs.declared.frame.Frame.TheVariants.{Rows}
use Rattle.room.specs.Opens.{opens_in, count_of}
use Rattle.room.proofs.Innermost.{free_left, pushed_kept, pushed_opens}
use Rattle.room.proofs.opens.Opens.push_rows.Goals as goal

pub push-requires-clause-free : goal.push-requires-clause-free
push-requires-clause-free c = free_left c.self.inside c.self.invariant c.args.self.now (c.self.view_is ∙ c.fill.ensures) c.requires

pub invariant_of-self : goal.invariant_of-self
invariant_of-self c =
    let left = free_left c.self.inside c.self.invariant c.args.self.now (c.self.view_is ∙ c.fill.ensures) c.requires in
    let own = c.self.invariant.own in
    let all = c.len-own.ensures.many in
    pushed_kept c.self.inside c.self.invariant (Rows (record { first = c.self.inside.own; len = c.len-own.result - c.self.inside.own }) c.args.n) c.len-own.result c.push.new.frames c.push.new.depth left c.push.ensures.there c.push.ensures.less
    (omega arith) refl (omega arith) refl

pub returns : goal.returns
returns c =
    let left = free_left c.self.inside c.self.invariant c.args.self.now (c.self.view_is ∙ c.fill.ensures) c.requires in
    let own = c.self.invariant.own in
    let all = c.len-own.ensures.many in
    let listed = drop c.self.inside.own c.self.inside.keys in
    let long : length listed ≤ c.len-own.result - c.self.inside.own = rw length-drop (omega arith) in
    let opens =
    pushed_opens c.self.inside c.self.invariant (Rows (record { first = c.self.inside.own; len = c.len-own.result - c.self.inside.own }) c.args.n) c.len-own.result c.push.new.frames c.push.new.depth left c.push.ensures.there c.push.ensures.less
    (omega arith) refl (omega arith) refl in
    ap₂ (λ s l. record { opens = s; listed = l }) (opens ∙ ap (λ l. rows l c.args.n ∷ opens_in c.self.inside.keys c.self.inside.top c.self.inside.frames (count_of c.self.inside)) (take_all (c.len-own.result - c.self.inside.own) listed long)) (drop_of_length-le c.self.inside.keys (omega arith))
    ∙ ap (λ o. record { opens = rows o.listed c.args.n ∷ o.opens; listed = [] }) (c.self.view_is ∙ c.fill.ensures)
