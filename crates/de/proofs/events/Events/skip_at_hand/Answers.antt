use Rattle.std.proofs.Common.{◌≡◌, ◌+◌, ◌*◌, false, is_some, Some, None, Option, Ok, refl, sym, ap, ap₂, ◌∙◌, subst, arith}
use Rattle.de.specs.Steps.{Body}
use Rattle.de.specs.Calls.{Skip}
use Rattle.de.specs.Rows.{staged, counted_by}
use Rattle.de.specs.Held.{body_of}
use Rattle.de.proofs.AtHand.{taken_pass}
use Rattle.de.proofs.events.Events.skip_at_hand.Goals as goal

none_is : {A : Type 0} (o : Option A) → is_some o ≡ false → o ≡ None
none_is (Some a) e = absurd (cc)
none_is None e = refl

pub returns : goal.returns
returns g c =
    let b = body_of g.R.DeRead.view c.args.self.now in
    let (k, s) = c.plain_cells-cells.result in
    let plain = c.plain_cells-cells.ensures in
    let n = c.in_ok-columns.columns in
    let events = 2 + 2 * n in
    let takes = c.if-not-pass.ensures.takes in
    let few = plain.few in
    let all = c.if-cells-columns.false in
    let a : Body = record { reader = g.R.DeRead.view c.pass.new.self.read; end = c.pass.new.self.end; opens = b.opens; unread = b.unread; events = b.events } in
    subst (λ x. Skip g.R.DeRead.lends b (Ok events) x)
    (sym (c.count.ensures ∙ ap (λ o. staged a o.opens (counted_by events a.events)) c.pass_row.ensures))
    (taken_pass g.R.DeRead.lends b n (none_is b.unread (sym c.if-is_some.ensures)) (sym c.in_ok-columns.ensures.told) c.in_ok-columns.ensures.few
    c.ahead.result.now (g.R.DeRead.reach c.args.self.now.bunser.read) c.ahead.ensures k s plain.plain a (omega (arith, few, all)) (sym c.if-not-pass.ensures.tells)
    (ap₂ (λ v e. record { reader = v; end = e; opens = b.opens; unread = b.unread; events = b.events }) takes.reads takes.same))
