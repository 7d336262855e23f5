use Rattle.std.proofs.Common.{◌∙◌, ◌+◌, ap, sym, drop, ◌∷◌, arith}
use Rattle.room.specs.Open.{copied}
use Rattle.room.proofs.Holding.{slot_there, found, found_within}
use Rattle.room.proofs.keys.KeyRoom.name.Goals as goal

pub bounds-slots-index : goal.bounds-slots-index
bounds-slots-index c = slot_there c.self.inside c.self.invariant _ c.self.view_is c.args.index c.requires

pub offset_bounds-slots-index : goal.offset_bounds-slots-index
offset_bounds-slots-index c =
    let there = slot_there c.self.inside c.self.invariant _ c.self.view_is c.args.index c.requires in
    omega arith

pub held-requires : goal.held-requires
held-requires c = found_within c.self.inside c.self.invariant _ c.self.view_is c.args.index c.requires _ c.in-Held.is

pub returns-in-Lent : goal.returns-in-Lent
returns-in-Lent c = found c.self.inside c.self.invariant _ c.self.view_is c.args.index c.requires _ c.in-Lent.is

pub returns-in-Held : goal.returns-in-Held
returns-in-Held c = found c.self.inside c.self.invariant _ c.self.view_is c.args.index c.requires _ c.in-Held.is ∙ ap (λ l. copied l ∷ drop (c.args.index + 1) c.args.self.now) (sym c.held.ensures)
