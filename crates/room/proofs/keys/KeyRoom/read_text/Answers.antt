use Rattle.std.proofs.Common.{◌<◌, sym, subst, length, arith}
use Rattle.room.proofs.Holding.{count_long}
use Rattle.room.proofs.Held.{text_stop, text_kept, text_told, ends_within}
use Rattle.room.proofs.keys.KeyRoom.read_text.Goals as goal

pub returns-in_err-slot : goal.returns-in_err-slot
returns-in_err-slot g c =
    let v = g.R.DeRead.view c.args.bunser.now.read in
    let w = g.R.DeRead.view c.read_slot.new.bunser.read in
    record {
      reads = text_stop c.self.inside c.self.invariant c.self.told c.args.self.now c.self.view_is g.R.DeRead.lends c.args.bunser.now.end c.args.len v w c.read_slot.new.bytes _ c.from_residual.result c.in_err-slot.ensures.reads c.from_residual.ensures.1;
      same = c.read_slot.ensures.same;
    }

pub bounds-self-inside-self-inside : goal.bounds-self-inside-self-inside
bounds-self-inside-self-inside g c =
    let more = subst (λ l. length l < 256) (sym c.self.view_is) c.requires in
    let long = count_long c.self.inside c.self.invariant in
    omega arith

pub end-self-inside-requires : goal.end-self-inside-requires
end-self-inside-requires g c =
    let v = g.R.DeRead.view c.args.bunser.now.read in
    let w = g.R.DeRead.view c.read_slot.new.bunser.read in
    ends_within c.self.inside c.self.invariant c.self.told c.args.self.now c.self.view_is g.R.DeRead.lends c.args.bunser.now.end c.args.len v w c.read_slot.new.bytes c.requires c.in_ok-slot.slot c.in_ok-slot.ensures.reads

pub invariant_of-self-2 : goal.invariant_of-self-2
invariant_of-self-2 g c =
    let v = g.R.DeRead.view c.args.bunser.now.read in
    let w = g.R.DeRead.view c.read_slot.new.bunser.read in
    text_kept c.self.inside c.self.invariant c.self.told c.args.self.now c.self.view_is g.R.DeRead.lends c.args.bunser.now.end c.args.len v w c.read_slot.new.bytes c.requires c.in_ok-slot.slot c.in_ok-slot.ensures.reads c.end-self-inside.result c.end-self-inside.ensures

pub returns : goal.returns
returns g c =
    let v = g.R.DeRead.view c.args.bunser.now.read in
    let w = g.R.DeRead.view c.read_slot.new.bunser.read in
    record {
      reads = text_told c.self.inside c.self.invariant c.self.told c.args.self.now c.self.view_is g.R.DeRead.lends c.args.bunser.now.end c.args.len v w c.read_slot.new.bytes c.requires c.in_ok-slot.slot c.in_ok-slot.ensures.reads;
      same = c.read_slot.ensures.same;
    }
