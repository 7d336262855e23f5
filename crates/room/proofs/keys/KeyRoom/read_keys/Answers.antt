use Rattle.std.proofs.Common.{◌∙◌, arith}
use Rattle.room.proofs.Listing.{next_stop, next_more}
use Rattle.room.proofs.keys.KeyRoom.read_keys.Goals as goal

pub returns-in_err-read_key-clause-reads : goal.returns-in_err-read_key-clause-reads
returns-in_err-read_key-clause-reads g c =
    let view = g.R.DeRead.view in
    let i = c.loop.invariant in
    let h = c.in_err-read_key.ensures in
    record { reads = next_stop _ _ _ _ c.args.self.now c.loop.self c.read_key.new.self (view c.args.bunser.now.read) (view c.loop.bunser.read) (view c.read_key.new.bunser.read) _ c.loop-test.true i.1 i.0 _ _ h.reads c.from_residual.ensures.1; same = h.same ∙ i.1 }

pub loop-preserved : goal.loop-preserved
loop-preserved g c =
    let view = g.R.DeRead.view in
    let i = c.loop.invariant in
    let h = c.in_ok-read_key.ensures in
    let next = next_more _ _ _ _ c.args.self.now c.loop.self c.read_key.new.self (view c.args.bunser.now.read) (view c.loop.bunser.read) (view c.read_key.new.bunser.read) _ c.loop-test.true i.1 i.0 h.reads in
    let long = next.1 in
    let few = i.2 in
    (next.0, h.same ∙ i.1, omega arith)
