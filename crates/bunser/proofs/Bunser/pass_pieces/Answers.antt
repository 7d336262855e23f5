use Rattle.std.proofs.Common.{◌≡◌, ◌+◌, ◌-◌, ◌*◌, ◌%◌, ◌≤◌, subst, refl, ◌∙◌, length, arith}
use Rattle.utf8.specs.Pieces.{await}
use Rattle.bunser.proofs.Pieces.{Drawn, piece_more, piece_stop, piece_last}
use Rattle.bunser.proofs.Bunser.pass_pieces.Goals as goal

pub returns-in_err-_taken : goal.returns-in_err-_taken
returns-in_err-_taken g c =
    let i = c.loop.invariant in
    let h = c.in_err-_taken.ensures.reads in
    let more : 64 ≤ c.args.text.len - 64 * c.loop.counter = omega (arith, c.loop-test.true) in
    record { reads = piece_stop _ _ _ _ _ _ _ _ _ i.0 c.requires.copies i.1 i.2 _ c.requires.ends c.requires.stops 64 _ _ _ (omega arith) more h.reads c.from_residual.ensures.1; same = h.same ∙ i.1 }

pub loop-preserved : goal.loop-preserved
loop-preserved g c =
    let i = c.loop.invariant in
    let left = c.args.text.len - 64 * c.loop.counter in
    let more : 64 ≤ left = omega (arith, c.loop-test.true) in
    let less : left - 64 ≡ c.args.text.len - 64 * (c.loop.counter + 1) = omega arith in
    let long : length c.read_bytes.new.buf ≡ 64 = c.read_bytes.auto.buf ∙ i.2 in
    let h = c.in_ok-_taken.ensures in
    (piece_more _ _ _ _ _ _ _ _ _ i.0 c.requires.copies i.1 i.2 _ _ _ _ _ more less long h.reads.reads h.puts c.after-awaited.ensures, h.reads.same ∙ i.1, long)

pub returns-in_err-_taken-2 : goal.returns-in_err-_taken-2
returns-in_err-_taken-2 g c =
    let i = c.loop.invariant in
    let h = c.in_err-_taken-2.ensures.reads in
    let k = c.args.text.len % 64 in
    let rest : k ≤ c.args.text.len - 64 * c.loop.counter = omega (arith, c.loop-test.false, c.loop.auto.counter-end) in
    record { reads = piece_stop _ _ _ _ _ _ _ _ _ i.0 c.requires.copies i.1 i.2 _ c.requires.ends c.requires.stops k _ _ _ (omega arith) rest h.reads c.from_residual-in_err-_taken-2.ensures.1; same = h.same ∙ i.1 }

pub returns : goal.returns
returns g c =
    let i = c.loop.invariant in
    let rest : c.args.text.len - 64 * c.loop.counter ≡ c.args.text.len % 64 = omega (arith, c.loop-test.false, c.loop.auto.counter-end) in
    let d = subst (λ k. Drawn c.args.text.len (g.R.DeRead.view c.args.self.now.read) (g.R.DeRead.view c.loop.self.read) k (await c.loop.awaited)) rest i.0 in
    let h = c.in_ok-_taken-2.ensures in
    record { reads = piece_last _ _ _ _ _ _ _ _ _ d c.requires.copies i.1 i.2 _ c.requires.ends c.requires.stops _ _ _ _ _ _ (omega arith) h.reads.reads h.puts refl c.after.ensures c.verdict.ensures; same = h.reads.same ∙ i.1 }
