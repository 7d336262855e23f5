use Rattle.std.proofs.Common.{◌≡◌, ◌-◌, ◌*◌, length}
use Rattle.utf8.specs.Pieces.{await}
use Rattle.bunser.proofs.Pieces.{Drawn}
use Rattle.bunser.proofs.Bunser.pass_pieces.Given as goal

-- what was drawn so far is the front of the text, in whole pieces
abbrev pub invariant-loop : goal.invariant-loop
invariant-loop g l = Drawn l.text.len (g.R.DeRead.view l.initial.self.read) (g.R.DeRead.view l.self.read) (l.text.len - 64 * l.counter) (await l.awaited) × (l.self.end ≡ l.initial.self.end) × (length l.piece ≡ 64)
