use Rattle.bunser.proofs.Asking.{array_stop, array_told}
use Rattle.bunser.proofs.Bunser.read_array.Goals as goal

pub returns-in_err-taken : goal.returns-in_err-taken
returns-in_err-taken g c =
    let h = c.in_err-taken.ensures in
    let v = g.R.DeRead.view c.args.self.now.read in
    let w = g.R.DeRead.view c.read_bytes.new.self.read in
    record { reads = array_stop g.R.DeRead.lends c.args.self.now.end g.row.N v w _ c.from_residual.result h.reads.reads c.from_residual.ensures.1; same = h.reads.same }

pub returns : goal.returns
returns g c =
    let h = c.in_ok-taken.ensures in
    let v = g.R.DeRead.view c.args.self.now.read in
    let w = g.R.DeRead.view c.read_bytes.new.self.read in
    let kept = (g.R.DeRead.sound c.args.self.now.read).kept_all in
    record { reads = array_told g.R.DeRead.lends c.args.self.now.end g.row.N v w c.in_ok-taken.taken kept h.reads.reads c.read_bytes.new.buf _ h.puts c.copy_lent.ensures; same = h.reads.same }
