use Rattle.std.proofs.Common.{rules}
use Rattle.std.proofs.lemmas.Result.{err_from_is_err_and}
use Rattle.read.proofs.Fetching.{zeroed}
use Rattle.read.proofs.io.IoReadDeRead.next_bytes.Goals as goal

pub returns-in_err-fetch : goal.returns-in_err-fetch
returns-in_err-fetch g c =
    let me = c.args.self.now in
    let p = err_from_is_err_and c.from_residual-in_err-fetch.result c.from_residual-in_err-fetch.ensures.1 in
    rw (p.1, p.2) (zeroed _ _ me.peeked me.read_count c.args.n c.args.buf.now _ _ (search rules) c.if-n-buf.false c.in_err-fetch.ensures)
