use Rattle.bunser.proofs.Texts.{text_stop, text_told, no_text_told}
use Rattle.bunser.proofs.Bunser.next_text.Goals as goal

pub returns-in_err-taken : goal.returns-in_err-taken
returns-in_err-taken g c =
    let h = c.read_bytes.ensures in
    let told = text_stop _ _ _ _ _ _ _ _ _ c.in_err-taken.ensures.reads.reads c.from_residual.ensures.1 h.puts in
    record { reads = record { reads = told.0; same = h.reads.same }; puts = told.1 }

pub returns-then-is_text : goal.returns-then-is_text
returns-then-is_text g c =
    let h = c.in_ok-taken.ensures in
    let kept = (g.R.DeRead.sound c.args.self.now.read).kept_all in
    let told = text_told _ _ _ _ _ _ _ _ _ kept h.reads.reads h.puts c.is_text.ensures c.if-is_text.true in
    record { reads = record { reads = told.0; same = h.reads.same }; puts = told.1 }

pub returns : goal.returns
returns g c =
    let h = c.in_ok-taken.ensures in
    let kept = (g.R.DeRead.sound c.args.self.now.read).kept_all in
    let told = no_text_told _ _ _ _ _ _ _ _ _ _ kept h.reads.reads h.puts c.is_text.ensures c.if-is_text.false c.wipe.ensures in
    record { reads = record { reads = told.0; same = h.reads.same }; puts = told.1 }
