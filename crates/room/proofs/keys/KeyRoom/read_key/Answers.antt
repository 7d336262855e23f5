use Rattle.std.proofs.Common.{subst, ◌∙◌}
use Rattle.room.specs.Open.{column_bytes}
use Rattle.room.specs.KeyList.{key_text_read, KeyTold}
use Rattle.room.proofs.Listing.{key_stop, key_told}
use Rattle.room.proofs.keys.KeyRoom.read_key.Goals as goal

pub returns-in_err-len : goal.returns-in_err-len
returns-in_err-len g c =
    let v = g.R.DeRead.view c.args.bunser.now.read in
    let w = g.R.DeRead.view c.key_len.new.self.read in
    record {
      reads = key_stop g.R.DeRead.lends c.args.bunser.now.end (column_bytes c.args.self.now) c.args.self.now v w _ c.from_residual.result c.in_err-len.ensures.reads c.from_residual.ensures.1;
      same = c.key_len.ensures.same;
    }

pub returns : goal.returns
returns g c =
    let v = g.R.DeRead.view c.args.bunser.now.read in
    let w = g.R.DeRead.view c.key_len.new.self.read in
    let u = g.R.DeRead.view c.read_text.new.bunser.read in
    let same = c.key_len.ensures.same in
    record {
      reads = key_told g.R.DeRead.lends c.args.bunser.now.end (column_bytes c.args.self.now) c.args.self.now c.read_text.new.self v w u c.in_ok-len.len c.read_text.result c.in_ok-len.ensures.reads
          (subst (λ e. KeyTold (key_text_read g.R.DeRead.lends e (column_bytes c.args.self.now) c.in_ok-len.len w) c.args.self.now c.read_text.result c.read_text.new.self u) same c.read_text.ensures.reads);
      same = c.read_text.ensures.same ∙ same;
    }
