use Rattle.std.proofs.Common.{◌∙◌}
use Rattle.bunser.specs.Texts.{checked}
use Rattle.bunser.proofs.Whole.{passed_whole, passed_stop, then_copies, then_ends, then_stops, then_pieces}
use Rattle.bunser.proofs.Bunser.pass_text.Goals as goal

pub pass_pieces-requires-clause-copies : goal.pass_pieces-requires-clause-copies
pass_pieces-requires-clause-copies g c =
    let me = c.args.self.now in
    then_copies (checked c.args.text.kind) g.R.DeRead.lends me.end c.take_text.new.self.end c.args.text.len (g.R.DeRead.view me.read) (g.R.DeRead.view c.take_text.new.self.read) c.in-Err.ensures.reads.same c.in-Err.error c.in-Room.is c.in-Err.ensures.reads.reads

pub pass_pieces-requires-clause-ends : goal.pass_pieces-requires-clause-ends
pass_pieces-requires-clause-ends g c =
    let me = c.args.self.now in
    then_ends (checked c.args.text.kind) g.R.DeRead.lends me.end c.take_text.new.self.end c.args.text.len (g.R.DeRead.view me.read) (g.R.DeRead.view c.take_text.new.self.read) c.in-Err.ensures.reads.same c.in-Err.error c.in-Room.is c.in-Err.ensures.reads.reads

pub pass_pieces-requires-clause-stops : goal.pass_pieces-requires-clause-stops
pass_pieces-requires-clause-stops g c =
    let me = c.args.self.now in
    then_stops (checked c.args.text.kind) g.R.DeRead.lends me.end c.take_text.new.self.end c.args.text.len (g.R.DeRead.view me.read) (g.R.DeRead.view c.take_text.new.self.read) c.in-Err.ensures.reads.same c.in-Err.error c.in-Room.is c.in-Err.ensures.reads.reads

pub returns-in-Ok : goal.returns-in-Ok
returns-in-Ok g c =
    let me = c.args.self.now in
    record {
      reads = passed_whole (checked c.args.text.kind) me.end c.args.text.len (g.R.DeRead.view me.read) (g.R.DeRead.view c.take_text.new.self.read) g.R.DeRead.lends c.in-Ok.field-0 c.in-Ok.ensures.reads.reads;
      same = c.in-Ok.ensures.reads.same;
    }

pub returns-in-Room : goal.returns-in-Room
returns-in-Room g c =
    let me = c.args.self.now in
    record {
      reads = then_pieces (checked c.args.text.kind) g.R.DeRead.lends me.end c.take_text.new.self.end c.args.text.len (g.R.DeRead.view me.read) (g.R.DeRead.view c.take_text.new.self.read) c.in-Err.ensures.reads.same c.in-Err.error c.in-Room.is c.in-Err.ensures.reads.reads
          c.pass_pieces.result (g.R.DeRead.view c.pass_pieces.new.self.read) c.pass_pieces.ensures.reads;
      same = c.pass_pieces.ensures.same ∙ c.in-Err.ensures.reads.same;
    }

pub returns-in_default : goal.returns-in_default
returns-in_default g c =
    let me = c.args.self.now in
    record {
      reads = passed_stop (checked c.args.text.kind) me.end c.args.text.len (g.R.DeRead.view me.read) (g.R.DeRead.view c.take_text.new.self.read) g.R.DeRead.lends c.in-Err.error c.in_default.not-Room c.in-Err.ensures.reads.reads;
      same = c.in-Err.ensures.reads.same;
    }
