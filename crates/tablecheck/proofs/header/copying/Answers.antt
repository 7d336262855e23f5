use Rattle.std.proofs.Common.{◌/◌, ◌++◌, length, take, ap, ◌∙◌, take-append-drop}
use Rattle.tablecheck.proofs.header.copying.Goals as goal

pub returns : goal.returns
returns c =
    let front = c.new-first.ensures in
    let back = c.new-second.ensures in
    let chain = c.new.ensures in
    let io = c.new-2.ensures in
    let xs = c.args.bytes.now in
    let cut = c.split_at.ensures in
    let first = ap (λ x. x.first) io.0 ∙ chain.0 in
    let second = ap (λ x. x.second) io.0 ∙ chain.1 in
    record {
      parts =
          ap (λ l. l ++ c.new-2.result.source.second.slice.rest.now) (ap (λ x. x.slice.rest.now) first ∙ front.0 ∙ cut.front)
          ∙ ap (λ l. take (length xs / 2) xs ++ l) (ap (λ x. x.slice.rest.now) second ∙ back.0 ∙ cut.back)
          ∙ take-append-drop (length xs / 2) xs;
      pieces = (ap (λ x. x.most) first ∙ front.1, ap (λ x. x.most) second ∙ back.1);
      clean = (ap (λ x. x.ending) first ∙ front.2, ap (λ x. x.ending) second ∙ back.2);
      fresh = (io.2, io.1);
    }
