use Rattle.std.proofs.Common.{suc, ltb, ap, ◌∙◌, sym, subst, arith}
use Rattle.std.proofs.lemmas.Bool.{ltb-true}
use Rattle.room.specs.Open.{depth, keys_held, bytes_held, column_bytes}
use Rattle.room.specs.KeyList.{listed_read, ListTold}
use Rattle.room.proofs.Innermost.{two_told}
use Rattle.room.proofs.KeyLists.{keys_stop, keys_no_list, keys_deep, keys_told}
use Rattle.room.proofs.opens.Opens.read_keys.Goals as goal

pub returns-in_err-tag : goal.returns-in_err-tag
returns-in_err-tag g c =
    let old = c.args.self.now.opens in
    record {
      reads = keys_stop g.R.DeRead.lends c.args.bunser.now.end old c.forget.new.self (depth old) (keys_held old) (bytes_held column_bytes old) (g.R.DeRead.view c.args.bunser.now.read) (g.R.DeRead.view c.peek.new.self.read)
          c.read_count-place.result c.peek.result c.placed.result c.in_err-tag.field-0.0 c.from_residual.result c.read_count-place.ensures c.peek.ensures.reads c.placed.ensures c.in_err-tag.was c.from_residual.ensures.1 c.forget.ensures;
      same = c.peek.ensures.same;
    }

pub returns-then-tag-from : goal.returns-then-tag-from
returns-then-tag-from g c =
    let old = c.args.self.now.opens in
    record {
      reads = keys_no_list g.R.DeRead.lends c.args.bunser.now.end old c.forget.new.self (depth old) (keys_held old) (bytes_held column_bytes old) (g.R.DeRead.view c.args.bunser.now.read) (g.R.DeRead.view c.peek.new.self.read)
          c.read_count-place.result c.read_count-place.ensures c.peek.result c.peek.ensures.reads c.placed.result c.placed.ensures c.in_ok-tag.tag c.in_ok-tag.was c.at.result (λ z. c.if-tag-from.true (z ∙ sym c.from.ensures)) c.at.ensures c.forget.ensures;
      same = c.peek.ensures.same;
    }

pub returns-then-not-has_two : goal.returns-then-not-has_two
returns-then-not-has_two g c =
    let old = c.args.self.now.opens in
    let free = two_told c.self.inside c.self.invariant ∙ ap (λ o. ltb (suc (depth o.opens)) 128) (c.self.view_is ∙ c.forget.ensures) in
    record {
      reads = keys_deep g.R.DeRead.lends c.args.bunser.now.end old c.forget.new.self (depth old) (keys_held old) (bytes_held column_bytes old) (g.R.DeRead.view c.args.bunser.now.read) (g.R.DeRead.view c.peek.new.self.read)
          c.read_count-place.result c.read_count-place.ensures c.peek.result c.peek.ensures.reads c.placed.result c.placed.ensures c.in_ok-tag.tag c.in_ok-tag.was (c.if-tag-from.false ∙ c.from.ensures) (sym free ∙ sym c.has_two.ensures ∙ c.if-not-has_two.true) c.forget.ensures;
      same = c.peek.ensures.same;
    }

pub read_list-requires-clause-free : goal.read_list-requires-clause-free
read_list-requires-clause-free g c =
    let free = two_told c.self.inside c.self.invariant ∙ ap (λ o. ltb (suc (depth o.opens)) 128) c.self.view_is in
    let lt = ltb-true (suc (depth c.forget.new.self.opens)) 128 (sym free ∙ sym c.has_two.ensures ∙ c.if-not-has_two.false) in
    omega arith

pub returns : goal.returns
returns g c =
    let old = c.args.self.now.opens in
    let free = two_told c.self.inside c.self.invariant ∙ ap (λ o. ltb (suc (depth o.opens)) 128) (c.self.view_is ∙ c.forget.ensures) in
    let w = g.R.DeRead.view c.peek.new.self.read in
    let u = g.R.DeRead.view c.read_list.new.bunser.read in
    let told = subst (λ o. ListTold (listed_read g.R.DeRead.lends c.args.bunser.now.end (keys_held o.opens) (bytes_held column_bytes o.opens) w) o.opens c.read_list.result c.read_list.new.self u) c.forget.ensures
    (subst (λ e. ListTold (listed_read g.R.DeRead.lends e (keys_held c.forget.new.self.opens) (bytes_held column_bytes c.forget.new.self.opens) w) c.forget.new.self.opens c.read_list.result c.read_list.new.self u) c.peek.ensures.same c.read_list.ensures.reads) in
    record {
      reads = keys_told g.R.DeRead.lends c.args.bunser.now.end old c.read_list.new.self (depth old) (keys_held old) (bytes_held column_bytes old) (g.R.DeRead.view c.args.bunser.now.read) w
          c.read_count-place.result c.read_count-place.ensures c.peek.result c.peek.ensures.reads c.placed.result c.placed.ensures c.in_ok-tag.tag c.in_ok-tag.was c.read_list.result u (c.if-tag-from.false ∙ c.from.ensures) (sym free ∙ sym c.has_two.ensures ∙ c.if-not-has_two.false) told;
      same = c.read_list.ensures.same ∙ c.peek.ensures.same;
    }
