use Rattle.std.proofs.Common.{◌≡◌, ap, subst, sym, refl, true, None, Ok, Err}
use Rattle.room.specs.Open.{filled}
use Rattle.bunser.proofs.Telling.{err_is}
use Rattle.de.specs.declared.event.Plain.TheVariants as plain
use Rattle.de.specs.declared.event.Ahead.TheVariants as ahead
use Rattle.de.specs.Steps.{moved, awaiting, behind, step}
use Rattle.de.specs.Rows.{staged, PlainTold, CellTold}
use Rattle.de.specs.Held.{body_of}
use Rattle.de.proofs.Passing.{step_from, step_stops}
use Rattle.de.proofs.Rows.{cell_stops, cell_finds, cell_again, text_cell}
use Rattle.de.proofs.events.Events.pass_cell.Goals as goal

pub returns-in_err-tag-clause-told : goal.returns-in_err-tag-clause-told
returns-in_err-tag-clause-told g c o n due_it =
    let view = g.R.DeRead.view in
    let lends = g.R.DeRead.lends in
    let b = staged (body_of view c.args.self.now) o n in
    let w = view c.peek.new.self.read in
    let shown : staged (body_of view (record { bunser = c.peek.new.self; opens = c.args.self.now.opens; unread = c.args.self.now.unread; passed = c.args.self.now.passed })) o n ≡ moved b w =
    ap (λ e. record { reader = w; end = e; opens = o; unread = b.unread; events = n }) c.peek.ensures.same in
    subst (λ r. CellTold lends b r (staged (body_of view (record { bunser = c.peek.new.self; opens = c.args.self.now.opens; unread = c.args.self.now.unread; passed = c.args.self.now.passed })) o n))
    (sym (err_is c.from_residual.result c.in_err-tag.field-0.0 c.from_residual.ensures.1))
    (cell_stops lends b c.requires due_it c.read_count-place.result c.read_count-place.ensures c.peek.result w c.peek.ensures.reads c.placed.result c.placed.ensures c.in_err-tag.field-0.0 _ c.in_err-tag.was shown)

pub returns-in_err-plain-clause-told : goal.returns-in_err-plain-clause-told
returns-in_err-plain-clause-told g c o n due_it =
    let view = g.R.DeRead.view in
    let lends = g.R.DeRead.lends in
    let b = staged (body_of view c.args.self.now) o n in
    let w = view c.peek.new.self.read in
    let shown : staged (body_of view (record { bunser = c.peek.new.self; opens = c.args.self.now.opens; unread = c.args.self.now.unread; passed = c.args.self.now.passed })) o n ≡ moved b w =
    ap (λ e. record { reader = w; end = e; opens = o; unread = b.unread; events = n }) c.peek.ensures.same in
    let f = c.in_err-plain.field-0.0 in
    let e = staged (body_of view c.plain.new.self) o n in
    subst (λ r. CellTold lends b r e) (sym (err_is c.from_residual-in_err-plain.result f c.from_residual-in_err-plain.ensures.1))
    (step_stops lends b e f (Err f) (cell_finds lends b c.requires due_it c.read_count-place.result c.read_count-place.ensures c.peek.result w c.peek.ensures.reads c.placed.result c.placed.ensures c.in_ok-tag.tag c.in_ok-tag.was (Err f) e (subst (λ x. PlainTold lends c.in_ok-tag.tag x (Err f) (staged (body_of view c.plain.new.self) o n)) shown (c.in_err-plain.ensures.told o n))) refl)

pub returns-in-Other-clause-told : goal.returns-in-Other-clause-told
returns-in-Other-clause-told g c o n due_it =
    let view = g.R.DeRead.view in
    let lends = g.R.DeRead.lends in
    let b = staged (body_of view c.args.self.now) o n in
    let w = view c.peek.new.self.read in
    let shown : staged (body_of view (record { bunser = c.peek.new.self; opens = c.args.self.now.opens; unread = c.args.self.now.unread; passed = c.args.self.now.passed })) o n ≡ moved b w =
    ap (λ e. record { reader = w; end = e; opens = o; unread = b.unread; events = n }) c.peek.ensures.same in
    let e = staged (body_of view c.plain.new.self) o n in
    let same : e ≡ moved b w = (subst (λ x. PlainTold lends c.in_ok-tag.tag x (Ok plain.Other) (staged (body_of view c.plain.new.self) o n)) shown (subst (λ k. PlainTold lends c.in_ok-tag.tag (staged (body_of view (record { bunser = c.peek.new.self; opens = c.args.self.now.opens; unread = c.args.self.now.unread; passed = c.args.self.now.passed })) o n) (Ok k) e) c.in-Other.is (c.in_ok-plain.ensures.told o n))) in
    subst (λ e. step lends None b ≡ step lends None e) (sym same) (cell_again lends b c.requires due_it c.read_count-place.result c.read_count-place.ensures c.peek.result w c.peek.ensures.reads c.placed.result c.placed.ensures c.in_ok-tag.tag c.in_ok-tag.was)

pub returns-in-Passed-clause-told : goal.returns-in-Passed-clause-told
returns-in-Passed-clause-told g c o n due_it =
    let view = g.R.DeRead.view in
    let lends = g.R.DeRead.lends in
    let b = staged (body_of view c.args.self.now) o n in
    let w = view c.peek.new.self.read in
    let shown : staged (body_of view (record { bunser = c.peek.new.self; opens = c.args.self.now.opens; unread = c.args.self.now.unread; passed = c.args.self.now.passed })) o n ≡ moved b w =
    ap (λ e. record { reader = w; end = e; opens = o; unread = b.unread; events = n }) c.peek.ensures.same in
    let e = staged (body_of view c.plain.new.self) o n in
    let passes = behind e e.reader (filled o) in
    step_from lends b passes (ahead.Passed c.in-Passed.field-0) (Ok true) passes
    (cell_finds lends b c.requires due_it c.read_count-place.result c.read_count-place.ensures c.peek.result w c.peek.ensures.reads c.placed.result c.placed.ensures c.in_ok-tag.tag c.in_ok-tag.was (Ok (ahead.Passed c.in-Passed.field-0)) passes
    (subst (λ x. PlainTold lends c.in_ok-tag.tag x (Ok (plain.Passed c.in-Passed.field-0)) (staged (body_of view c.plain.new.self) o n)) shown (subst (λ k. PlainTold lends c.in_ok-tag.tag (staged (body_of view (record { bunser = c.peek.new.self; opens = c.args.self.now.opens; unread = c.args.self.now.unread; passed = c.args.self.now.passed })) o n) (Ok k) e) c.in-Passed.is (c.in_ok-plain.ensures.told o n))))
    (refl, refl)

pub returns-in-Text-clause-told : goal.returns-in-Text-clause-told
returns-in-Text-clause-told g c o n due_it =
    let view = g.R.DeRead.view in
    let lends = g.R.DeRead.lends in
    let b = staged (body_of view c.args.self.now) o n in
    let w = view c.peek.new.self.read in
    let shown : staged (body_of view (record { bunser = c.peek.new.self; opens = c.args.self.now.opens; unread = c.args.self.now.unread; passed = c.args.self.now.passed })) o n ≡ moved b w =
    ap (λ e. record { reader = w; end = e; opens = o; unread = b.unread; events = n }) c.peek.ensures.same in
    let e = staged (body_of view c.plain.new.self) o n in
    let u = c.in-Text.text in
    let told = (subst (λ x. PlainTold lends c.in_ok-tag.tag x (Ok (plain.Text u)) (staged (body_of view c.plain.new.self) o n)) shown (subst (λ k. PlainTold lends c.in_ok-tag.tag (staged (body_of view (record { bunser = c.peek.new.self; opens = c.args.self.now.opens; unread = c.args.self.now.unread; passed = c.args.self.now.passed })) o n) (Ok k) e) c.in-Text.is (c.in_ok-plain.ensures.told o n))) in
    text_cell lends b e (staged (body_of view c.pass_bytes.new.self) o n) u c.pass_bytes.result
    (cell_finds lends b c.requires due_it c.read_count-place.result c.read_count-place.ensures c.peek.result w c.peek.ensures.reads c.placed.result c.placed.ensures c.in_ok-tag.tag c.in_ok-tag.was (Ok (ahead.Text u)) (awaiting e e.reader u) told.0) told.1 (c.pass_bytes.ensures.told o n)
