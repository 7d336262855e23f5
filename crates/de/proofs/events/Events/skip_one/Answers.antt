use Rattle.std.proofs.Common.{ap, ◌∙◌, Ok, subst, refl, true, false}
use Rattle.de.specs.Steps.{behind, coming, Finds, awaiting, settled}
use Rattle.de.specs.declared.event.Ahead.TheVariants as ahead
use Rattle.de.specs.Held.{body_of}
use Rattle.de.proofs.Passing.{step_stops, step_from, column_passes_over}
use Rattle.de.proofs.events.Events.skip_one.Goals as goal

pub returns-in_err-coming : goal.returns-in_err-coming
returns-in_err-coming g c = step_stops g.R.DeRead.lends (body_of g.R.DeRead.view c.args.self.now) (body_of g.R.DeRead.view c.coming.new.self) c.in_err-coming.field-0.0 c.from_residual.result c.in_err-coming.ensures c.from_residual.ensures.1

pub returns-in-Nothing : goal.returns-in-Nothing
returns-in-Nothing g c =
    let b = body_of g.R.DeRead.view c.args.self.now in
    let d = body_of g.R.DeRead.view c.coming.new.self in
    step_from g.R.DeRead.lends b d ahead.Nothing (Ok false) d (subst (λ a. Finds (coming g.R.DeRead.lends b) (Ok a) (settled (Ok a) d)) c.in-Nothing.is c.in_ok-coming.ensures) (refl, refl)

pub returns-in-Passed : goal.returns-in-Passed
returns-in-Passed g c =
    let b = body_of g.R.DeRead.view c.args.self.now in
    let d = body_of g.R.DeRead.view c.coming.new.self in
    step_from g.R.DeRead.lends b (behind d d.reader d.opens) (ahead.Passed c.in-Passed.field-0) (Ok true) (body_of g.R.DeRead.view c.pass.new.self) (subst (λ a. Finds (coming g.R.DeRead.lends b) (Ok a) (settled (Ok a) d)) c.in-Passed.is c.in_ok-coming.ensures)
    (refl, c.pass.ensures)

pub returns-in-Text : goal.returns-in-Text
returns-in-Text g c =
    let b = body_of g.R.DeRead.view c.args.self.now in
    let d = body_of g.R.DeRead.view c.coming.new.self in
    step_from g.R.DeRead.lends b (awaiting d d.reader c.in-Text.text) (ahead.Text c.in-Text.text) c.skip_text.result (body_of g.R.DeRead.view c.skip_text.new.self) (subst (λ a. Finds (coming g.R.DeRead.lends b) (Ok a) (settled (Ok a) d)) c.in-Text.is c.in_ok-coming.ensures) c.skip_text.ensures

pub returns-in-Column : goal.returns-in-Column
returns-in-Column g c =
    let b = body_of g.R.DeRead.view c.args.self.now in
    let d = body_of g.R.DeRead.view c.coming.new.self in
    step_from g.R.DeRead.lends b d ahead.Column (Ok true) (body_of g.R.DeRead.view c.pass-in-Column.new.self) (subst (λ a. Finds (coming g.R.DeRead.lends b) (Ok a) (settled (Ok a) d)) c.in-Column.is c.in_ok-coming.ensures)
    (column_passes_over g.R.DeRead.lends d (body_of g.R.DeRead.view c.pass-in-Column.new.self) (c.pass-in-Column.ensures ∙ ap (λ o. behind d d.reader o.opens) c.turn.ensures))
