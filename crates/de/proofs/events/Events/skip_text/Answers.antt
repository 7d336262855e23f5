use Rattle.std.proofs.Common.{ap, ◌∙◌, refl, Err}
use Rattle.de.specs.Steps.{awaiting, behind, behind_text}
use Rattle.de.specs.Held.{body_of}
use Rattle.de.proofs.Passing.{text_passes, text_stops}
use Rattle.de.proofs.events.Events.skip_text.Goals as goal

pub returns-in-Err : goal.returns-in-Err
returns-in-Err g c =
    let view = g.R.DeRead.view in
    let d = body_of view c.args.self.now in
    let b = awaiting d d.reader c.args.text in
    let w = view c.pass_text.new.self.read in
    text_stops g.R.DeRead.lends c.args.text b refl w c.read_count-place.result c.read_count-place.ensures c.pass_text.result c.pass_text.ensures.reads c.placed.result c.placed.ensures
    c.in-Err.refusal (Err c.in-Err.refusal) _ c.in-Err.is refl
    (ap (λ e. record { reader = w; end = e; opens = b.opens; unread = b.unread; events = b.events }) c.pass_text.ensures.same)

pub returns-in-Ok : goal.returns-in-Ok
returns-in-Ok g c =
    let view = g.R.DeRead.view in
    let d = body_of view c.args.self.now in
    let b = awaiting d d.reader c.args.text in
    let w = view c.pass_text.new.self.read in
    text_passes g.R.DeRead.lends c.args.text b refl w c.read_count-place.result c.read_count-place.ensures c.pass_text.result c.pass_text.ensures.reads c.placed.result c.placed.ensures
    c.in-Ok.field-0 _ c.in-Ok.is
    (c.pass.ensures
    ∙ ap (λ m. behind m m.reader m.opens) c.move_on.ensures
    ∙ ap (λ e. behind (record { reader = w; end = e; opens = b.opens; unread = b.unread; events = b.events }) w (behind_text c.args.text.kind b.opens)) c.pass_text.ensures.same)
