use Rattle.std.proofs.Common.{ap, refl, Err}
use Rattle.de.specs.Steps.{awaiting, behind, behind_text}
use Rattle.de.specs.Rows.{staged}
use Rattle.de.specs.Held.{body_of}
use Rattle.de.proofs.Passing.{text_passes, text_stops}
use Rattle.de.proofs.events.Events.pass_bytes.Goals as goal

pub returns-in-Ok-clause-told : goal.returns-in-Ok-clause-told
returns-in-Ok-clause-told g c o n =
    let view = g.R.DeRead.view in
    let d = staged (body_of view c.args.self.now) o n in
    let b = awaiting d d.reader c.args.text in
    let w = view c.pass_text.new.self.read in (
      refl,
      text_passes g.R.DeRead.lends c.args.text b refl w c.read_count-place.result c.read_count-place.ensures c.pass_text.result c.pass_text.ensures.reads c.placed.result c.placed.ensures
          c.in-Ok.field-0 _ c.in-Ok.is
          (ap (λ e. behind (record { reader = w; end = e; opens = o; unread = b.unread; events = n }) w (behind_text c.args.text.kind o)) c.pass_text.ensures.same),
    )

pub returns-in-Err-clause-told : goal.returns-in-Err-clause-told
returns-in-Err-clause-told g c o n =
    let view = g.R.DeRead.view in
    let d = staged (body_of view c.args.self.now) o n in
    let b = awaiting d d.reader c.args.text in
    let w = view c.pass_text.new.self.read in
    text_stops g.R.DeRead.lends c.args.text b refl w c.read_count-place.result c.read_count-place.ensures c.pass_text.result c.pass_text.ensures.reads c.placed.result c.placed.ensures
    c.in-Err.refusal (Err c.in-Err.refusal) _ c.in-Err.is refl
    (ap (λ e. record { reader = w; end = e; opens = o; unread = b.unread; events = n }) c.pass_text.ensures.same)
