use Rattle.std.proofs.Common.{ap, ◌∙◌, sym, subst₂, Ok}
use Rattle.room.specs.Open.{depth, keys_held, bytes_held, column_bytes}
use Rattle.room.specs.KeyList.{key_list_read, ListTold}
use Rattle.de.specs.declared.event.Event.TheVariants.{ArrayBegin}
use Rattle.de.specs.declared.event.Ahead.TheVariants.{Passed}
use Rattle.de.specs.Steps.{found}
use Rattle.de.specs.Held.{body_of}
use Rattle.de.proofs.Finding.{template_finds}
use Rattle.de.proofs.events.Events.template.Goals as goal

pub returns : goal.returns
returns g c =
    let view = g.R.DeRead.view in
    let lends = g.R.DeRead.lends in
    let b = body_of view c.args.self.now in
    let w = view c.read_keys.new.bunser.read in
    template_finds lends b _ c.read_keys.new.self w (found (λ _. Passed ArrayBegin) c.rows.result) _ (sym c.is_free.ensures ∙ c.if-not-is_free.false)
    (subst₂ (λ e v. ListTold (key_list_read lends e (depth b.opens) (keys_held b.opens) (bytes_held column_bytes b.opens) v) b.opens (Ok tt) c.read_keys.new.self w) c.discard.ensures.same c.discard.ensures.reads c.in_ok-read_keys.ensures.reads)
    (ap (λ e. record { reader = w; end = e; opens = c.read_keys.new.self.opens; unread = b.unread; events = b.events }) (c.read_keys.ensures.same ∙ c.discard.ensures.same))
    c.rows.ensures
