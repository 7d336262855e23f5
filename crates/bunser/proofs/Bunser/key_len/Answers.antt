use Rattle.std.proofs.Common.{sym, ◌∙◌, subst₂}
use Rattle.bunser.specs.Outcome.{TellsAt}
use Rattle.bunser.specs.Texts.{placed_count}
use Rattle.bunser.proofs.Texts.{key_stop, no_key, key_told}
use Rattle.bunser.proofs.Bunser.key_len.Goals as goal

pub returns-in_err-tag : goal.returns-in_err-tag
returns-in_err-tag g c =
    let h = c.peek.ensures in
    record { reads = key_stop _ _ _ _ _ _ c.read_count-place.ensures _ h.reads _ _ c.in_err-tag.ensures c.from_residual.ensures.1; same = h.same }

pub returns-then-not-begins_key : goal.returns-then-not-begins_key
returns-then-not-begins_key g c =
    let h = c.peek.ensures in
    record { reads = no_key _ _ _ _ _ _ c.read_count-place.ensures _ h.reads _ _ c.in_ok-tag.ensures (sym c.begins_key.ensures ∙ c.if-not-begins_key.true) c.at.ensures; same = h.same }

pub returns : goal.returns
returns g c =
    let h = c.peek.ensures in
    let k = c.placed_count.ensures in
    let end = c.discard.ensures.same ∙ h.same in
    let u = g.R.DeRead.view c.placed_count.new.self.read in
    let count = subst₂ (λ e x. TellsAt (placed_count g.R.DeRead.lends e x) c.placed_count.result u) end c.discard.ensures.reads k.reads in
    record { reads = key_told _ _ _ _ _ _ c.read_count-place.ensures _ h.reads _ _ _ c.in_ok-tag.ensures (sym c.begins_key.ensures ∙ c.if-not-begins_key.false) count; same = k.same ∙ end }
