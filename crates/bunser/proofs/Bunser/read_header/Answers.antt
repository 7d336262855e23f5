use Rattle.std.proofs.Common.{◌∙◌}
use Rattle.std.proofs.lemmas.Result.{IfOk-from_err}
use Rattle.bunser.proofs.Headers.{length_sum, header_stop, header_stop_capabilities, header_told}
use Rattle.bunser.proofs.Bunser.read_header.Goals as goal

pub returns-in_err-read_magic : goal.returns-in_err-read_magic
returns-in_err-read_magic g c =
    let h = c.in_err-read_magic.ensures in
    let s = c.from_residual.ensures in
    record { reads = header_stop _ _ _ c.requires _ _ _ h.reads s.1; bounds = IfOk-from_err _ _ s.0; same = h.same ∙ c.requires }

pub returns-in_err-capabilities : goal.returns-in_err-capabilities
returns-in_err-capabilities g c =
    let first = c.in_ok-read_magic.ensures in
    let h = c.in_err-capabilities.ensures in
    let s = c.from_residual-in_err-capabilities.ensures in
    let none = first.same ∙ c.requires in
    record { reads = header_stop_capabilities _ _ _ _ c.requires first.reads _ none _ _ _ h.reads s.1; bounds = IfOk-from_err _ _ s.0; same = h.same ∙ none }

pub returns : goal.returns
returns g c =
    let first = c.in_ok-read_magic.ensures in
    let second = c.in_ok-capabilities.ensures in
    let third = c.read_length.ensures in
    let none = first.same ∙ c.requires in
    record { reads = header_told _ _ _ _ c.requires first.reads _ none _ _ _ second.same second.reads _ _ third.reads; bounds = length_sum _ _ _ _ _ _ third.reads; same = third.same ∙ second.same ∙ none }
