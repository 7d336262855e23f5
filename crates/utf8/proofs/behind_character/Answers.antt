use Rattle.std.proofs.Common.{◌≡◌, ◌-◌, ◌&&◌, ◌++◌, ◌∙◌, ap, sym, rules}
use Rattle.std.proofs.lemmas.List.{take-append-drop}
use Rattle.utf8.specs.Utf8.{first, utf8, utf8_after}
use Rattle.utf8.proofs.behind_character.Goals as goal

pub returns-clause-formed : goal.returns-clause-formed
returns-clause-formed c =
    let tail = c.args.tail.now in
    let rest = c.in_ok-others.rest.now in
    let parts = c.in_ok-others.ensures.cases in
    let joined : c.in_ok-others.others.now ++ rest ≡ tail = cc (parts.1, parts.2, take-append-drop (c.in_ok-width.width - 1) tail) in
    let judged : utf8_after (first c.args.lead) tail ≡ (c.completes.result && utf8 rest) = ap (utf8_after (first c.args.lead)) (sym joined) ∙ c.completes.ensures rest in
    search rules
