use Rattle.std.proofs.Common.{ap, sym, ◌∙◌}
use Rattle.read.specs.Reader.{View}
use Rattle.survey.proofs.Reading.{new_over, verdict_of, surveyed}
use Rattle.survey.proofs.Meaning.{means}
use Rattle.survey.proofs.table.survey.Goals as goal

pub returns-in-Ok : goal.returns-in-Ok
returns-in-Ok c =
    let new = c.new.ensures in
    let judged = c.accepted.ensures ∙ ap (λ r. verdict_of r c.tally-events.result.0 c.read_count-taken.result) (sym c.in-Ok.is) in
    let all = surveyed c.read_out-outcome.ensures (new_over c.new.result c.args.table.now new.0 new.1 new.2 c.new-decoder.ensures) (ap (λ p. p.0) c.tally-events.ensures) (c.read_count-taken.ensures ∙ ap (λ (v : View). v.count) c.into_inner.ensures) judged in
    record { reads = all; means = means all }

pub returns-in-Err : goal.returns-in-Err
returns-in-Err c =
    let new = c.new.ensures in
    let judged = c.refused.ensures ∙ ap (λ r. verdict_of r c.tally-events.result.0 c.read_count-taken.result) (sym c.in-Err.is) in
    let all = surveyed c.read_out-outcome.ensures (new_over c.new.result c.args.table.now new.0 new.1 new.2 c.new-decoder.ensures) (ap (λ p. p.0) c.tally-events.ensures) (c.read_count-taken.ensures ∙ ap (λ (v : View). v.count) c.into_inner.ensures) judged in
    record { reads = all; means = means all }
