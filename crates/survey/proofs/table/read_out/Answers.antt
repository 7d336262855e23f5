use Rattle.survey.proofs.Reading.{refused_at_once, accepted_at_end, refused_at_end}
use Rattle.survey.proofs.table.read_out.Goals as goal

pub returns-in_default : goal.returns-in_default
returns-in_default c = refused_at_once c.in_default.field-0 c.told.result c.in_default.ensures c.told.ensures

pub returns-in-Ok-close : goal.returns-in-Ok-close
returns-in-Ok-close c = accepted_at_end c.in-Ok.info c.in-Ok.ensures c.draw.ensures c.in-Ok-close.closed c.in-Ok-close.ensures

pub returns-in-Err : goal.returns-in-Err
returns-in-Err c = refused_at_end c.in-Ok.info c.in-Ok.ensures c.draw.ensures c.in-Err.field-0 c.told-in-Err.result c.in-Err.ensures c.told-in-Err.ensures
