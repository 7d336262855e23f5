use Rattle.values.proofs.Cells.{each_under_its_key}
use Rattle.values.proofs.columns_keep_their_keys.Goals as goal

pub returns : goal.returns
returns c = each_under_its_key
