use Rattle.sheets.proofs.AnyKind.{one_sheet}
use Rattle.sheets.proofs.read.Goals as goal

pub returns : goal.returns
returns c = record { reads = c.read_kind.ensures; format = one_sheet }
