use Rattle.files.proofs.Laws.{read_start}
use Rattle.files.proofs.examine.Goals as goal

pub returns : goal.returns
returns c = rw (read_start _) at c.examine_at.ensures
