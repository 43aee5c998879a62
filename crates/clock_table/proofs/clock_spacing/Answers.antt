use Rattle.std.proofs.Common.{◌≡◌, ◌-◌, ◌∙◌, get_or}
use Rattle.clock_table.proofs.Table.{table, entry}
use Rattle.clock_table.proofs.clock_spacing.Goals as goal

pub returns : goal.returns
returns c =
    let e : c.entry.result ≡ get_or table (c.args.t - 200) 0 = c.entry.ensures in
    e ∙ entry c.args.t c.requires.0 c.requires.1
