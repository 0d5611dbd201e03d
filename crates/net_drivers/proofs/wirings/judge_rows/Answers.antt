use Rattle.std.proofs.Common.{arith, ◌∙◌}
use Rattle.net_drivers.proofs.WiringLaws.{IsJudged-staged, Counts-staged, rows-ordered}
use Rattle.net_drivers.proofs.wirings.judge_rows.Goals as goal

pub first_twice-requires : goal.first_twice-requires
first_twice-requires c =
    let counts = Counts-staged c.args.joints.now.table.now.apart (c.requires.rows ∙ c.requires.slots) c.drive_all.ensures in
    record {
      ordered = counts.ordered (rows-ordered c.args.rows.now c.requires.none);
      small = omega (arith, counts.size, c.requires.rows, c.requires.slots, c.requires.clean.small);
    }

pub returns : goal.returns
returns c = IsJudged-staged c.first_twice.result c.args.joints.now.table.now.apart (c.requires.rows ∙ c.requires.slots) c.requires.none c.drive_all.ensures c.first_twice.ensures
