use Rattle.std.proofs.Common.{rules, ◌≡◌, to_z, of_z, w64}
use Rattle.budget_designs.proofs.slacks.violated.Goals as goal

pub violation_text-requires-clause-drawn : goal.violation_text-requires-clause-drawn
violation_text-requires-clause-drawn c = c.requires.drawn

pub violation_text-requires-clause-path : goal.violation_text-requires-clause-path
violation_text-requires-clause-path c = rw (c.ends-start.ensures.start, c.ends-start.ensures.end, c.worst.ensures) c.requires.path.is_path

pub returns : goal.returns
returns c =
    let same : to_z w64 (of_z w64 c.args.slack) ≡ c.args.slack = search rules in
    let given = rw (c.ends-start.ensures.start, c.ends-start.ensures.end, c.worst.ensures) at c.in_ok-text.ensures in
    let text = rw same at given in (
      (
        c.args.slack,
        (
          c.args.check.now.path,
          (c.requires.least, c.requires.below, c.requires.path, text),
        ),
      ),
      c.new.ensures,
    )
