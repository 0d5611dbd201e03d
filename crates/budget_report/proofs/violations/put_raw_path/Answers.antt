use Rattle.budget_report.proofs.JoinsWithin.{Joins-within}
use Rattle.budget_report.proofs.violations.put_raw_path.Goals as goal

pub put_arcs-requires : goal.put_arcs-requires
put_arcs-requires c = rw c.as_slice-2.ensures (Joins-within _ _ _ _ c.requires.joined)
