-- Reading a problem text from its first row to its last.
use Rattle.std.specs.Prelude.{ℕ, Option, Some, codes}
use Rattle.text_scan.specs.Left.{Left, ◌>>=◌, end_of}
use Rattle.line_text.specs.Parts.{Row}
use Rattle.line_text.specs.Lines.{titled, line, section}
use Rattle.problem_text.specs.Lines as lines
use Rattle.bud_base.specs.declared.problems.Problem.{Problem}

unfoldable pub problem : Left Row → Option (Problem × Option ℕ)
problem text = do
  (header, text) ← line (titled (codes "problem") lines.version) text
  (nodes, text) ← line (titled (codes "nodes") lines.nodes) text
  (items, text) ← section (codes "item") lines.item text.0 text.1
  (starts, text) ← section (codes "start") lines.start text.0 text.1
  (ends, text) ← section (codes "end") lines.end text.0 text.1
  breach ← end_of text
  Some (record { nodes = nodes; items = items; starts = starts; ends = ends }, breach)
