-- Reading a policy text from its first row to its last.
use Rattle.std.specs.Prelude.{ℕ, List, [], ◌∷◌, Option, Some, codes}
use Rattle.text_scan.specs.Left.{Left, ◌>>=◌}
use Rattle.line_text.specs.Parts.{Row}
use Rattle.line_text.specs.Lines.{titled, line}
use Rattle.policy_reader.specs.Lines as lines
use Rattle.bud_design.specs.declared.policies.Policy.{Policy}
use Rattle.bud_design.specs.declared.policies.PolicyLine.{PolicyLine}

-- the lines of all the rows that are left
unfoldable pub all_lines : ℕ → List Row → Option ℕ → Option (List PolicyLine × Option ℕ)
all_lines version [] breach = Some ([], breach)
all_lines version (row ∷ rows) breach = do
  (x, breach) ← lines.policy_line version (row, breach)
  (xs, last) ← all_lines version rows breach
  Some (x ∷ xs, last)

unfoldable pub policy : Left Row → Option (Policy × Option ℕ)
policy text = do
  (version, text) ← line (titled (codes "policy") lines.version) text
  (lines, breach) ← all_lines version text.0 text.1
  Some (record { version = version; lines = lines }, breach)
