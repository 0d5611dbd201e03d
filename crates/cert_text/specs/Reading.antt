-- Reading a certificate text from its first row to its last.
use Rattle.std.specs.Prelude.{ℕ, ◌==◌, Option, Some, codes, if◌then◌else◌}
use Rattle.text_scan.specs.Left.{Left, ◌>>=◌, end_of}
use Rattle.line_text.specs.Parts.{Row}
use Rattle.line_text.specs.Lines.{titled, line, section}
use Rattle.cert_text.specs.Lines as lines
use Rattle.cert_text.specs.declared.certs.Cert.{Cert}
use Rattle.cert_text.specs.declared.reader.Front.{Front}
use Rattle.cert_text.specs.declared.reader.Back.{Back}

-- the policy line, which stands behind version 2 alone
unfoldable pub policy_line : ℕ → Left Row → Option (ℕ × Left Row)
policy_line version text =
    if version == 2
    then (do
      (policy, text) ← line (titled (codes "policy") lines.policy) text
      Some (version, text))
    else Some (version, text)

-- the version
unfoldable pub header : Left Row → Option (ℕ × Left Row)
header text = do
  (version, text) ← line (titled (codes "certificate") lines.version) text
  policy_line version text

-- up to the items
unfoldable pub front : Left Row → Option (Front × Left Row)
front text = do
  (policy, text) ← header text
  (classes, text) ← section (codes "class") lines.class text.0 text.1
  (nodes, text) ← section (codes "node") lines.node text.0 text.1
  (items, text) ← section (codes "item") lines.item text.0 text.1
  Some (record { policy = policy; classes = classes; nodes = nodes; items = items }, text)

-- from the starts on
unfoldable pub back : Left Row → Option (Back × Option ℕ)
back text = do
  (starts, text) ← section (codes "start") lines.flow text.0 text.1
  (ends, text) ← section (codes "end") lines.flow text.0 text.1
  (weight, text) ← line (titled (codes "weight") lines.weight) text
  breach ← end_of text
  Some (record { starts = starts; ends = ends; weight = weight }, breach)

unfoldable pub certificate : Left Row → Option (Cert × Option ℕ)
certificate text = do
  (first, text) ← front text
  (last, breach) ← back text
  Some (record { policy = first.policy; classes = first.classes; nodes = first.nodes; items = first.items; starts = last.starts; ends = last.ends; weight = last.weight }, breach)
