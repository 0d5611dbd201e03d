-- The kinds of lines of a certificate: what stands behind the first word of each.
use Rattle.std.specs.Prelude.{ℕ, ℤ, pos, ◌-ℤ◌, Option, Some, None, List, codes, if◌then◌else◌}
use Rattle.std.specs.Str.{bytes_eq}
use Rattle.text_scan.specs.Left.{Left, ◌>>=◌, next, end_of}
use Rattle.line_text.specs.Parts.{Part}
use Rattle.line_text.specs.Numbers.{whole, count, word}
use Rattle.line_text.specs.Names.{name}
use Rattle.line_text.specs.Lines.{Production}
use Rattle.bud_base.specs.declared.ids.ClassId.{ClassId}
use Rattle.bud_syntax.specs.declared.edges.Edge.{Edge}
use Rattle.bud_syntax.specs.declared.edges.Edge.TheVariants.{Rise, Fall}
use Rattle.cert_text.specs.Exceptions.{exceptions}
use Rattle.cert_text.specs.declared.certs.CertClass.{CertClass}
use Rattle.cert_text.specs.declared.certs.CertNode.{CertNode}
use Rattle.cert_text.specs.declared.certs.CertItem.{CertItem}
use Rattle.cert_text.specs.declared.certs.CertFlow.{CertFlow}

-- the number of a class, from 0 to 2^32 - 1
unfoldable pub class_number : Left Part → Option (ClassId × Left Part)
class_number line = do
  (n, line) ← count 0 4294967295 line
  Some (record { 0 = n }, line)

-- `rise` or `fall`
abbrev pub edge_of : List ℕ → Option Edge
edge_of word = if bytes_eq word (codes "rise") then Some Rise else (if bytes_eq word (codes "fall") then Some Fall else None)

-- a field that is one of these words
unfoldable pub edge : Left Part → Option (Edge × Left Part)
edge line = do
  (field, line) ← next line
  found ← edge_of field.bytes
  Some (found, line)

-- a budget, an arrival or a flow, within 2^44 either way
abbrev pub number : Left Part → Option (ℤ × Left Part)
number line = whole (pos 0 -ℤ pos 17592186044416) (pos 17592186044416) line

-- `1` or `2`
abbrev pub version_of : List ℕ → Option ℕ
version_of word = if bytes_eq word (codes "1") then Some 1 else (if bytes_eq word (codes "2") then Some 2 else None)

-- certificate 1, or certificate 2
unfoldable pub version : Production ℕ
version line = do
  (field, line) ← next line
  version ← version_of field.bytes
  breach ← end_of line
  Some (version, breach)

-- policy 2
unfoldable pub policy : Production (Unit {0})
policy line = do
  line ← word (codes "2") line
  breach ← end_of line
  Some (tt, breach)

-- class K CLOCK EDGE N .., or N:S
unfoldable pub class : Production CertClass
class line = do
  (number, line) ← class_number line
  (clock, line) ← name line
  (edge, line) ← edge line
  (exceptions, breach) ← exceptions line.0 line.1
  Some (record { number = number; clock = clock; edge = edge; exceptions = exceptions }, breach)

-- node NAME K ARRIVAL
unfoldable pub node : Production CertNode
node line = do
  (name, line) ← name line
  (class, line) ← class_number line
  (arrival, line) ← number line
  breach ← end_of line
  Some (record { name = name; class = class; arrival = arrival }, breach)

-- item FROM TO K BUDGET FLOW
unfoldable pub item : Production CertItem
item line = do
  (from, line) ← name line
  (to, line) ← name line
  (class, line) ← class_number line
  (budget, line) ← number line
  (flow, line) ← number line
  breach ← end_of line
  Some (record { from = from; to = to; class = class; budget = budget; flow = flow }, breach)

-- start NAME K FLOW, and end NAME K FLOW
unfoldable pub flow : Production CertFlow
flow line = do
  (name, line) ← name line
  (class, line) ← class_number line
  (flow, line) ← number line
  breach ← end_of line
  Some (record { name = name; class = class; flow = flow }, breach)

-- weight W, within 2^100 either way
unfoldable pub weight : Production ℤ
weight line = do
  (weight, line) ← whole (pos 0 -ℤ pos 1267650600228229401496703205376) (pos 1267650600228229401496703205376) line
  breach ← end_of line
  Some (weight, breach)
