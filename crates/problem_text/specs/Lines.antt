-- The kinds of lines of a problem text: what stands behind the first word of each.
use Rattle.std.specs.Prelude.{ℕ, ℤ, pos, ◌-ℤ◌, Option, Some, codes}
use Rattle.text_scan.specs.Left.{Left, ◌>>=◌, end_of}
use Rattle.line_text.specs.Parts.{Part}
use Rattle.line_text.specs.Numbers.{whole, count, word}
use Rattle.line_text.specs.Lines.{Production}
use Rattle.bud_base.specs.declared.ids.NodeId.{NodeId}
use Rattle.bud_base.specs.declared.problems.Item.{Item}
use Rattle.bud_base.specs.declared.problems.Start.{Start}
use Rattle.bud_base.specs.declared.problems.End.{End}

-- a number from 0 to 2^32 - 1
abbrev pub number : Left Part → Option (ℕ × Left Part)
number line = count 0 4294967295 line

-- the number of a node
unfoldable pub node : Left Part → Option (NodeId × Left Part)
node line = do
  (n, line) ← number line
  Some (record { 0 = n }, line)

-- a time in ps, within 2^62 either way
abbrev pub time : Left Part → Option (ℤ × Left Part)
time line = whole (pos 0 -ℤ pos 4611686018427387904) (pos 4611686018427387904) line

-- problem 1
unfoldable pub version : Production (Unit {0})
version line = do
  line ← word (codes "1") line
  breach ← end_of line
  Some (tt, breach)

-- nodes N
unfoldable pub nodes : Production ℕ
nodes line = do
  (n, line) ← number line
  breach ← end_of line
  Some (n, breach)

-- item FROM TO LEAST GREATEST WEIGHT
unfoldable pub item : Production Item
item line = do
  (from, line) ← node line
  (to, line) ← node line
  (least, line) ← time line
  (greatest, line) ← time line
  (weight, line) ← number line
  breach ← end_of line
  Some (record { from = from; to = to; least = least; greatest = greatest; weight = weight }, breach)

-- start NODE OFFSET
unfoldable pub start : Production Start
start line = do
  (node, line) ← node line
  (offset, line) ← time line
  breach ← end_of line
  Some (record { node = node; offset = offset }, breach)

-- end NODE REQUIRE
unfoldable pub end : Production End
end line = do
  (node, line) ← node line
  (require, line) ← time line
  breach ← end_of line
  Some (record { node = node; require = require }, breach)
