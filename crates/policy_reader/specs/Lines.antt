-- The kinds of lines of a policy: what stands behind the first word of each.
use Rattle.std.specs.Prelude.{ℕ, ◌==◌, ◌&&◌, Bool, not, pos, List, Option, Some, None, codes, if◌then◌else◌}
use Rattle.std.specs.Str.{bytes_eq}
use Rattle.text_scan.specs.Left.{Left, ◌>>=◌, next, end_of}
use Rattle.line_text.specs.Parts.{Part, is_empty}
use Rattle.line_text.specs.Numbers.{whole, count, word}
use Rattle.line_text.specs.Names.{name}
use Rattle.line_text.specs.Lines.{Production}
use Rattle.bud_design.specs.declared.policies.PolicyLine.{PolicyLine}
use Rattle.bud_design.specs.declared.policies.PolicyLine.TheVariants as policy
use Rattle.policy_reader.specs.declared.lines.Kind.{Kind}
use Rattle.policy_reader.specs.declared.lines.Kind.TheVariants as kind
use Rattle.policy_reader.specs.declared.lines.Amounts.{Amounts}

-- 1 or 2
abbrev pub version_of : List ℕ → Option ℕ
version_of bytes = if bytes_eq bytes (codes "1") then Some 1 else (if bytes_eq bytes (codes "2") then Some 2 else None)

-- policy 1, or policy 2
unfoldable pub version : Production ℕ
version line = do
  (field, line) ← next line
  number ← version_of field.bytes
  breach ← end_of line
  Some (number, breach)

-- no clock: nothing is left
unfoldable pub no_clock : Production (Option (List ℕ))
no_clock line = do
  breach ← end_of line
  Some (None, breach)

-- clock NAME
unfoldable pub one_clock : Production (Option (List ℕ))
one_clock line = do
  line ← word (codes "clock") line
  (name, line) ← name line
  breach ← end_of line
  Some (Some name, breach)

-- the end of a line: under version 2 a clock or nothing, under version 1 nothing
abbrev pub has_clock : ℕ → Left Part → Bool
has_clock version line = version == 2 && not (is_empty line.0)

unfoldable pub clock : ℕ → Production (Option (List ℕ))
clock version line = if has_clock version line then one_clock line else no_clock line

-- extra E weight W, and the end: E from 0 to 10^9 ps, W from 0 to 2^20
unfoldable pub given : ℕ → Production Amounts
given version line = do
  line ← word (codes "extra") line
  (extra, line) ← whole (pos 0) (pos 1000000000) line
  line ← word (codes "weight") line
  (weight, line) ← count 0 1048576 line
  (clock, breach) ← clock version line
  Some (record { extra = extra; weight = weight; clock = clock }, breach)

-- block PATH
unfoldable pub block : Production PolicyLine
block line = do
  (path, line) ← name line
  breach ← end_of line
  Some (policy.Block path, breach)

-- default extra E weight W
unfoldable pub default : ℕ → Production PolicyLine
default version line = do
  (x, breach) ← given version line
  Some (policy.Default x.extra x.weight x.clock, breach)

-- inst PATH extra E weight W
unfoldable pub inst : ℕ → Production PolicyLine
inst version line = do
  (path, line) ← name line
  (x, breach) ← given version line
  Some (policy.Inst path x.extra x.weight x.clock, breach)

-- arc FROM TO extra E weight W
unfoldable pub arc : ℕ → Production PolicyLine
arc version line = do
  (from, line) ← name line
  (to, line) ← name line
  (x, breach) ← given version line
  Some (policy.Arc from to x.extra x.weight x.clock, breach)

-- the kind of line that a first word begins
abbrev pub kind_of : List ℕ → Option Kind
kind_of bytes =
    if bytes_eq bytes (codes "block") then Some kind.Block
    else (if bytes_eq bytes (codes "default") then Some kind.Default
    else (if bytes_eq bytes (codes "inst") then Some kind.Inst
    else (if bytes_eq bytes (codes "arc") then Some kind.Arc else None)))

abbrev pub line_of : ℕ → Kind → Production PolicyLine
line_of version kind.Block line = block line
line_of version kind.Default line = default version line
line_of version kind.Inst line = inst version line
line_of version kind.Arc line = arc version line

-- a line of a policy of this version
unfoldable pub policy_line : ℕ → Production PolicyLine
policy_line version row = do
  (field, line) ← next row
  kind ← kind_of field.bytes
  line_of version kind line
