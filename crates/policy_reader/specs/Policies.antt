-- Policy texts: what is in the grammar, with which value, and what a reader of them answers.
use Rattle.std.specs.Prelude.{◌≡◌, ℕ, ◌≤◌, pos, ◌≤ℤ◌, ℤ, List, ◌∷◌, Option, Some, None, Result, Ok, Err, codes}
use Rattle.line_text.specs.Parts.{Row, rows_of}
use Rattle.line_text.specs.Lines.{titled, Each}
use Rattle.policy_reader.specs.Lines as lines
use Rattle.bud_design.specs.declared.policies.Policy.{Policy}
use Rattle.bud_design.specs.declared.policies.PolicyLine.{PolicyLine}
use Rattle.bud_design.specs.declared.policies.PolicyLine.TheVariants as policy
use Rattle.bud_base.specs.declared.texts.TextFault.{TextFault}
use Rattle.bud_base.specs.declared.texts.TextFault.TheVariants.{Syntax, Value, NoMemory}

-- The rows are a policy text in the loose form, in which numbers may be of any size: the line `policy 1` or `policy 2`,
-- then blocks, defaults, instances and arcs in any order. Where all numbers are in their ranges, `breach` is None and the
-- value is the policy; else it is the least offset of a number that isn't, and in the value the least of the range stands
-- for such a number.
pub record IsPolicy (rows : List Row) (p : Policy) (breach : Option ℕ) : Type 0 where
  pub version : Row
  pub others : List Row
  pub in_order : rows ≡ version ∷ others
  pub before_lines : Option ℕ
  pub is_version : titled (codes "policy") lines.version (version, None) ≡ Some (p.version, before_lines)
  pub are_lines : Each (lines.policy_line p.version) others before_lines p.lines breach

-- the text reads as the policy
abbrev pub Reads : List ℕ → Policy → Type 0
Reads text p = IsPolicy (rows_of text) p None

-- the text is in the loose form, and this is the least offset of a number out of its range
abbrev pub IsBreached : List ℕ → ℕ → Type 0
IsBreached text at = (p : Policy) × IsPolicy (rows_of text) p (Some at)

-- the text isn't in the loose form
abbrev pub IsMalformed : List ℕ → Type 0
IsMalformed text = (p : Policy) (breach : Option ℕ) → IsPolicy (rows_of text) p breach → ⊥

-- what each answer of `read_policy` says of the text
abbrev pub IsReadAnswer : List ℕ → Result Policy TextFault → Type 0
IsReadAnswer text (Ok p) = Reads text p
IsReadAnswer text (Err (Value at)) = IsBreached text at
IsReadAnswer text (Err (Syntax at)) = IsMalformed text
IsReadAnswer text (Err NoMemory) = Unit {0}

-- an extra of 0 to 10^9 ps and a weight of at most 2^20
pub record IsInRange (extra : ℤ) (weight : ℕ) : Type 0 where
  pub low : pos 0 ≤ℤ extra
  pub high : extra ≤ℤ pos 1000000000
  pub most : weight ≤ 1048576

-- the numbers of a line are in their ranges
abbrev pub HasRanges : PolicyLine → Type 0
HasRanges (policy.Block path) = Unit {0}
HasRanges (policy.Default extra weight clock) = IsInRange extra weight
HasRanges (policy.Inst path extra weight clock) = IsInRange extra weight
HasRanges (policy.Arc from to extra weight clock) = IsInRange extra weight
