-- Problem texts: what is in the grammar, with which value, and what a reader of them answers.
use Rattle.std.specs.Prelude.{◌≡◌, ℕ, ◌≤◌, List, ◌∷◌, ◌++◌, length, Option, Some, None, Result, Ok, Err, codes}
use Rattle.line_text.specs.Parts.{Row, rows_of}
use Rattle.line_text.specs.Lines.{titled, Each}
use Rattle.problem_text.specs.Lines as lines
use Rattle.bud_base.specs.declared.problems.Problem.{Problem}
use Rattle.bud_base.specs.declared.texts.TextFault.{TextFault}
use Rattle.bud_base.specs.declared.texts.TextFault.TheVariants.{Syntax, Value, NoMemory}

-- The rows are a problem text in the loose form, in which numbers may be of any size: the line `problem 1`, the line
-- `nodes N`, then items, starts and ends. Where all numbers are in their ranges, `breach` is None and the value is p;
-- else it is the least offset of a number that isn't, and in p the least of the range stands for such a number.
pub record IsProblem (rows : List Row) (p : Problem) (breach : Option ℕ) : Type 0 where
  pub version : Row
  pub nodes : Row
  pub items : List Row
  pub starts : List Row
  pub ends : List Row
  pub in_order : rows ≡ version ∷ nodes ∷ (items ++ (starts ++ ends))
  pub before_nodes : Option ℕ
  pub before_items : Option ℕ
  pub before_starts : Option ℕ
  pub before_ends : Option ℕ
  pub is_version : titled (codes "problem") lines.version (version, None) ≡ Some (tt, before_nodes)
  pub are_nodes : titled (codes "nodes") lines.nodes (nodes, before_nodes) ≡ Some (p.nodes, before_items)
  pub are_items : Each (titled (codes "item") lines.item) items before_items p.items before_starts
  pub are_starts : Each (titled (codes "start") lines.start) starts before_starts p.starts before_ends
  pub are_ends : Each (titled (codes "end") lines.end) ends before_ends p.ends breach

-- the text reads as the problem
abbrev pub Reads : List ℕ → Problem → Type 0
Reads text p = IsProblem (rows_of text) p None

-- the text is in the loose form, and this is the least offset of a number out of its range
abbrev pub IsBreached : List ℕ → ℕ → Type 0
IsBreached text at = (p : Problem) × IsProblem (rows_of text) p (Some at)

-- the text isn't in the loose form
abbrev pub IsMalformed : List ℕ → Type 0
IsMalformed text = (p : Problem) (breach : Option ℕ) → IsProblem (rows_of text) p breach → ⊥

-- what each answer of `read_problem` says of the text
abbrev pub IsReadAnswer : List ℕ → Result Problem TextFault → Type 0
IsReadAnswer text (Ok p) = Reads text p
IsReadAnswer text (Err (Value at)) = IsBreached text at
IsReadAnswer text (Err (Syntax at)) = IsMalformed text
IsReadAnswer text (Err NoMemory) = Unit {0}

-- no list of the problem has more elements than this
pub record HasAtMost (most : ℕ) (p : Problem) : Type 0 where
  pub items : length p.items ≤ most
  pub starts : length p.starts ≤ most
  pub ends : length p.ends ≤ most
