-- How a problem is written, and which problems have a text.
use Rattle.std.specs.Prelude.{ℕ, ◌^◌, ◌<◌, ◌≤ℤ◌, ◌-ℤ◌, ℤ, pos, List, [], ◌∷◌, ◌++◌, codes, decimal}
use Rattle.std.specs.List.{flat_map, AllByRecursion}
use Rattle.std.specs.Fmt.{signed_decimal}
use Rattle.line_text.specs.Written.{written}
use Rattle.bud_base.specs.declared.problems.Problem.{Problem}
use Rattle.bud_base.specs.declared.problems.Item.{Item}
use Rattle.bud_base.specs.declared.problems.Start.{Start}
use Rattle.bud_base.specs.declared.problems.End.{End}

abbrev pub item_fields : Item → List (List ℕ)
item_fields x = decimal x.from.0 ∷ decimal x.to.0 ∷ signed_decimal x.least ∷ signed_decimal x.greatest ∷ decimal x.weight ∷ []

abbrev pub start_fields : Start → List (List ℕ)
start_fields s = decimal s.node.0 ∷ signed_decimal s.offset ∷ []

abbrev pub end_fields : End → List (List ℕ)
end_fields e = decimal e.node.0 ∷ signed_decimal e.require ∷ []

abbrev pub nodes_line : ℕ → List ℕ
nodes_line n = written (codes "nodes") (decimal n ∷ [])

abbrev pub item_line : Item → List ℕ
item_line x = written (codes "item") (item_fields x)

abbrev pub start_line : Start → List ℕ
start_line s = written (codes "start") (start_fields s)

abbrev pub end_line : End → List ℕ
end_line e = written (codes "end") (end_fields e)

-- the text that is written for a problem: one line for each part, in order, with one space between two fields
abbrev pub text_of : Problem → List ℕ
text_of p =
    written (codes "problem") (codes "1" ∷ [])
    ++ (nodes_line p.nodes
    ++ (flat_map item_line p.items ++ (flat_map start_line p.starts ++ flat_map end_line p.ends)))

-- a time of a text is within 2^62 ps either way
pub record IsTextTime (time : ℤ) : Type 0 where
  pub low : (pos 0 -ℤ pos 4611686018427387904) ≤ℤ time
  pub high : time ≤ℤ pos 4611686018427387904

pub record IsTextItem (x : Item) : Type 0 where
  pub from : x.from.0 < 2 ^ 32
  pub to : x.to.0 < 2 ^ 32
  pub least : IsTextTime x.least
  pub greatest : IsTextTime x.greatest
  pub weight : x.weight < 2 ^ 32

pub record IsTextStart (s : Start) : Type 0 where
  pub node : s.node.0 < 2 ^ 32
  pub offset : IsTextTime s.offset

pub record IsTextEnd (e : End) : Type 0 where
  pub node : e.node.0 < 2 ^ 32
  pub require : IsTextTime e.require

-- the problem's numbers are in the ranges of a text
pub record IsInTextRanges (p : Problem) : Type 0 where
  pub nodes : p.nodes < 2 ^ 32
  pub items : AllByRecursion IsTextItem p.items
  pub starts : AllByRecursion IsTextStart p.starts
  pub ends : AllByRecursion IsTextEnd p.ends
