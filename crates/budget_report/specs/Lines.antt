-- Printed lines, and the words that several of them have.
use Rattle.std.specs.Prelude.{ℕ, List, [], ◌∷◌, ◌++◌, codes, decimal}
use Rattle.line_text.specs.Written.{written}
use Rattle.bud_base.specs.declared.problems.Item.{Item}

-- the line of these fields, with one space between them; no fields have no line
abbrev pub line : List (List ℕ) → List ℕ
line [] = []
line (title ∷ fields) = written title fields

-- the class of all that a raw problem has
abbrev pub no_class : List ℕ
no_class = codes "0"

-- an item's nodes
abbrev pub nodes_of : Item → List (List ℕ)
nodes_of x = decimal x.from.0 ∷ decimal x.to.0 ∷ []
