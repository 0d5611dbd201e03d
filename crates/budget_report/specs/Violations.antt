-- What is printed of the least slack and of a violated path of a raw problem.
use Rattle.std.specs.Prelude.{ℕ, ℤ, List, [], ◌∷◌, ◌++◌, codes, decimal}
use Rattle.std.specs.Fmt.{signed_decimal}
use Rattle.bud_base.specs.Paths.{item_at, start_at, end_at, Path}
use Rattle.bud_base.specs.declared.ids.ItemId.{ItemId}
use Rattle.bud_base.specs.declared.problems.Item.{Item}
use Rattle.bud_base.specs.declared.problems.Start.{Start}
use Rattle.bud_base.specs.declared.problems.End.{End}
use Rattle.bud_base.specs.declared.problems.Problem.{Problem}
use Rattle.budget_report.specs.Lines.{line, no_class}

-- where the least slack is at least 0
abbrev pub meets_text : ℤ → List ℕ
meets_text slack = line (codes "meets" ∷ signed_decimal slack ∷ [])

abbrev pub no_paths_text : List ℕ
no_paths_text = line (codes "no" ∷ codes "paths" ∷ [])

-- an item's line, with its least delay
abbrev pub arc_line : Item → List ℕ
arc_line x = line (codes "arc" ∷ decimal x.from.0 ∷ decimal x.to.0 ∷ signed_decimal x.least ∷ [])

-- the lines of a path's items
abbrev pub arc_lines : List Item → List ItemId → List ℕ
arc_lines items [] = []
arc_lines items (i ∷ is) = arc_line (item_at items i.0) ++ arc_lines items is

abbrev pub start_line : Start → List ℕ
start_line s = line (codes "start" ∷ decimal s.node.0 ∷ no_class ∷ signed_decimal s.offset ∷ [])

abbrev pub end_line : End → List ℕ
end_line e = line (codes "end" ∷ decimal e.node.0 ∷ no_class ∷ signed_decimal e.require ∷ [])

-- the slack, and the path with its start's offset, its items and its end's required time
abbrev pub violated_text : Problem → ℤ → Path → List ℕ
violated_text p slack path =
    line (codes "violated" ∷ signed_decimal slack ∷ [])
    ++ start_line (start_at p.starts path.start)
    ++ arc_lines p.items path.items
    ++ end_line (end_at p.ends path.end)
