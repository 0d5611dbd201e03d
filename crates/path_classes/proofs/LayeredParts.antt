-- Equal parts make equal layerings.
use Rattle.std.proofs.Common.{◌≡◌, ℕ, List, refl}
use Rattle.bud_base.specs.declared.problems.Item.{Item}
use Rattle.bud_base.specs.declared.problems.Start.{Start}
use Rattle.bud_base.specs.declared.problems.End.{End}
use Rattle.bud_design.specs.declared.layers.Class.{Class}
use Rattle.bud_design.specs.declared.layers.LayerNode.{LayerNode}
use Rattle.bud_design.specs.declared.layers.LayerItem.{LayerItem}
use Rattle.bud_design.specs.declared.layers.Layered.{Layered}

pub layered-same : (m n : ℕ) (is js : List Item) (ss ts : List Start) (es fs : List End) (cs ds : List Class) (xs ys : List LayerNode) (us vs : List LayerItem) → m ≡ n → is ≡ js → ss ≡ ts → es ≡ fs → cs ≡ ds
    → xs ≡ ys → us ≡ vs
    → ◌≡◌ {A = Layered} (record { problem = record { nodes = m; items = is; starts = ss; ends = es }; classes = cs; nodes = xs; items = us; version = 1 })
    (record { problem = record { nodes = n; items = js; starts = ts; ends = fs }; classes = ds; nodes = ys; items = vs; version = 1 })
layered-same m n is js ss ts es fs cs ds xs ys us vs counts items starts ends classes nodes arcs = rw (counts, items, starts, ends, classes, nodes, arcs) refl
