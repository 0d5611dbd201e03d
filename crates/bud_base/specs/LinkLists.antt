-- What links hold.
use Rattle.std.specs.Prelude.{List, Option}
use Rattle.bud_base.specs.declared.ids.ItemId.{ItemId}

-- the first item of each node, and the next item after each item
pub record LinkLists : Type 0 where
  pub first : List (Option ItemId)
  pub next : List (Option ItemId)
