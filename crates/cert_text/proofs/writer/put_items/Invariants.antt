use Rattle.std.proofs.Common.{◌≡◌, ◌++◌, drop}
use Rattle.std.specs.List.{flat_map}
use Rattle.cert_text.specs.Writing.{item_line}
use Rattle.cert_text.proofs.writer.put_items.Given as goal

-- the lines so far and those of what is left are all lines
abbrev pub invariant-loop-item : goal.invariant-loop-item
invariant-loop-item l = l.out.items ++ flat_map item_line (drop l.item-index l.items) ≡ l.fn.out.items ++ flat_map item_line l.items
