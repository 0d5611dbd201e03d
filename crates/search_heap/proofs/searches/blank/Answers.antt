use Rattle.std.proofs.Common.{◌≡◌, length, arith, ◌∙◌}
use Rattle.std.proofs.lemmas.List.{with_items_is}
use Rattle.search_heap.proofs.Keeping.{AreBlank-cleared}
use Rattle.search_heap.proofs.searches.blank.Goals as goal

pub returns : goal.returns
returns c =
    let size : length c.clear.new.entries ≡ c.in_ok-entries.entries.len = c.clear.ensures.size ∙ c.deref_mut.ensures.len in
    AreBlank-cleared _ c.clear.new.entries c.args.nodes (with_items_is c.in_ok-entries.entries c.clear.new.entries size) (omega (arith, size, c.in_ok-entries.ensures.len)) c.clear.ensures.none
