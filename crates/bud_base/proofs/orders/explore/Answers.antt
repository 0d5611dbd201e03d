use Rattle.std.proofs.Common.{◌≡◌, ◌-◌, [], length, set, refl, ◌∙◌, ap, arith}
use Rattle.std.proofs.lemmas.List.Sums.{count_by-le-length}
use Rattle.bud_base.specs.Paths.{item_at}
use Rattle.bud_base.specs.Searches.{is_new}
use Rattle.bud_base.proofs.Places.{count_new-kept}
use Rattle.bud_base.proofs.Ways.{IsWay-top}
use Rattle.bud_base.proofs.Explorations.{IsExploring-root, IsExploring-enter, IsExploring-back, IsExploring-end, HasRing-from_way}
use Rattle.std.proofs.lemmas.List.{length-set}
use Rattle.bud_base.specs.declared.orders.Mark.TheVariants.{Open, Placed}
use Rattle.bud_base.proofs.orders.explore.Goals as goal
use Rattle.bud_base.proofs.orders.explore.Goals.{After-first}

-- the marks keep their number
size : (c : After-first) → length (set c.args.marks.now c.args.root.0 (Open 0)) ≡ length c.args.marks.now
size c = length-set c.args.marks.now c.args.root.0 (Open 0)

pub search-init : goal.search-init
search-init c =
    IsExploring-root _ _ _ _ _ _ (omega (arith, c.requires.arranged.count, count_by-le-length is_new c.args.marks.now)) c.requires.root c.requires.new
    (c.first.ensures ∙ c.requires.links.first _ (omega (arith, c.requires.room, c.requires.root))) c.requires.arranged

pub search-preserved-in-Enter : goal.search-preserved-in-Enter
search-preserved-in-Enter c =
    let leads = c.in-Enter.ensures.0 in
    let within = (c.requires.within c.in-Enter.item.0 (item_at [] 0) leads.within).to in
    let sizes = size (goal.at.search-preserved-in-Enter c).After-first in
    IsExploring-enter _ _ _ _ _ _ _ _ _ _ _ (omega arith) (omega (arith, within)) leads c.in-Enter.ensures.1 refl
    (c.first-in-Enter.ensures ∙ c.requires.links.first _ (omega (arith, within))) c.search.invariant

pub returns-in-Ring : goal.returns-in-Ring
returns-in-Ring c =
    let sizes = size (goal.at.returns-in-Ring c).After-first in
    HasRing-from_way _ _ _ _ _ _ _ _ _ _ _ (omega arith) c.in-Ring.ensures c.search.invariant

pub returns-then-depth-eq0 : goal.returns-then-depth-eq0
returns-then-depth-eq0 c =
    let sizes = size (goal.at.returns-then-depth-eq0 c).After-first in
    IsExploring-end _ _ _ _ _ _ _ _ _ _ (omega arith) (omega (arith, c.search.invariant.count)) c.if-depth-eq0.true c.in-Close.ensures c.search.invariant

pub search-smaller : goal.search-smaller
search-smaller c =
    let now = c.search.invariant in
    let as_many = count_new-kept c.search.marks c.search.top.node.0 (Placed (c.search.free - 1)) now.within (ap is_new (IsWay-top _ _ _ _ _ now.way)) refl in
    omega (arith, as_many, c.if-depth-eq0.false)

pub search-preserved : goal.search-preserved
search-preserved c =
    let sizes = size (goal.at.search-preserved c).After-first in
    let within = c.search.invariant.way.joined.ids (c.search.depth - 1) (omega arith) in
    IsExploring-back _ _ _ _ _ _ _ _ _ _ _ _ (omega arith) (omega (arith, c.search.invariant.count)) (omega arith) c.in-Close.ensures refl
    (c.next.ensures ∙ c.requires.links.next _ within) c.search.invariant
