use Rattle.std.proofs.Common.{◌≡◌, ◌<◌, ltb, List, sym, ◌∙◌, ap, arith, refl}
use Rattle.std.proofs.lemmas.Bool.{le-ltb}
use Rattle.net_delays.specs.Forests.{mark_at, spot_at, IsSettled}
use Rattle.net_delays.specs.WireForests.{Forest, IsSoundForest, IsPinAbove}
use Rattle.net_delays.specs.declared.forests.Mark.{Mark}
use Rattle.net_delays.proofs.Above.{joins_higher, joins_lower}
use Rattle.net_delays.proofs.wire_forests.WireForest.joins.Goals as goal
use Rattle.net_delays.proofs.wire_forests.WireForest.joins.Goals.{After-settled_spot-last}

sound : (c : After-settled_spot-last) → IsSoundForest c.args.self.now
sound c = rw c.self.view_is at c.self.invariant

marks : (c : After-settled_spot-last) → c.self.inside.marks.items ≡ c.args.self.now.marks
marks c = ap (λ (f : Forest). f.marks) c.self.view_is

first : (c : After-settled_spot-last) → c.settled_spot-first.result ≡ spot_at c.args.self.now.marks c.args.from.0
first c = c.settled_spot-first.ensures ∙ ap (λ (m : List Mark). spot_at m c.args.from.0) (c.deref.ensures.value ∙ marks c)

last : (c : After-settled_spot-last) → c.settled_spot-last.result ≡ spot_at c.args.self.now.marks c.args.to.0
last c = c.settled_spot-last.ensures ∙ ap (λ (m : List Mark). spot_at m c.args.to.0) (c.deref-2.ensures.value ∙ marks c)

pub returns-then-first-last : goal.returns-then-first-last
returns-then-first-last c =
    let k = (goal.at.returns-then-first-last c).After-settled_spot-last in
    let whole = (sound k).grown.whole in
    let higher : (spot_at c.args.self.now.marks c.args.from.0).depth < (spot_at c.args.self.now.marks c.args.to.0).depth = rw (first k, last k) at c.if-first-last.true in
    joins_higher c.args.self.now (sound k) c.args.from.0 c.args.to.0 c.pin_above.result.0 c.eq.result (whole c.args.from.0 c.requires.from) (whole c.args.to.0 c.requires.to) higher
    (rw (first k) at c.pin_above.ensures) (rw (first k) at c.eq.ensures)

pub returns-else-first-last : goal.returns-else-first-last
returns-else-first-last c =
    let k = (goal.at.returns-else-first-last c).After-settled_spot-last in
    rw (first k, last k)
    (joins_lower c.args.self.now (sound k) c.args.from.0 c.args.to.0 (ltb (spot_at c.args.self.now.marks c.args.from.0).depth (spot_at c.args.self.now.marks c.args.to.0).depth) ((sound k).grown.whole c.args.to.0 c.requires.to) refl
    (let lower = rw (first k, last k) at c.if-first-last.false in le-ltb (spot_at c.args.self.now.marks c.args.from.0).depth (spot_at c.args.self.now.marks c.args.to.0).depth lower))
