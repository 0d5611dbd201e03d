-- The orders of pairs, checks, launch edges, launches, captures and arcs are strict: nothing comes before itself, and they go on.
use Rattle.std.specs.Prelude.{◌≡◌, ℕ, ◌==◌, ◌&&◌, ◌||◌, nat_lt, ℤ, int_lt, Bool, true, false}
use Rattle.std.proofs.Common.{refl, sym, ◌∙◌, arith, true≢false}
use Rattle.std.proofs.lemmas.Int.{ints}
use Rattle.bud_syntax.specs.declared.edges.Edge.{Edge}
use Rattle.bud_syntax.specs.declared.edges.Edge.TheVariants.{Rise, Fall}
use Rattle.bud_design.specs.declared.timings.Pair.{Pair}
use Rattle.bud_design.specs.declared.timings.Check.{Check}
use Rattle.bud_design.specs.declared.timings.LaunchEdge.{LaunchEdge}
use Rattle.bud_design.specs.declared.clocks.Launch.{Launch}
use Rattle.bud_design.specs.declared.clocks.Capture.{Capture}
use Rattle.bud_design.specs.Arcs.{Arc, arc_before}
use Rattle.bud_design.specs.Orders.{same_edge, pins_before, edge_before, pair_before, check_before, edge_pin_before, stands_before, launch_before, capture_before}

-- by a first number, and then by the rest
abbrev by_first : ℕ → ℕ → Bool → Bool
by_first a b rest = nat_lt a b || (a == b && rest)

first-never : (a : ℕ) (rest : Bool) → rest ≡ false → by_first a a rest ≡ false
first-never a rest none = rw none (grind arith)

first-trans : (a b c : ℕ) (r s t : Bool) → (r ≡ true → s ≡ true → t ≡ true) → by_first a b r ≡ true → by_first b c s ≡ true → by_first a c t ≡ true
first-trans a b c r s t on first second = by_less (nat_lt a b) (nat_lt b c) refl refl first second
  where
    by_rest : a ≡ b → b ≡ c → r ≡ true → s ≡ true → by_first a c t ≡ true
    by_rest same also one two = let three = on one two in let equal : a ≡ c = same ∙ also in rw (three, equal) (grind arith)

    by_less : (x y : Bool) → nat_lt a b ≡ x → nat_lt b c ≡ y → x || (a == b && r) ≡ true → y || (b == c && s) ≡ true → by_first a c t ≡ true
    by_less true true less also first second = let far : nat_lt a c ≡ true = grind arith in rw far refl
    by_less true false less most first second = let far : nat_lt a c ≡ true = grind arith in rw far refl
    by_less false true most less first second = let far : nat_lt a c ≡ true = grind arith in rw far refl
    by_less false false most also first second = by_rest (grind arith) (grind arith) (grind arith) (grind arith)

edge-never : (e : Edge) → edge_before e e ≡ false
edge-never Rise = refl
edge-never Fall = refl

edge-trans : (e f g : Edge) → edge_before e f ≡ true → edge_before f g ≡ true → edge_before e g ≡ true
edge-trans Rise Rise g first second = absurd (true≢false (sym first))
edge-trans Rise Fall Rise first second = absurd (true≢false (sym second))
edge-trans Rise Fall Fall first second = absurd (true≢false (sym second))
edge-trans Fall Rise g first second = absurd (true≢false (sym first))
edge-trans Fall Fall g first second = absurd (true≢false (sym first))

-- by an edge, and then by a number
abbrev by_edge : Edge → Edge → ℤ → ℤ → Bool
by_edge e f a b = edge_before e f || (same_edge e f && int_lt a b)

amount-never : (a : ℤ) → int_lt a a ≡ false
amount-never a = grind (arith, ints)

amount-trans : (a b c : ℤ) → int_lt a b ≡ true → int_lt b c ≡ true → int_lt a c ≡ true
amount-trans a b c first second = grind (arith, ints)

by_edge-never : (e : Edge) (a : ℤ) → by_edge e e a a ≡ false
by_edge-never Rise a = amount-never a
by_edge-never Fall a = amount-never a

by_edge-trans : (e f g : Edge) (a b c : ℤ) → by_edge e f a b ≡ true → by_edge f g b c ≡ true → by_edge e g a c ≡ true
by_edge-trans Rise Rise Rise a b c first second = amount-trans a b c first second
by_edge-trans Rise Rise Fall a b c first second = refl
by_edge-trans Rise Fall Rise a b c first second = absurd (true≢false (sym second))
by_edge-trans Rise Fall Fall a b c first second = refl
by_edge-trans Fall Rise g a b c first second = absurd (true≢false (sym first))
by_edge-trans Fall Fall Rise a b c first second = absurd (true≢false (sym second))
by_edge-trans Fall Fall Fall a b c first second = amount-trans a b c first second

pub pins_before-never : (a b : ℕ) → pins_before a b a b ≡ false
pins_before-never a b = grind arith

pub pins_before-trans : (a b c d e f : ℕ) → pins_before a b c d ≡ true → pins_before c d e f ≡ true → pins_before a b e f ≡ true
pins_before-trans a b c d e f first second =
    first-trans a c e (nat_lt b d) (nat_lt d f) (nat_lt b f) (λ less then. grind arith) first second

pub arc_before-never : (x : Arc) → arc_before x x ≡ false
arc_before-never x = pins_before-never x.from x.to

pub arc_before-trans : (x y z : Arc) → arc_before x y ≡ true → arc_before y z ≡ true → arc_before x z ≡ true
arc_before-trans x y z first second = pins_before-trans x.from x.to y.from y.to z.from z.to first second

pub pair_before-never : (x : Pair) → pair_before x x ≡ false
pair_before-never x = pins_before-never x.from.0 x.to.0

pub pair_before-trans : (x y z : Pair) → pair_before x y ≡ true → pair_before y z ≡ true → pair_before x z ≡ true
pair_before-trans x y z first second = pins_before-trans x.from.0 x.to.0 y.from.0 y.to.0 z.from.0 z.to.0 first second

pub edge_pin_before-never : (x : LaunchEdge) → edge_pin_before x x ≡ false
edge_pin_before-never x = grind arith

pub edge_pin_before-trans : (x y z : LaunchEdge) → edge_pin_before x y ≡ true → edge_pin_before y z ≡ true → edge_pin_before x z ≡ true
edge_pin_before-trans x y z first second = grind arith

stands-never : (v c : ℕ) (e : Edge) → stands_before v c e v c e ≡ false
stands-never v c e = first-never v (by_first c c (edge_before e e)) (first-never c (edge_before e e) (edge-never e))

stands-trans : (u v w b c d : ℕ) (e f g : Edge) → stands_before u b e v c f ≡ true → stands_before v c f w d g ≡ true → stands_before u b e w d g ≡ true
stands-trans u v w b c d e f g first second =
    first-trans u v w (by_first b c (edge_before e f)) (by_first c d (edge_before f g)) (by_first b d (edge_before e g))
    (λ one two. first-trans b c d (edge_before e f) (edge_before f g) (edge_before e g) (edge-trans e f g) one two) first second

pub launch_before-never : (l : Launch) → launch_before l l ≡ false
launch_before-never l = stands-never l.pin.0 l.clock l.edge

pub launch_before-trans : (l m n : Launch) → launch_before l m ≡ true → launch_before m n ≡ true → launch_before l n ≡ true
launch_before-trans l m n first second = stands-trans l.pin.0 m.pin.0 n.pin.0 l.clock m.clock n.clock l.edge m.edge n.edge first second

-- a check's order is by pin, clock and edge
check-nested : (p q r s t : Bool) → (p || (q && r)) || (q && (s && t)) ≡ p || (q && (r || (s && t)))
check-nested true q r s t = refl
check-nested false true r s t = refl
check-nested false false r s t = refl

abbrev checks_by : Check → Check → Bool
checks_by x y = by_first x.pin.0 y.pin.0 (by_first x.clock.0 y.clock.0 (edge_before x.edge y.edge))

check-by : (x y : Check) → check_before x y ≡ checks_by x y
check-by x y = check-nested (nat_lt x.pin.0 y.pin.0) (x.pin.0 == y.pin.0) (nat_lt x.clock.0 y.clock.0) (x.clock.0 == y.clock.0) (edge_before x.edge y.edge)

pub check_before-never : (x : Check) → check_before x x ≡ false
check_before-never x = check-by x x ∙ stands-never x.pin.0 x.clock.0 x.edge

pub check_before-trans : (x y z : Check) → check_before x y ≡ true → check_before y z ≡ true → check_before x z ≡ true
check_before-trans x y z first second =
    check-by x z
    ∙ stands-trans x.pin.0 y.pin.0 z.pin.0 x.clock.0 y.clock.0 z.clock.0 x.edge y.edge z.edge (sym (check-by x y) ∙ first) (sym (check-by y z) ∙ second)

-- a capture's order is by pin, clock, edge and amount
capture-nested : (p q r s t u : Bool) → (p || (q && (r || (s && t)))) || (q && (s && u)) ≡ p || (q && (r || (s && (t || u))))
capture-nested true q r s t u = refl
capture-nested false true true s t u = refl
capture-nested false true false true t u = refl
capture-nested false true false false t u = refl
capture-nested false false r s t u = refl

abbrev captures_by : Capture → Capture → Bool
captures_by x y = by_first x.pin.0 y.pin.0 (by_first x.clock y.clock (by_edge x.edge y.edge x.amount y.amount))

capture-by : (x y : Capture) → capture_before x y ≡ captures_by x y
capture-by x y =
    capture-nested (nat_lt x.pin.0 y.pin.0) (x.pin.0 == y.pin.0) (nat_lt x.clock y.clock) (x.clock == y.clock) (edge_before x.edge y.edge) (same_edge x.edge y.edge && int_lt x.amount y.amount)

pub capture_before-never : (x : Capture) → capture_before x x ≡ false
capture_before-never x =
    capture-by x x
    ∙ first-never x.pin.0 (by_first x.clock x.clock (by_edge x.edge x.edge x.amount x.amount))
    (first-never x.clock (by_edge x.edge x.edge x.amount x.amount) (by_edge-never x.edge x.amount))

pub capture_before-trans : (x y z : Capture) → capture_before x y ≡ true → capture_before y z ≡ true → capture_before x z ≡ true
capture_before-trans x y z first second =
    capture-by x z
    ∙ first-trans x.pin.0 y.pin.0 z.pin.0 (by_first x.clock y.clock (by_edge x.edge y.edge x.amount y.amount)) (by_first y.clock z.clock (by_edge y.edge z.edge y.amount z.amount))
    (by_first x.clock z.clock (by_edge x.edge z.edge x.amount z.amount))
    (λ one two.
    first-trans x.clock y.clock z.clock (by_edge x.edge y.edge x.amount y.amount) (by_edge y.edge z.edge y.amount z.amount) (by_edge x.edge z.edge x.amount z.amount)
    (by_edge-trans x.edge y.edge z.edge x.amount y.amount z.amount) one two)
    (sym (capture-by x y) ∙ first) (sym (capture-by y z) ∙ second)

-- numbers in order, as of pins without a clock
pub number_before-never : (a : ℕ) → nat_lt a a ≡ false
number_before-never a = grind arith

pub number_before-trans : (a b c : ℕ) → nat_lt a b ≡ true → nat_lt b c ≡ true → nat_lt a c ≡ true
number_before-trans a b c first second = grind arith
