-- Requirements of sound constraints lie within 10^12 ps, and what captures ask for within 2*10^12.
use Rattle.std.specs.Prelude.{◌≡◌, ℕ, zero, suc, ◌<◌, ◌≤◌, ◌==◌, ◌%◌, ◌-◌, ℤ, pos, negsuc, ◌+ℤ◌, ◌-ℤ◌, ◌*ℤ◌, ◌≤ℤ◌, nat_abs, Bool, true, false, List, [], ◌∷◌, filter_map, All, Option, Some, None, unwrap_or, int_le, slice_index_or, if◌then◌else◌}
use Rattle.std.specs.Int.{int_rem_euclid}
use Rattle.std.specs.Option.{option_or}
use Rattle.std.proofs.Common.{refl, ap, subst, arith}
use Rattle.std.proofs.lemmas.Int.{ints}
use Rattle.std.proofs.lemmas.Nat.{mod_below, mul-le}
use Rattle.std.proofs.lemmas.Option.{none-some}
use Rattle.std.specs.List.{list_any, cons_option}
use Rattle.bud_design.specs.ConstraintRules.{IsSoundKind}
use Rattle.bud_design.specs.Exceptions.{required_by, most_delay, more_cycles, is_false_kind}
use Rattle.bud_design.specs.declared.clocks.ExceptionKind.{ExceptionKind}
use Rattle.bud_design.specs.declared.clocks.ExceptionKind.TheVariants.{FalsePath, Multicycle, MaxDelay}
use Rattle.bud_design.specs.Clocks.{IsSoundClock, divisor_in, common_divisor, or_whole, relation, edge_time}
use Rattle.bud_design.specs.Lists.{least, lesser}
use Rattle.bud_design.specs.declared.clocks.Clock.{Clock}
use Rattle.bud_syntax.specs.declared.edges.Edge.{Edge}

divisor_in-within : (n a b m : ℕ) → a ≤ m → b ≤ m → divisor_in n a b ≤ m
divisor_in-within zero a b m first second = first
divisor_in-within (suc n) a zero m first second = first
divisor_in-within (suc n) a (suc b) m first second =
    let some : (suc b == 0) ≡ false = grind arith in
    let below = mod_below a (suc b) (omega arith) in
    rw some (divisor_in-within n (suc b) (a % suc b) m second (omega (arith, below, second)))

pub divisor_in-some : (n a b : ℕ) → 0 < a → 0 < divisor_in n a b
divisor_in-some zero a b some = some
divisor_in-some (suc n) a zero some = some
divisor_in-some (suc n) a (suc b) some =
    let other : (suc b == 0) ≡ false = grind arith in
    rw other (divisor_in-some n (suc b) (a % suc b) (omega arith))

pub record IsWithin (low high z : ℤ) : Type 0 where
  pub least : low ≤ℤ z
  pub most : z ≤ℤ high

or_whole-within : (r g : ℕ) → r < g → IsWithin (pos 1) (pos g) (or_whole (pos r) (pos g))
or_whole-within zero g below = record { least = omega (arith, ints, below); most = omega (arith, ints) }
or_whole-within (suc r) g below = record { least = omega (arith, ints); most = omega (arith, ints, below) }

rest-within : (z : ℤ) (g : ℕ) → 0 < g → IsWithin (pos 1) (pos g) (or_whole (int_rem_euclid z (pos g)) (pos g))
rest-within (pos a) g some = or_whole-within (a % g) g (mod_below a g some)
rest-within (negsuc a) g some = or_whole-within (g - 1 - a % g) g (omega (arith, some))

abs-within : (z : ℤ) → pos 2 ≤ℤ z → z ≤ℤ pos 1000000000 → (0 < nat_abs z) × (nat_abs z ≤ 1000000000)
abs-within (pos n) low high = (omega (arith, ints, low), omega (arith, ints, high))
abs-within (negsuc n) low high = absurd (omega (arith, ints, low))

-- the relation of sound clocks is from 1 to 10^9
pub relation-within : (launch capture : Clock) (edge at : Edge) → IsSoundClock launch → IsSoundClock capture → IsWithin (pos 1) (pos 1000000000) (relation launch edge capture at)
relation-within launch capture edge at first second =
    let p = abs-within launch.period first.shortest first.longest in
    let q = abs-within capture.period second.shortest second.longest in
    let g = common_divisor (nat_abs launch.period) (nat_abs capture.period) in
    let some : 0 < g = divisor_in-some (suc (nat_abs capture.period)) (nat_abs launch.period) (nat_abs capture.period) p.0 in
    let most : g ≤ 1000000000 = divisor_in-within (suc (nat_abs capture.period)) (nat_abs launch.period) (nat_abs capture.period) 1000000000 p.1 q.1 in
    let here = rest-within (edge_time capture at -ℤ edge_time launch edge) g some in
    record { least = here.least; most = omega (arith, ints, here.most, most) }

-- the least of numbers within bounds is within them
lesser-within : (low high z y : ℤ) (b : Bool) → IsWithin low high z → IsWithin low high y → IsWithin low high (if b then z else y)
lesser-within low high z y true first second = first
lesser-within low high z y false first second = second

lesser-of-within : (low high z : ℤ) (o : Option ℤ) → IsWithin low high z → ((y : ℤ) → o ≡ Some y → IsWithin low high y) → IsWithin low high (lesser z o)
lesser-of-within low high z None first others = first
lesser-of-within low high z (Some y) first others = lesser-within low high z y (int_le z y) first (others y refl)

least-at : (low high : ℤ) (o : Option ℤ) (ys : List ℤ) → ((y : ℤ) → o ≡ Some y → IsWithin low high y) → ((y : ℤ) → least ys ≡ Some y → IsWithin low high y)
    → (z : ℤ) → least (cons_option o ys) ≡ Some z → IsWithin low high z
least-at low high None ys here rest z is = rest z is
least-at low high (Some y) ys here rest z is = subst (IsWithin low high) (ap (λ o. unwrap_or o z) is) (lesser-of-within low high y (least ys) (here y refl) rest)

-- the least of the numbers that a function gives, each within bounds
pub least-within : {X : Type 0} (low high : ℤ) (f : X → Option ℤ) (xs : List X) → All (λ x. (z : ℤ) → f x ≡ Some z → IsWithin low high z) xs
    → (z : ℤ) → least (filter_map f xs) ≡ Some z → IsWithin low high z
least-within low high f [] within z is = absurd (none-some z is)
least-within {X} low high f (x ∷ xs) within z is =
    least-at low high (f x) (filter_map f xs) (λ y e. within 0 x (omega arith) y e) (λ y e. least-within low high f xs (λ k d below. within (suc k) d (omega (arith, below))) y e) z is

most_delay-within : (kind : ExceptionKind) → IsSoundKind kind → (z : ℤ) → most_delay kind ≡ Some z → IsWithin (negsuc 999999999) (pos 1000000000000) z
most_delay-within FalsePath sound z is = absurd (none-some z is)
most_delay-within (Multicycle n by_launch) sound z is = absurd (none-some z is)
most_delay-within (MaxDelay amount) sound z is =
    let same : amount ≡ z = ap (λ o. unwrap_or o z) is in
    record { least = omega (arith, ints, sound.low, same); most = omega (arith, ints, sound.high, same) }

times-within : (n : ℕ) (period : ℤ) → n ≤ 1000 → pos 2 ≤ℤ period → period ≤ℤ pos 1000000000 → IsWithin (pos 0) (pos 999000000000) (pos (n - 1) *ℤ period)
times-within n (pos p) few low high =
    let most = mul-le (n - 1) p 999 1000000000 (omega (arith, few)) (omega (arith, ints, high)) in
    record { least = omega (arith, ints); most = omega (arith, ints, most) }
times-within n (negsuc p) few low high = absurd (omega (arith, ints, low))

more_cycles-within : (launch capture : Clock) → IsSoundClock launch → IsSoundClock capture → (kind : ExceptionKind) → IsSoundKind kind → (z : ℤ) → more_cycles launch capture kind ≡ Some z
    → IsWithin (pos 0) (pos 999000000000) z
more_cycles-within launch capture first second FalsePath sound z is = absurd (none-some z is)
more_cycles-within launch capture first second (MaxDelay amount) sound z is = absurd (none-some z is)
more_cycles-within launch capture first second (Multicycle n true) sound z is =
    subst (IsWithin (pos 0) (pos 999000000000)) (ap (λ o. unwrap_or o z) is) (times-within n launch.period sound.1 first.shortest first.longest)
more_cycles-within launch capture first second (Multicycle n false) sound z is =
    subst (IsWithin (pos 0) (pos 999000000000)) (ap (λ o. unwrap_or o z) is) (times-within n capture.period sound.1 second.shortest second.longest)

All-at_kinds : {P Q : ExceptionKind → Type 0} (kinds : List ExceptionKind) → ((kind : ExceptionKind) → P kind → Q kind) → All P kinds → All Q kinds
All-at_kinds kinds on all k d below = on (slice_index_or kinds k d) (all k d below)

-- a requirement by sound exceptions is at least -10^9 and at most 10^12
pub required_by-within : (kinds : List ExceptionKind) (launch capture : Clock) (edge at : Edge) → IsSoundClock launch → IsSoundClock capture → All IsSoundKind kinds
    → (z : ℤ) → required_by kinds launch edge capture at ≡ Some z → IsWithin (negsuc 999999999) (pos 1000000000000) z
required_by-within kinds launch capture edge at first second sound z is = by_false (list_any is_false_kind kinds) is
  where
    extra : (o : Option ℤ) → ((y : ℤ) → o ≡ Some y → IsWithin (pos 0) (pos 999000000000) y) → IsWithin (pos 0) (pos 999000000000) (unwrap_or o (pos 0))
    extra None within = record { least = omega (arith, ints); most = omega (arith, ints) }
    extra (Some y) within = within y refl

    cycles : IsWithin (pos 0) (pos 999000000000) (unwrap_or (least (filter_map (more_cycles launch capture) kinds)) (pos 0))
    cycles = extra (least (filter_map (more_cycles launch capture) kinds))
        (least-within (pos 0) (pos 999000000000) (more_cycles launch capture) kinds (All-at_kinds kinds (more_cycles-within launch capture first second) sound))

    base : IsWithin (pos 1) (pos 1000000000) (relation launch edge capture at)
    base = relation-within launch capture edge at first second

    by_least : (o : Option ℤ) → ((y : ℤ) → o ≡ Some y → IsWithin (negsuc 999999999) (pos 1000000000000) y)
        → option_or o (Some (relation launch edge capture at +ℤ unwrap_or (least (filter_map (more_cycles launch capture) kinds)) (pos 0))) ≡ Some z → IsWithin (negsuc 999999999) (pos 1000000000000) z
    by_least (Some y) within is' = within z is'
    by_least None within is' =
        let same = ap (λ o. unwrap_or o z) is' in
        record {
          least = subst (λ r. negsuc 999999999 ≤ℤ r) same (omega (arith, ints, cycles.least, base.least));
          most = subst (λ r. r ≤ℤ pos 1000000000000) same (omega (arith, ints, cycles.most, base.most));
        }

    by_false : (b : Bool)
        → (if b then None else option_or (least (filter_map most_delay kinds)) (Some (relation launch edge capture at +ℤ unwrap_or (least (filter_map (more_cycles launch capture) kinds)) (pos 0)))) ≡ Some z
        → IsWithin (negsuc 999999999) (pos 1000000000000) z
    by_false true is' = absurd (none-some z is')
    by_false false is' =
        by_least (least (filter_map most_delay kinds)) (least-within (negsuc 999999999) (pos 1000000000000) most_delay kinds (All-at_kinds kinds most_delay-within sound)) is'
