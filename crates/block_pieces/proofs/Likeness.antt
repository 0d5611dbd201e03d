-- Requirements depend on the waveforms of clocks alone, and from an edge of a clock to the same edge it is one period.
use Rattle.std.specs.Prelude.{◌≡◌, ℕ, zero, suc, ◌==◌, ℤ, pos, negsuc, ◌-ℤ◌, ◌≤ℤ◌, true, false, List, [], ◌∷◌, filter_map, Some, None}
use Rattle.std.specs.List.{list_any}
use Rattle.std.proofs.Common.{refl, ap, arith}
use Rattle.std.proofs.lemmas.Int.{ints}
use Rattle.std.proofs.Math.Nat.{mod_self, zero-mod}
use Rattle.bud_syntax.specs.declared.edges.Edge.{Edge}
use Rattle.bud_syntax.specs.declared.edges.Edge.TheVariants.{Rise, Fall}
use Rattle.bud_design.specs.declared.clocks.Clock.{Clock}
use Rattle.bud_design.specs.declared.clocks.ExceptionKind.{ExceptionKind}
use Rattle.bud_design.specs.declared.clocks.ExceptionKind.TheVariants.{FalsePath, Multicycle, MaxDelay}
use Rattle.bud_design.specs.Clocks.{edge_time, relation, common_divisor}
use Rattle.bud_design.specs.Exceptions.{required_by, more_cycles, is_false_kind}
use Rattle.block_theory.specs.BlockScopes.{clock_from}

edge-alike : (c : Clock) (name sources : List ℕ) (e : Edge) → edge_time (clock_from c name sources) e ≡ edge_time c e
edge-alike c name sources Rise = refl
edge-alike c name sources Fall = refl

relation-alike : (c d : Clock) (n m s r : List ℕ) (e f : Edge) → relation (clock_from c n s) e (clock_from d m r) f ≡ relation c e d f
relation-alike c d n m s r e f = rw (edge-alike c n s e, edge-alike d m r f) refl

cycles-alike : (c d : Clock) (n m s r : List ℕ) (kinds : List ExceptionKind) → filter_map (more_cycles (clock_from c n s) (clock_from d m r)) kinds ≡ filter_map (more_cycles c d) kinds
cycles-alike c d n m s r [] = refl
cycles-alike c d n m s r (FalsePath ∷ ks) = cycles-alike c d n m s r ks
cycles-alike c d n m s r (Multicycle count by_launch ∷ ks) = rw (cycles-alike c d n m s r ks) refl
cycles-alike c d n m s r (MaxDelay amount ∷ ks) = cycles-alike c d n m s r ks

-- clocks with other names and sources require the same
pub required-alike : (kinds : List ExceptionKind) (c d : Clock) (n m s r : List ℕ) (e f : Edge) → required_by kinds (clock_from c n s) e (clock_from d m r) f ≡ required_by kinds c e d f
required-alike kinds c d n m s r e f = rw (relation-alike c d n m s r e f, cycles-alike c d n m s r kinds) refl

divisor-own : (p : ℕ) → common_divisor p p ≡ p
divisor-own zero = refl
divisor-own (suc q) =
    let other : (suc q == 0) ≡ false = grind arith in
    rw (other, mod_self (suc q)) refl

-- from an edge to the same edge of a clock it is one period
pub relation-own : (c : Clock) (e : Edge) → pos 2 ≤ℤ c.period → relation c e c e ≡ c.period
relation-own c e long = by_period c.period refl
  where
    nothing : edge_time c e -ℤ edge_time c e ≡ pos 0
    nothing = omega (arith, ints)

    by_period : (p : ℤ) → c.period ≡ p → relation c e c e ≡ c.period
    by_period (negsuc n) is = absurd (omega (arith, ints, long, is))
    by_period (pos p) is = rw (nothing, is, divisor-own p, zero-mod p) refl

-- without a matching exception the same edge is required one period on
pub required-own : (c : Clock) (e : Edge) → pos 2 ≤ℤ c.period → required_by [] c e c e ≡ Some c.period
required-own c e long = ap (λ z. Some z) (omega (arith, ints, relation-own c e long))

-- a false path that matches leaves no requirement
pub required-none : (kinds : List ExceptionKind) (c d : Clock) (e f : Edge) → list_any is_false_kind kinds ≡ true → required_by kinds c e d f ≡ None
required-none kinds c d e f is = rw is refl
