-- The relation of two edges is the least positive time between them.
use Rattle.std.specs.Prelude.{◌≡◌, ℕ, zero, suc, ◌<◌, ◌==◌, ◌%◌, ◌/◌, ◌-◌, ◌*◌, ℤ, pos, negsuc, ◌+ℤ◌, ◌-ℤ◌, ◌*ℤ◌, ◌≤ℤ◌, ◌<ℤ◌, nat_abs, false}
use Rattle.std.specs.Int.{int_rem_euclid}
use Rattle.std.proofs.Common.{refl, ap, arith, subst, sym}
use Rattle.std.proofs.lemmas.Int.{ints}
use Rattle.std.proofs.lemmas.Nat.{mod_below, div-add-mod'}
use borrow.Author.Differences.{up, down, product_is}
use Rattle.path_requirements.proofs.Products.{mul-add, add-mul, sub-mul}
use Rattle.bud_design.specs.Clocks.{IsSoundClock, IsRelation, divisor_in, common_divisor, or_whole, relation, edge_time}
use Rattle.bud_design.specs.declared.clocks.Clock.{Clock}
use Rattle.bud_syntax.specs.declared.edges.Edge.{Edge}
use Rattle.bud_design.proofs.RequirementRanges.{divisor_in-some}

mul-assoc : (a b c : ℤ) → (a *ℤ b) *ℤ c ≡ a *ℤ (b *ℤ c)
mul-assoc a b c =
    let first = product_is a b in
    let second = product_is b c in
    omega (
      arith,
      ints,
      ap (λ n. n * up c) first.0,
      ap (λ n. n * down c) first.0,
      ap (λ n. n * up c) first.1,
      ap (λ n. n * down c) first.1,
      ap (λ n. up a * n) second.0,
      ap (λ n. down a * n) second.0,
      ap (λ n. up a * n) second.1,
      ap (λ n. down a * n) second.1,
    )

pub record IsMultiple (z g : ℤ) : Type 0 where
  pub times : ℤ
  pub is : z ≡ times *ℤ g

-- a sum of multiples of two numbers
pub record IsCombined (a b g : ℤ) : Type 0 where
  pub first : ℤ
  pub second : ℤ
  pub is : g ≡ first *ℤ a +ℤ second *ℤ b

alone : (a b : ℤ) → IsCombined a b a
alone a b = record { first = pos 1; second = pos 0; is = omega (arith, ints) }

combined-step : (a b g q r : ℤ) → a ≡ q *ℤ b +ℤ r → IsCombined b r g → IsCombined a b g
combined-step a b g q r parts c =
    record {
      first = c.second;
      second = c.first -ℤ c.second *ℤ q;
      is = omega (arith, ints, c.is, ap (λ z. c.second *ℤ z) parts, mul-add c.second (q *ℤ b) r, sub-mul c.first (c.second *ℤ q) b, mul-assoc c.second q b);
    }

multiple-step : (a b g q r : ℤ) → a ≡ q *ℤ b +ℤ r → IsMultiple b g → IsMultiple r g → IsMultiple a g
multiple-step a b g q r parts m n =
    record {
      times = q *ℤ m.times +ℤ n.times;
      is = omega (arith, ints, parts, n.is, ap (λ z. q *ℤ z) m.is, add-mul (q *ℤ m.times) n.times g, mul-assoc q m.times g);
    }

parts-of : (a b : ℕ) → pos a ≡ pos (a / b) *ℤ pos b +ℤ pos (a % b)
parts-of a b = omega (arith, ints, div-add-mod' a b)

-- the divisor is a sum of multiples of both numbers
pub divisor_in-combined : (n a b : ℕ) → IsCombined (pos a) (pos b) (pos (divisor_in n a b))
divisor_in-combined zero a b = alone (pos a) (pos b)
divisor_in-combined (suc n) a zero = alone (pos a) (pos 0)
divisor_in-combined (suc n) a (suc b) =
    let other : (suc b == 0) ≡ false = grind arith in
    rw other (combined-step (pos a) (pos (suc b)) (pos (divisor_in n (suc b) (a % suc b))) (pos (a / suc b)) (pos (a % suc b)) (parts-of a (suc b)) (divisor_in-combined n (suc b) (a % suc b)))

-- and divides both
pub divisor_in-divides : (n a b : ℕ) → b < n → IsMultiple (pos a) (pos (divisor_in n a b)) × IsMultiple (pos b) (pos (divisor_in n a b))
divisor_in-divides zero a b below = absurd (omega (arith, below))
divisor_in-divides (suc n) a zero below = (record { times = pos 1; is = omega (arith, ints) }, record { times = pos 0; is = omega (arith, ints) })
divisor_in-divides (suc n) a (suc b) below =
    let other : (suc b == 0) ≡ false = grind arith in
    let less = mod_below a (suc b) (omega arith) in
    let both = divisor_in-divides n (suc b) (a % suc b) (omega (arith, below, less)) in
    rw other (multiple-step (pos a) (pos (suc b)) (pos (divisor_in n (suc b) (a % suc b))) (pos (a / suc b)) (pos (a % suc b)) (parts-of a (suc b)) both.0 both.1, both.0)

-- what is left of z by g, from 1 to g
pub record IsLeft (z g r : ℤ) : Type 0 where
  pub times : ℤ
  pub is : z ≡ times *ℤ g +ℤ r
  pub least : pos 1 ≤ℤ r
  pub most : r ≤ℤ g

or_whole-left : (z k : ℤ) (g r : ℕ) → r < g → z ≡ k *ℤ pos g +ℤ pos r → IsLeft z (pos g) (or_whole (pos r) (pos g))
or_whole-left z k g zero below is =
    record { times = k -ℤ pos 1; is = omega (arith, ints, is, sub-mul k (pos 1) (pos g)); least = omega (arith, ints, below); most = omega (arith, ints) }
or_whole-left z k g (suc r) below is = record { times = k; is = is; least = omega (arith, ints); most = omega (arith, ints, below) }

below-zero : (a g : ℕ) → 0 < g → negsuc a ≡ negsuc (a / g) *ℤ pos g +ℤ pos (g - 1 - a % g)
below-zero a g some = omega (arith, ints, div-add-mod' a g, mod_below a g some)

rest-left : (z : ℤ) (g : ℕ) → 0 < g → IsLeft z (pos g) (or_whole (int_rem_euclid z (pos g)) (pos g))
rest-left (pos a) g some = or_whole-left (pos a) (pos (a / g)) g (a % g) (mod_below a g some) (parts-of a g)
rest-left (negsuc a) g some = or_whole-left (negsuc a) (negsuc (a / g)) g (g - 1 - a % g) (omega (arith, some)) (below-zero a g some)

-- no positive number as far off by multiples of g is less
left-least : (m r other : ℤ) (g : ℕ) → r ≤ℤ pos g → pos 0 <ℤ other → other ≡ m *ℤ pos g +ℤ r → r ≤ℤ other
left-least (pos m) r other g most some is = omega (arith, ints, is)
left-least (negsuc m) r other g most some is = absurd (omega (arith, ints, most, some, is))

abs-same : (z : ℤ) → pos 2 ≤ℤ z → (z ≡ pos (nat_abs z)) × (0 < nat_abs z)
abs-same (pos n) low = (refl, omega (arith, ints, low))
abs-same (negsuc n) low = absurd (omega (arith, ints, low))

-- what is left of two edges' distance by a divisor of both periods that is a sum of multiples of them is their relation
pub IsRelation-from_left : (launch capture : Clock) (edge at : Edge) (g : ℕ) (r : ℤ)
    → IsMultiple launch.period (pos g) → IsMultiple capture.period (pos g) → IsCombined launch.period capture.period (pos g)
    → IsLeft (edge_time capture at -ℤ edge_time launch edge) (pos g) r → IsRelation launch edge capture at r
IsRelation-from_left launch capture edge at g r first second combined left =
    record {
      positive = omega (arith, ints, left.least);
      between = record {
        launch_periods = left.times *ℤ combined.first;
        capture_periods = pos 0 -ℤ left.times *ℤ combined.second;
        time_is = between (edge_time launch edge) (edge_time capture at) launch.period capture.period left.times combined.first combined.second (pos g) r left.is combined.is;
      };
      least = λ other some apart.
          left-least (left.times +ℤ (apart.capture_periods *ℤ second.times -ℤ apart.launch_periods *ℤ first.times)) r other g left.most some
          (apart-by (edge_time launch edge) (edge_time capture at) launch.period capture.period left.times first.times second.times (pos g) r apart.launch_periods apart.capture_periods other
          left.is first.is second.is apart.time_is);
    }
  where
    between : (l c p q t x y d r : ℤ) → c -ℤ l ≡ t *ℤ d +ℤ r → d ≡ x *ℤ p +ℤ y *ℤ q
        → r ≡ (c +ℤ (pos 0 -ℤ t *ℤ y) *ℤ q) -ℤ (l +ℤ (t *ℤ x) *ℤ p)
    between l c p q t x y d r is sum =
        omega (arith, ints, is, ap (λ z. t *ℤ z) sum, mul-add t (x *ℤ p) (y *ℤ q), mul-assoc t x p, mul-assoc t y q, sub-mul (pos 0) (t *ℤ y) q)

    apart-by : (l c p q t u v d r i j other : ℤ) → c -ℤ l ≡ t *ℤ d +ℤ r → p ≡ u *ℤ d → q ≡ v *ℤ d → other ≡ (c +ℤ j *ℤ q) -ℤ (l +ℤ i *ℤ p)
        → other ≡ (t +ℤ (j *ℤ v -ℤ i *ℤ u)) *ℤ d +ℤ r
    apart-by l c p q t u v d r i j other is first second apart =
        omega (arith, ints, is, apart, ap (λ z. i *ℤ z) first, ap (λ z. j *ℤ z) second, mul-assoc i u d, mul-assoc j v d, sub-mul (j *ℤ v) (i *ℤ u) d, add-mul t (j *ℤ v -ℤ i *ℤ u) d)

-- the relation of sound clocks, as a number, is that of their edges
pub IsRelation-relation : (launch capture : Clock) (edge at : Edge) → IsSoundClock launch → IsSoundClock capture → IsRelation launch edge capture at (relation launch edge capture at)
IsRelation-relation launch capture edge at first second =
    IsRelation-from_left launch capture edge at g (relation launch edge capture at)
    (subst (λ z. IsMultiple z (pos g)) (sym p.0) both.0) (subst (λ z. IsMultiple z (pos g)) (sym q.0) both.1)
    (subst (λ z. IsCombined z capture.period (pos g)) (sym p.0) (subst (λ z. IsCombined (pos (nat_abs launch.period)) z (pos g)) (sym q.0)
    (divisor_in-combined (suc (nat_abs capture.period)) (nat_abs launch.period) (nat_abs capture.period))))
    (rest-left (edge_time capture at -ℤ edge_time launch edge) g (divisor_in-some (suc (nat_abs capture.period)) (nat_abs launch.period) (nat_abs capture.period) p.1))
  where
    g : ℕ
    g = common_divisor (nat_abs launch.period) (nat_abs capture.period)

    p : (launch.period ≡ pos (nat_abs launch.period)) × (0 < nat_abs launch.period)
    p = abs-same launch.period first.shortest

    q : (capture.period ≡ pos (nat_abs capture.period)) × (0 < nat_abs capture.period)
    q = abs-same capture.period second.shortest

    both : IsMultiple (pos (nat_abs launch.period)) (pos g) × IsMultiple (pos (nat_abs capture.period)) (pos g)
    both = divisor_in-divides (suc (nat_abs capture.period)) (nat_abs launch.period) (nat_abs capture.period) (omega arith)

-- and no other time is
pub IsRelation-only : (launch capture : Clock) (edge at : Edge) (time : ℤ) → IsSoundClock launch → IsSoundClock capture → IsRelation launch edge capture at time → time ≡ relation launch edge capture at
IsRelation-only launch capture edge at time first second is =
    let other = IsRelation-relation launch capture edge at first second in
    omega (arith, ints, is.least (relation launch edge capture at) other.positive other.between, other.least time is.positive is.between)

-- what is left of the edges' distance by the divisor is the relation
pub relation-from_parts : (launch capture : Clock) (edge at : Edge) (distance : ℤ) (whole : ℕ) (left : ℤ) → distance ≡ edge_time capture at -ℤ edge_time launch edge
    → whole ≡ common_divisor (nat_abs launch.period) (nat_abs capture.period) → left ≡ or_whole (int_rem_euclid distance (pos whole)) (pos whole) → left ≡ relation launch edge capture at
relation-from_parts launch capture edge at distance whole left apart is parts = rw (← apart, ← is) parts
