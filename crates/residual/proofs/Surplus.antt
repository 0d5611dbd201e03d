-- The flows of all starts against what the first arcs of all items can carry, and the law of a network from which flows were taken.
use Rattle.std.proofs.Common.{◌≡◌, ◌==◌, ◌≢◌, ℕ, zero, suc, ℤ, pos, ◌+ℤ◌, ◌*ℤ◌, ◌≤ℤ◌, ◌<ℤ◌, ◌+◌, ◌/◌, ◌<◌, ◌≤◌, ◌⊎◌, ◌-◌, negsuc, List, length, Option, Some, None, arith, refl, ap, sym, ◌∙◌, inl, inr, cond, eq-eqb}
use Rattle.std.proofs.lemmas.Int.{ints}
use Rattle.std.proofs.lemmas.Bool.{cases_eq, cases_lt, ne_eqb}
use Rattle.std.proofs.Math.IntN.{*ℤ-zero, *ℤ_comm}
use Rattle.bud_base.specs.declared.problems.Problem.{Problem}
use Rattle.bud_flow.specs.Sums.{sum_below, sum_at, number_at}
use Rattle.bud_flow.proofs.SumLemmas.{sum_below-more, sum_below-same, sum_below-le, sum_below-add, sum_at-exchange}
use Rattle.residual.specs.Arcs.{arc_at, full, CarryAll}
use Rattle.residual.specs.Excesses.{excess_of}
use Rattle.residual.specs.Networks.{Network, HasSizes, IsLawful, Fits}
use Rattle.residual.specs.Balances.{HasNoExcess, HasRoom, total_weight, total_start_flow}
use Rattle.residual.specs.Trims.{AreLess, KeepsLimited, total_limit}
use Rattle.residual.specs.Walks.{way_at, IsMarked, AreParted}
use Rattle.residual.proofs.Blocks.{by_block}
use Rattle.residual.proofs.Pairs.{HoldsPair, HoldsPair-from_reduced, HoldsReduced-from_pair}
use Rattle.residual.proofs.Walking.{CarryAll-less}
use Rattle.residual.specs.declared.arcs.Arc.{Arc}
use Rattle.residual.specs.declared.walks.Way.{Way}

-- 1 for a marked node, and 0 for any other
abbrev mark_of : Option Way → ℤ
mark_of None = pos 0
mark_of (Some w) = pos 1

-- 1 for the root and for marked nodes, and 0 for any other
abbrev side : ℕ → List (Option Way) → ℕ → ℤ
side root ways v = cond (root == v) (pos 1) (mark_of (way_at ways v))

mark_of-either : (o : Option Way) → (mark_of o ≡ pos 0) ⊎ ((mark_of o ≡ pos 1) × ((w : Way) × (o ≡ Some w)))
mark_of-either None = inl refl
mark_of-either (Some w) = inr (refl, (w, refl))

side-root : (root v : ℕ) (ways : List (Option Way)) → v ≡ root → side root ways v ≡ pos 1
side-root root v ways same = rw (eq-eqb root v (sym same)) refl

side-other : (root v : ℕ) (ways : List (Option Way)) → v ≢ root → side root ways v ≡ mark_of (way_at ways v)
side-other root v ways differs = rw (ne_eqb root v (λ e. differs (sym e))) refl

side-marked : (root v : ℕ) (ways : List (Option Way)) → v ≢ root → IsMarked ways v → side root ways v ≡ pos 1
side-marked root v ways differs marked = side-other root v ways differs ∙ ap mark_of marked.1

-- a node is on the one side, or it is the root or marked
side-either : (root v : ℕ) (ways : List (Option Way)) → (side root ways v ≡ pos 0) ⊎ ((side root ways v ≡ pos 1) × ((v ≡ root) ⊎ IsMarked ways v))
side-either root v ways = elim (cases_eq v root) [
  | inl same ↦ inr (side-root root v ways same, inl same)
  | inr differs ↦ elim (mark_of-either (way_at ways v)) [
    | inl none ↦ inl (side-other root v ways differs ∙ none)
    | inr some ↦ inr (side-other root v ways differs ∙ some.0, inr some.1)
  ]
]

-- ---- products with sides
times-zero : (f x : ℤ) → x ≡ pos 0 → f *ℤ x ≡ pos 0
times-zero f x is = ap (λ y. f *ℤ y) is ∙ *ℤ-zero f

times-one : (f x : ℤ) → x ≡ pos 1 → f *ℤ x ≡ f
times-one f x is = ap (λ y. f *ℤ y) is ∙ omega (arith, ints)

zero-times : (f x : ℤ) → f ≡ pos 0 → f *ℤ x ≡ pos 0
zero-times f x is = ap (λ y. y *ℤ x) is ∙ *ℤ_comm (pos 0) x ∙ *ℤ-zero x

-- a flow times a side is between 0 and the flow
times-least : (root v : ℕ) (ways : List (Option Way)) (f : ℤ) → pos 0 ≤ℤ f → (pos 0 ≤ℤ (f *ℤ side root ways v)) × ((f *ℤ side root ways v) ≤ℤ f)
times-least root v ways f least = elim (side-either root v ways) [
  | inl none ↦ (omega (arith, ints, times-zero f _ none), omega (arith, ints, times-zero f _ none, least))
  | inr one ↦ (omega (arith, ints, times-one f _ one.0, least), omega (arith, ints, times-one f _ one.0))
]

positive-or : (f : ℤ) → pos 0 ≤ℤ f → (pos 0 <ℤ f) ⊎ (f ≡ pos 0)
positive-or (pos zero) least = inr refl
positive-or (pos (suc n)) least = inl (omega (arith, ints))
positive-or (negsuc n) least = absurd (omega (arith, ints, least))

-- an arc of the items with room for their weights
limited-term : (root u v : ℕ) (ways : List (Option Way)) (f limit : ℤ) → pos 0 ≤ℤ f → f ≤ℤ limit → (f *ℤ side root ways v) ≤ℤ ((f *ℤ side root ways u) +ℤ limit)
limited-term root u v ways f limit least most =
    let to = times-least root v ways f least in
    let from = times-least root u ways f least in
    omega (arith, ints, to.1, from.0, most)

-- an arc that leads to the marked nodes and the root from these alone
covered-term : (root u v : ℕ) (ways : List (Option Way)) (f : ℤ) → pos 0 ≤ℤ f → u ≢ root → (pos 0 <ℤ f → u ≢ root → (v ≡ root) ⊎ IsMarked ways v → IsMarked ways u)
    → (f *ℤ side root ways v) ≤ℤ (f *ℤ side root ways u)
covered-term root u v ways f least inner covered = elim (positive-or f least) [
  | inr none ↦ omega (arith, ints, zero-times f (side root ways v) none, zero-times f (side root ways u) none)
  | inl some ↦ elim (side-either root v ways) [
    | inl out ↦ omega (arith, ints, times-zero f _ out, (times-least root u ways f least).0)
    | inr one ↦ omega (arith, ints, times-one f _ one.0, times-one f _ (side-marked root u ways inner (covered some inner one.1)))
  ]
]

-- an arc of a start, which carries nothing to marked nodes
start-term : (root u v : ℕ) (ways : List (Option Way)) (f : ℤ) → pos 0 ≤ℤ f → u ≡ root → v ≢ root → (pos 0 <ℤ f → way_at ways v ≡ None)
    → ((f *ℤ side root ways v) +ℤ f) ≤ℤ (f *ℤ side root ways u)
start-term root u v ways f least at_root inner none = elim (positive-or f least) [
  | inr nothing ↦ omega (arith, ints, zero-times f (side root ways v) nothing, zero-times f (side root ways u) nothing, nothing)
  | inl some ↦ omega (arith, ints, times-zero f _ (side-other root v ways inner ∙ ap mark_of (none some)), times-one f _ (side-root root u ways at_root))
]

-- ---- sums by blocks
sum_below-append : (m n : ℕ) (f : ℕ → ℤ) → sum_below (m + n) f ≡ sum_below m f +ℤ sum_below n (λ k. f (m + k))
sum_below-append m zero f =
    let e : m + 0 ≡ m = omega arith in
    omega (arith, ints, ap (λ t. sum_below t f) e)
sum_below-append m (suc n) f =
    let e : m + suc n ≡ (m + n) + 1 = omega arith in
    omega (arith, ints, ap (λ t. sum_below t f) e, sum_below-more (m + n) f, sum_below-append m n f)

sum_below-blocks : (m n o k : ℕ) (f : ℕ → ℤ) → sum_below (m + n + o + k) f
    ≡ sum_below m f +ℤ sum_below n (λ j. f (m + j)) +ℤ sum_below o (λ j. f (m + n + j)) +ℤ sum_below k (λ j. f (m + n + o + j))
sum_below-blocks m n o k f = omega (arith, ints, sum_below-append (m + n + o) k f, sum_below-append (m + n) o f, sum_below-append m n f)

-- without excess as much flows into a set of nodes as out of it
sum_below-balanced : (nodes : ℕ) (arcs : List Arc) (flows : List ℤ) (x : ℕ → ℤ) → ((j : ℕ) → j < length arcs → (arc_at arcs j).from.0 < nodes) → ((j : ℕ) → j < length arcs → (arc_at arcs j).to.0 < nodes)
    → ((v : ℕ) → v < nodes → excess_of arcs flows v ≡ pos 0)
    → sum_below (length arcs) (λ j. number_at flows j *ℤ x (arc_at arcs j).to.0) ≡ sum_below (length arcs) (λ j. number_at flows j *ℤ x (arc_at arcs j).from.0)
sum_below-balanced nodes arcs flows x from to balanced =
    sym (sum_at-exchange nodes (length arcs) (λ j. (arc_at arcs j).to.0) (number_at flows) x to)
    ∙ sum_below-same nodes _ _ (λ v below.
    let e : sum_at (length arcs) (λ j. (arc_at arcs j).to.0) (number_at flows) v ≡ sum_at (length arcs) (λ j. (arc_at arcs j).from.0) (number_at flows) v = omega (arith, ints, balanced v below) in
    ap (λ a. x v *ℤ a) e)
    ∙ sum_at-exchange nodes (length arcs) (λ j. (arc_at arcs j).from.0) (number_at flows) x from

-- where no walk is left, the starts carry no more than the first arcs of the items can
pub total_start_flow-most : (net : Network) (ways : List (Option Way)) → HasSizes net → CarryAll net.arcs net.flows → HasNoExcess net
    → AreParted net.arcs net.flows net.items net.nodes (net.items + net.items) (net.items + net.items + net.starts) ways → total_start_flow net ≤ℤ total_limit net
total_start_flow-most net ways sizes carried balanced parted =
    let x : ℕ → ℤ = side net.nodes ways in
    let into : ℕ → ℤ = λ j. number_at net.flows j *ℤ x (arc_at net.arcs j).to.0 in
    let out : ℕ → ℤ = λ j. number_at net.flows j *ℤ x (arc_at net.arcs j).from.0 in
    let same : sum_below (length net.arcs) into ≡ sum_below (length net.arcs) out
    = sum_below-balanced (net.nodes + 1) net.arcs net.flows x sizes.joins.from sizes.joins.to balanced in
    let size : length net.arcs ≡ net.items + net.items + net.starts + net.ends = sizes.arcs in
    let limited : sum_below net.items into ≤ℤ sum_below net.items (λ i. out i +ℤ (arc_at net.arcs i).limit)
    = sum_below-le net.items _ _ (λ i below.
    let one = carried i (omega (arith, below, size)) in
    limited-term net.nodes (arc_at net.arcs i).from.0 (arc_at net.arcs i).to.0 ways (number_at net.flows i) (arc_at net.arcs i).limit one.least one.most) in
    let open_items : sum_below net.items (λ i. into (net.items + i)) ≤ℤ sum_below net.items (λ i. out (net.items + i))
    = sum_below-le net.items _ _ (λ i below.
    let inside : net.items + i < length net.arcs = omega (arith, below, size) in
    covered-term net.nodes (arc_at net.arcs (net.items + i)).from.0 (arc_at net.arcs (net.items + i)).to.0 ways (number_at net.flows (net.items + i)) (carried (net.items + i) inside).least
    (λ e. omega (arith, e, sizes.shape.open_from i below)) (parted.covered (net.items + i) (omega arith) inside)) in
    let starts : sum_below net.starts (λ s. into (net.items + net.items + s) +ℤ number_at net.flows (net.items + net.items + s)) ≤ℤ sum_below net.starts (λ s. out (net.items + net.items + s))
    = sum_below-le net.starts _ _ (λ s below.
    let inside : net.items + net.items + s < length net.arcs = omega (arith, below, size) in
    start-term net.nodes (arc_at net.arcs (net.items + net.items + s)).from.0 (arc_at net.arcs (net.items + net.items + s)).to.0 ways (number_at net.flows (net.items + net.items + s))
    (carried (net.items + net.items + s) inside).least (sizes.shape.start_from s below) (λ e. omega (arith, e, sizes.shape.start_to s below))
    (parted.none (net.items + net.items + s) (omega arith) (omega (arith, below)))) in
    let ends : sum_below net.ends (λ e. into (net.items + net.items + net.starts + e)) ≤ℤ sum_below net.ends (λ e. out (net.items + net.items + net.starts + e))
    = sum_below-le net.ends _ _ (λ e below.
    let inside : net.items + net.items + net.starts + e < length net.arcs = omega (arith, below, size) in
    covered-term net.nodes (arc_at net.arcs (net.items + net.items + net.starts + e)).from.0 (arc_at net.arcs (net.items + net.items + net.starts + e)).to.0 ways
    (number_at net.flows (net.items + net.items + net.starts + e)) (carried (net.items + net.items + net.starts + e) inside).least
    (λ same. omega (arith, same, sizes.shape.end_from e below)) (parted.covered (net.items + net.items + net.starts + e) (omega arith) inside)) in
    omega (
      arith,
      ints,
      same,
      ap (λ t. sum_below t into) size,
      ap (λ t. sum_below t out) size,
      sum_below-blocks net.items net.items net.starts net.ends into,
      sum_below-blocks net.items net.items net.starts net.ends out,
      limited,
      sum_below-add net.items out (λ i. (arc_at net.arcs i).limit),
      open_items,
      starts,
      sum_below-add net.starts (λ s. into (net.items + net.items + s)) (λ s. number_at net.flows (net.items + net.items + s)),
      ends,
    )

-- what the first arcs of a problem's items can carry is the sum of the weights
pub total_limit-fits : (net : Network) (p : Problem) → Fits net p → total_limit net ≡ total_weight p
total_limit-fits net p fits =
    ap (λ n. sum_below n (λ i. (arc_at net.arcs i).limit)) fits.items
    ∙ sum_below-same (length p.items) _ _ (λ i below. ap (λ (a : Arc). a.limit) (fits.limited_arcs i below))

-- ---- the law
-- arcs but the first of each item are without limit
limit-full : (net : Network) (j : ℕ) → HasSizes net → net.items ≤ j → j < length net.arcs → (arc_at net.arcs j).limit ≡ full
limit-full net j sizes past below =
    by_block net.items net.items net.starts net.ends j (λ k. net.items ≤ k → (arc_at net.arcs k).limit ≡ full) (λ i within no. absurd (omega (arith, within, no)))
    (λ i within _. sizes.shape.open_limit i within) (λ s within _. sizes.shape.start_limit s within) (λ e within _. sizes.shape.end_limit e within) (omega (arith, below, sizes.arcs)) past

HoldsPair-less : (net : Network) (new : List ℤ) (j : ℕ) → IsLawful net → HasRoom net → AreLess net.flows new → KeepsLimited net new → j < length net.arcs → HoldsPair (arc_at net.arcs j) (number_at new j) net.kept
HoldsPair-less net new j lawful room less kept below =
    let was = HoldsPair-from_reduced net.arcs net.flows net.kept j lawful.reduced below in
    record {
      ahead = λ some. elim (cases_lt j net.items) [
        | inl limited ↦ was.ahead (omega (arith, ints, some, kept j limited))
        | inr past ↦ was.ahead (omega (arith, ints, room j below, limit-full net j lawful.sizes past below))
      ];
      back = λ some. was.back (omega (arith, ints, some, less.less j));
    }

pub IsLawful-less : (net : Network) (new : List ℤ) → IsLawful net → HasRoom net → AreLess net.flows new → KeepsLimited net new → IsLawful (record net { flows = new })
IsLawful-less net new lawful room less kept = record {
  sizes = record {
    arcs = lawful.sizes.arcs;
    flows = less.size ∙ lawful.sizes.flows;
    kept = lawful.sizes.kept;
    potentials = lawful.sizes.potentials;
    joins = lawful.sizes.joins;
    shape = lawful.sizes.shape;
    count = lawful.sizes.count;
  };
  flows = CarryAll-less net.arcs net.flows new lawful.flows less;
  reduced = λ key below. HoldsReduced-from_pair net.arcs new net.kept key (HoldsPair-less net new (key / 2) lawful room less kept (omega (arith, below)));
  small = lawful.small;
  root = lawful.root;
  kept_root = lawful.kept_root;
  closed = lawful.closed;
}

-- the arcs of starts come from the root
pub start-from_root : (net : Network) (j : ℕ) → HasSizes net → net.items + net.items ≤ j → j < net.items + net.items + net.starts → (arc_at net.arcs j).from.0 ≡ net.nodes
start-from_root net j sizes above below =
    let e : net.items + net.items + (j - (net.items + net.items)) ≡ j = omega (arith, above) in
    ap (λ k. (arc_at net.arcs k).from.0) (sym e) ∙ sizes.shape.start_from (j - (net.items + net.items)) (omega (arith, above, below))
