-- The arcs of a design: no two join the same pins, and in order of their pins they are the list of all.
use Rattle.std.specs.Prelude.{◌≡◌, ℕ, zero, suc, ◌+◌, drop, ℤ, ◌<◌, ◌≤◌, ◌⊎◌, Bool, true, false, List, [], ◌∷◌, ◌++◌, map, length, slice_index_or, All, AllPairs, Contains, Some, if◌then◌else◌}
use Rattle.std.specs.List.Sorted.{IsPermutation, IsNonDecreasingBy}
use Rattle.std.proofs.Common.{refl, sym, ◌∙◌, ap, subst, arith, inl, inr, true≢false, append_assoc}
use Rattle.std.proofs.lemmas.List.Elements.{All-append, All-head, All-tail, All-nil, All-cons, All-map, All-contains, All-contains_itself}
use Rattle.std.proofs.lemmas.List.Kept.{AllPairs-cons}
use Rattle.std.proofs.lemmas.List.Sorted.{IsPermutation-map, Contains-permutation, All-permutation}
use Rattle.bud_syntax.specs.declared.modules.Dir.{Dir}
use Rattle.bud_syntax.specs.declared.modules.Dir.TheVariants.{Input, Output, Inout}
use Rattle.bud_design.specs.declared.designs.Wire.{Wire}
use Rattle.bud_design.specs.declared.timings.Pair.{Pair}
use Rattle.bud_design.specs.declared.timings.Timing.{Timing}
use Rattle.bud_design.specs.Arcs as arcs
use Rattle.bud_design.specs.Arcs.{is_clocked, arc_before}
use Rattle.bud_design.specs.Designs.{Design, place_at, pin_at, is_input, is_output}
use Rattle.bud_design.specs.DesignRules.{Drives, IsDesign, IsWireIn}
use Rattle.bud_design.specs.Orders.{pins_before, pair_before}
use Rattle.bud_design.specs.TimingRules.{IsDelay, IsSoundPair, StartsInLeaf, IsSoundTiming, IsSoundArc}
use Rattle.bud_design.proofs.ClassLaws.{pairs-head, pairs-tail}
use Rattle.timing_graph.specs.declared.graphs.Arc.{Arc}
use Rattle.timing_graph.specs.Graphs.{wire_arcs, pair_arcs, all_arcs, AreArcs}
use Rattle.timing_graph.specs.Gathering.{arc_of_wire}
use Rattle.timing_graph.specs.GraphViews.{arc_of, key_of}
use Rattle.timing_graph.proofs.Apartness.{AllPairs-append, Apart, Apart-from_pairs, Apart-pairs, Apart-permutation}
use Rattle.timing_graph.proofs.Mapped.{AllPairs-map, AllPairs-unmap, All-unmap}
use Rattle.timing_graph.proofs.PinOrders.{before-never_itself, before-from_key}

-- the arcs join different pins
abbrev pub Differ : arcs.Arc → arcs.Arc → Type 0
Differ x y = x.from ≡ y.from → x.to ≡ y.to → ⊥

differ-turn : (x y : arcs.Arc) → Differ x y → Differ y x
differ-turn x y differ from to = differ (sym from) (sym to)

module _ (t : Timing) where
  -- what holds of the arc of each wire, with each number
  wires-all : (P : arcs.Arc → Type 0) (Q : ℤ → Type 0) (ws : List Wire) (zs : List ℤ) → All (λ w. (z : ℤ) → Q z → P (arc_of_wire w z)) ws → All Q zs → All P (wire_arcs t ws zs)
  wires-all P Q [] zs holds numbers = All-nil P
  wires-all P Q (w ∷ ws) [] holds numbers = All-nil P
  wires-all P Q (w ∷ ws) (z ∷ zs) holds numbers =
      by_clock (is_clocked t w.to.0) (wires-all P Q ws zs (All-tail (λ w. (z : ℤ) → Q z → P (arc_of_wire w z)) w ws holds) (All-tail Q z zs numbers))
    where
      by_clock : (b : Bool) → All P (wire_arcs t ws zs) → All P (if b then wire_arcs t ws zs else arc_of_wire w z ∷ wire_arcs t ws zs)
      by_clock true rest = rest
      by_clock false rest =
          All-cons P (arc_of_wire w z) (wire_arcs t ws zs) (All-head (λ w. (z : ℤ) → Q z → P (arc_of_wire w z)) w ws holds z (All-head Q z zs numbers)) rest

  wires-differ : (ws : List Wire) (zs : List ℤ) → AllPairs (λ w x. w.to.0 < x.to.0) ws → AllPairs Differ (wire_arcs t ws zs)
  wires-differ [] zs rise = λ i j d less within. absurd (omega (arith, within))
  wires-differ (w ∷ ws) [] rise = λ i j d less within. absurd (omega (arith, within))
  wires-differ (w ∷ ws) (z ∷ zs) rise = by_clock (is_clocked t w.to.0) (wires-differ ws zs (pairs-tail (λ w x. w.to.0 < x.to.0) w ws rise))
    where
      by_clock : (b : Bool) → AllPairs Differ (wire_arcs t ws zs) → AllPairs Differ (if b then wire_arcs t ws zs else arc_of_wire w z ∷ wire_arcs t ws zs)
      by_clock true rest = rest
      by_clock false rest =
          AllPairs-cons Differ (arc_of_wire w z) (wire_arcs t ws zs)
          (wires-all (Differ (arc_of_wire w z)) (λ z. Unit {0}) ws zs
          (λ k e below number any from to. omega (arith, pairs-head (λ w x. w.to.0 < x.to.0) w ws rise k e below, to)) (λ k e below. tt)) rest

input-no_output : (dir : Dir) → is_input dir ≡ true → is_output dir ≡ true → ⊥
input-no_output Input input output = true≢false (sym output)
input-no_output Output input output = true≢false (sym input)
input-no_output Inout input output = true≢false (sym input)

-- no wire begins at an input of a leaf
drives-no_leaf : (d : Design) (home v : ℕ) → Drives d home v → (place_at d.places home).leaf ≡ false → (place_at d.places (pin_at d.pins v).place).leaf ≡ true → is_input (pin_at d.pins v).dir ≡ true → ⊥
drives-no_leaf d home v (inl here) holds leaf input = true≢false (sym leaf ∙ (ap (λ p. (place_at d.places p).leaf) here.0 ∙ holds))
drives-no_leaf d home v (inr below) holds leaf input = input-no_output (pin_at d.pins v).dir input below.1

pair-apart : (x y : Pair) → pair_before x y ≡ true → x.from.0 ≡ y.from.0 → x.to.0 ≡ y.to.0 → ⊥
pair-apart x y before from to =
    true≢false (sym before ∙ (ap (λ a. pins_before a x.to.0 y.from.0 y.to.0) from ∙ (ap (λ b. pins_before y.from.0 b y.from.0 y.to.0) to ∙ before-never_itself y.from.0 y.to.0)))

module _ (d : Design) (t : Timing) (design : IsDesign d) (timing : IsSoundTiming d t) (leaves : All (StartsInLeaf d) t.pairs) where
  abbrev arc_of_pair : Pair → arcs.Arc
  arc_of_pair x = record { from = x.from.0; to = x.to.0; least = x.value; home = (pin_at d.pins x.from.0).place }

  wires-rise : AllPairs (λ w x. w.to.0 < x.to.0) d.wires
  wires-rise i j e less within = let here = design.by_last_pin i j e less within in grind arith

  all-differ : AllPairs Differ (all_arcs d t)
  all-differ =
      AllPairs-append Differ (wire_arcs t d.wires t.wires) (pair_arcs d t) (wires-differ t d.wires t.wires wires-rise)
      (AllPairs-map arc_of_pair Differ t.pairs (λ i j (e : Pair) less within from to. pair-apart (slice_index_or t.pairs i e) (slice_index_or t.pairs j e) (timing.pair_order i j e less within) from to))
      (wires-all t (λ x. All (Differ x) (pair_arcs d t)) (λ z. Unit {0}) d.wires t.wires
      (λ k e below z any.
      All-map (Differ (arc_of_wire (slice_index_or d.wires k e) z)) arc_of_pair t.pairs
      (λ j p inside from to.
      let wire = design.wires k e below in
      let start = leaves j p inside in
      drives-no_leaf d (slice_index_or d.wires k e).home (slice_index_or d.wires k e).from.0 wire.drives wire.holds
      (subst (λ v. (place_at d.places (pin_at d.pins v).place).leaf ≡ true) (sym from) start.leaf) (subst (λ v. is_input (pin_at d.pins v).dir ≡ true) (sym from) start.input)))
      (λ k e below. tt))

  pub all-sound : All (IsSoundArc d) (all_arcs d t)
  all-sound =
      All-append (IsSoundArc d) (wire_arcs t d.wires t.wires) (pair_arcs d t)
      (wires-all t (IsSoundArc d) IsDelay d.wires t.wires
      (λ k e below z delay. (let wire = design.wires k e below in record { from = wire.from; to = wire.to; home = wire.home; least = delay })) timing.wires)
      (All-map (IsSoundArc d) arc_of_pair t.pairs
      (λ k e below. (let pair = timing.pairs k e below in record { from = pair.from; to = pair.to; home = design.in_places _ (pin_at [] 0) pair.from; least = pair.value })))

  -- the arcs in order of their numbers are those of the design
  pub AreArcs-from_sorted : (old new : List Arc) → length d.pins < 2147483648 → map arc_of old ≡ all_arcs d t → IsPermutation old new → IsNonDecreasingBy key_of new → AreArcs d t (map arc_of new)
  AreArcs-from_sorted old new few is moves sorted =
      let within = All-permutation (λ a. IsSoundArc d (arc_of a)) old new moves (All-unmap arc_of (IsSoundArc d) old (subst (All (IsSoundArc d)) (sym is) all-sound)) in
      let small : (k : ℕ) (e : Arc) → k < length new → (slice_index_or new k e).to.0 < 4294967296 = λ k e below. (let here = (within k e below).to in omega (arith, here, few)) in
      let mapped : IsPermutation (all_arcs d t) (map arc_of new) = subst (λ xs. IsPermutation xs (map arc_of new)) is (IsPermutation-map arc_of old new moves) in
      let apart = Apart-permutation Differ (all_arcs d t) (map arc_of new) mapped (Apart-from_pairs Differ differ-turn (all_arcs d t) all-differ) in
      let differ = AllPairs-unmap arc_of Differ new (Apart-pairs Differ (map arc_of new) apart) in
      record {
        rising = AllPairs-map arc_of (λ x y. arc_before x y ≡ true) new
            (λ i j e less within.
            before-from_key _ _ _ _ (small i e (omega (arith, less, within))) (small j e within) (sorted i j e (omega (arith, less)) within) (differ i j e less within));
        sound = All-permutation (Contains (all_arcs d t)) (all_arcs d t) (map arc_of new) mapped (All-contains_itself (all_arcs d t));
        complete = λ x within. Contains-permutation (all_arcs d t) (map arc_of new) x mapped within;
      }

  pub AreArcs-sound : (xs : List arcs.Arc) → AreArcs d t xs → All (IsSoundArc d) xs
  AreArcs-sound xs are k e below = All-contains (IsSoundArc d) (all_arcs d t) (slice_index_or xs k e) all-sound (are.sound k e below)

  pub ends-within : (xs : List Arc) → AreArcs d t (map arc_of xs) → All (λ a. (a.from.0 < length d.pins) × (a.to.0 < length d.pins)) xs
  ends-within xs are k e below = (let sound = All-unmap arc_of (IsSoundArc d) xs (AreArcs-sound (map arc_of xs) are) k e below in (sound.from, sound.to))

module _ (t : Timing) where
  -- the arcs of the wires from one on, and of the next on
  pub wire_arcs-next : (ws : List Wire) (zs : List ℤ) (i : ℕ) (w e : Wire) (z y : ℤ) (b : Bool) → length zs ≡ length ws → i < length ws → w ≡ slice_index_or ws i e → z ≡ slice_index_or zs i y → b ≡ is_clocked t w.to.0
      → wire_arcs t (drop i ws) (drop i zs) ≡ (if b then [] else arc_of_wire w z ∷ []) ++ wire_arcs t (drop (suc i) ws) (drop (suc i) zs)
  wire_arcs-next [] zs i w e z y b sizes below isw isz marked = absurd (omega (arith, below))
  wire_arcs-next (x ∷ ws) [] i w e z y b sizes below isw isz marked = absurd (omega (arith, sizes))
  wire_arcs-next (x ∷ ws) (v ∷ zs) zero w e z y b sizes below isw isz marked = by_clock (is_clocked t x.to.0) refl
    where
      by_clock : (c : Bool) → is_clocked t x.to.0 ≡ c
          → (if is_clocked t x.to.0 then wire_arcs t ws zs else arc_of_wire x v ∷ wire_arcs t ws zs) ≡ (if b then [] else arc_of_wire w z ∷ []) ++ wire_arcs t ws zs
      by_clock true here =
          let clocked : b ≡ true = marked ∙ (ap (λ (u : Wire). is_clocked t u.to.0) isw ∙ here) in
          rw (here, clocked) refl
      by_clock false here =
          let free : b ≡ false = marked ∙ (ap (λ (u : Wire). is_clocked t u.to.0) isw ∙ here) in
          rw (here, free) (ap (λ a. a ∷ wire_arcs t ws zs) (ap (λ (u : Wire). arc_of_wire u v) (sym isw) ∙ ap (arc_of_wire w) (sym isz)))
  wire_arcs-next (x ∷ ws) (v ∷ zs) (suc i) w e z y b sizes below isw isz marked = wire_arcs-next ws zs i w e z y b (omega (arith, sizes)) (omega (arith, below)) isw isz marked

  -- one wire more
  pub wire_arcs-step : (all done put : List arcs.Arc) (ws : List Wire) (zs : List ℤ) (i : ℕ) (w e : Wire) (z y : ℤ) (b : Bool) → length zs ≡ length ws → i < length ws → w ≡ slice_index_or ws i e → z ≡ slice_index_or zs i y → b ≡ is_clocked t w.to.0
      → all ≡ done ++ wire_arcs t (drop i ws) (drop i zs) → put ≡ done ++ (if b then [] else arc_of_wire w z ∷ []) → all ≡ put ++ wire_arcs t (drop (i + 1) ws) (drop (i + 1) zs)
  wire_arcs-step all done put ws zs i w e z y b sizes below isw isz marked before added =
      let one : suc i ≡ i + 1 = omega arith in
      before
      ∙ (ap (λ rest. done ++ rest) (wire_arcs-next ws zs i w e z y b sizes below isw isz marked)
      ∙ (sym (append_assoc done (if b then [] else arc_of_wire w z ∷ []) (wire_arcs t (drop (suc i) ws) (drop (suc i) zs)))
      ∙ (ap (λ front. front ++ wire_arcs t (drop (suc i) ws) (drop (suc i) zs)) (sym added)
      ∙ ap (λ k. put ++ wire_arcs t (drop k ws) (drop k zs)) one)))
