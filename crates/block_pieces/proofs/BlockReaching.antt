-- The clocks of a block's file reach in the block's design what the clocks of the top reach in the whole design.
use Rattle.std.specs.Prelude.{◌≡◌, ◌⊎◌, ℕ, ◌-◌, ◌<◌, ◌≤◌, ◌==◌, nat_lt, true, false, List, [], ◌∷◌, ◌++◌, map, length, Contains, Option, Some, None, slice_index_or}
use Rattle.std.proofs.Common.{true≢false, refl, sym, ◌∙◌, ap, subst, arith, inl, inr, eq-eqb}
use Rattle.std.proofs.lemmas.Bool.{cases_lt}
use Rattle.std.proofs.lemmas.Bool.Decides.{Decides-eqb}
use Rattle.std.proofs.lemmas.List.{length-map, length-append, get_or-map, get_or_append_left, get_or-append_right, get_or_past}
use Rattle.std.proofs.lemmas.List.Elements.{All-contains, Contains-append_left, Contains-append_right, Contains-append_cases, Contains-get_or}
use Rattle.std.proofs.lemmas.Option.{none-some}
use Rattle.bud_base.specs.declared.ids.PinId.{PinId}
use Rattle.bud_syntax.specs.declared.constraints.Object.TheVariants.{Ports, Pins}
use Rattle.bud_design.specs.declared.clocks.Clock.{Clock}
use Rattle.bud_design.specs.Clocks.{clock_at, Reaches}
use Rattle.bud_design.specs.Designs.{pin_at, pins_of, bits_of, input_bits, pin_name, is_input, is_inside, is_pin_of, Wired, LeadsTo}
use Rattle.bud_design.specs.DesignRules.{IsDesign}
use Rattle.bud_design.specs.Exceptions.{has_pin}
use Rattle.bud_design.specs.Policies.{is_number}
use Rattle.clock_reach.specs.Reached.{AreSources, AreReached}
use Rattle.clock_reach.specs.Walks.{mark_at}
use Rattle.clock_reach.proofs.ReachLaws.{any-place, place-any}
use Rattle.requirements.proofs.Members.{contains-map}
use Rattle.block_theory.specs.BlockClocks.{bits_reached, sources_inside, source_objects, port_objects, pin_objects, real_clocks}
use Rattle.block_theory.specs.BlockPorts.{Context, port_classes}
use Rattle.block_theory.specs.Blocks.{IsBlock, is_input_of}
use Rattle.block_theory.specs.BlockScopes.{pin_ids, real_as, virtual_as, block_clocks, real_number}
use Rattle.block_theory.proofs.Insides.{and-true}
use Rattle.block_pieces.specs.BlockReach.{ComesFromTop}
use Rattle.block_pieces.proofs.BlockWires.{whole-wired, wired-append, comes-in, ByPort, ByInside}
use Rattle.block_pieces.proofs.Numbering.{IsPlaceOf-place_in, place_in-at, filtered-rise, filtered-below, filtered-passes, filtered-has, filter-has}

-- ---- lists of pins by number
abbrev id_of : ℕ → PinId
id_of v = record { 0 = v }

pub pin_id-in : (vs : List ℕ) (p : PinId) → Contains (pin_ids vs) p → Contains vs p.0
pin_id-in vs p has =
    let below : has.0 < length vs = omega (arith, has.1, length-map {B = PinId} vs (λ v. record { 0 = v })) in
    (has.0, below, ap (λ (q : PinId). q.0) (sym (get_or-map id_of vs has.0 p.0 p below) ∙ has.2))

pub has_pin-in : (ps : List PinId) (p : PinId) → has_pin ps p.0 ≡ true → Contains ps p
has_pin-in ps p is =
    let found = any-place (λ (q : PinId). q.0 == p.0) p ps is in
    (found.0, found.1, ap (λ v. record { 0 = v }) ((Decides-eqb (slice_index_or ps found.0 p).0 p.0).0 found.2))

in-has_pin : (ps : List PinId) (p : PinId) → Contains ps p → has_pin ps p.0 ≡ true
in-has_pin ps p has = place-any (λ (q : PinId). q.0 == p.0) p ps has.0 has.1 (eq-eqb (slice_index_or ps has.0 p).0 p.0 (ap (λ (q : PinId). q.0) has.2))

marked : (o : Option ℕ) (c : ℕ) → is_number c o ≡ true → o ≡ Some c
marked None c is = absurd (true≢false (sym is))
marked (Some k) c is = ap (λ n. Some n) ((Decides-eqb k c).0 is)

module _ (x : Context) (design : IsDesign x.design) (block : IsBlock x.design x.block) (reached : AreReached x.design 0 x.all.clocks x.reached) (sources : AreSources x.design x.all.clocks) where
  -- what a clock reaches is a pin of the design
  reached-below : (c v : ℕ) → Reaches x.design 0 x.all.clocks c v → v < length x.design.pins
  reached-below c v reaches = elim (cases_lt v (length x.reached)) [
    | inl below ↦ omega (arith, below, reached.size)
    | inr past ↦ absurd (none-some c (sym (get_or_past x.reached v None past) ∙ reached.all v c reaches))
  ]

  -- the sources of a clock of the block
  abbrev sources_of : ℕ → List ℕ
  sources_of c = bits_reached x c ++ sources_inside x c

  pub bit-in : (c v : ℕ) → Contains (bits_reached x c) v → Reaches x.design 0 x.all.clocks c v
  bit-in c v has = reached.only v c (marked (mark_at x.reached v) c (filtered-passes (λ v. is_number c (mark_at x.reached v)) (input_bits x.design x.block) v has))

  -- an input bit that the clock reaches is one of them
  bit-has : (c v : ℕ) → v < length x.design.pins → is_input_of x.design x.block v ≡ true → Reaches x.design 0 x.all.clocks c v → Contains (bits_reached x c) v
  bit-has c v below input reaches =
      let parts = and-true ((pin_at x.design.pins v).place == x.block) (is_input (pin_at x.design.pins v).dir) input in
      let bit = filtered-has (λ v. (pin_at x.design.pins v).place == x.block) (length x.design.pins) v below parts.0 in
      let input_bit = filter-has (λ v. is_input (pin_at x.design.pins v).dir) (bits_of x.design x.block) v bit parts.1 in
      filter-has (λ v. is_number c (mark_at x.reached v)) (input_bits x.design x.block) v input_bit (ap (is_number c) (reached.all v c reaches) ∙ eq-eqb c c refl)

  pub inside-in : (c v : ℕ) → Contains (sources_inside x c) v → Contains (clock_at x.all.clocks c).sources (record { 0 = v })
  inside-in c v has = has_pin-in (clock_at x.all.clocks c).sources (record { 0 = v }) (filtered-passes (has_pin (clock_at x.all.clocks c).sources) (pins_of x.design x.block) v has)

  inside-has : (c : ℕ) (p : PinId) → p.0 < length x.design.pins → is_pin_of x.design x.block p.0 ≡ true → Contains (clock_at x.all.clocks c).sources p → Contains (sources_inside x c) p.0
  inside-has c p below inner has =
      filter-has (has_pin (clock_at x.all.clocks c).sources) (pins_of x.design x.block) p.0
      (filtered-has (is_pin_of x.design x.block) (length x.design.pins) p.0 below inner) (in-has_pin (clock_at x.all.clocks c).sources p has)

  -- ---- a clock with a source is a real clock, and stands at its number
  real-has : (c v : ℕ) → c < length x.all.clocks → Contains (sources_of c) v → Contains (real_clocks x) c
  real-has c v below has =
      filtered-has (λ c. nat_lt 0 (length (source_objects x c))) (length x.all.clocks) c below (some (length (source_objects x c)) (omega (arith, count, has.1)))
    where
      count : length (source_objects x c) ≡ length (sources_of c)
      count =
          length-append (port_objects x (bits_reached x c)) (pin_objects x (sources_inside x c))
          ∙ omega (arith, length-append (bits_reached x c) (sources_inside x c), length-map (bits_reached x c) (λ v. Ports (pin_name x.design x.block v)), length-map (sources_inside x c) (λ v. Pins (pin_name x.design x.block v)))

      some : (n : ℕ) → 0 < n → nat_lt 0 n ≡ true
      some n more = grind (arith, more)

  pub real-at : (c : ℕ) → Contains (real_clocks x) c → (real_number x c < length (block_clocks x)) × (clock_at (block_clocks x) (real_number x c) ≡ real_as x c)
  real-at c has =
      let place = IsPlaceOf-place_in (real_clocks x) c has in
      let below : real_number x c < length (map (real_as x) (real_clocks x)) = omega (arith, place.below, length-map (real_clocks x) (real_as x)) in (
        omega (arith, below, length-append (map (real_as x) (real_clocks x)) (map (virtual_as x) (port_classes x))),
        get_or_append_left (map (real_as x) (real_clocks x)) (map (virtual_as x) (port_classes x)) (clock_at [] 0) (real_number x c) below
            ∙ (get_or-map (real_as x) (real_clocks x) (real_number x c) c (clock_at [] 0) place.below ∙ ap (real_as x) place.is),
      )

  reaches-real : (c v s : ℕ) → c < length x.all.clocks → Contains (sources_of c) s → LeadsTo x.design x.block s v → Reaches x.design x.block (block_clocks x) (real_number x c) v
  reaches-real c v s below has leads =
      let stands = real-at c (real-has c s below has) in
      record {
        number = stands.0;
        source = record { 0 = s };
        is_source = subst (λ (k : Clock). Contains k.sources (record { 0 = s })) (sym stands.1) (contains-map (λ v. record { 0 = v }) (sources_of c) s has);
        wired = leads;
      }

  -- ---- what a clock of the top reaches inside, its real clock reaches in the block's design
  pub reaches-inside : (c v : ℕ) → is_inside x.design.places x.block (pin_at x.design.pins v).place ≡ true → is_input_of x.design x.block v ≡ false → Reaches x.design 0 x.all.clocks c v
      → Reaches x.design x.block (block_clocks x) (real_number x c) v
  reaches-inside c v inner other reaches =
      by_way (comes-in x.design design x.block block (reaches.wired.0 ∷ reaches.wired.1.0) reaches.source.0 v reaches.wired.1.1 inner)
    where
      by_list : (p : ℕ) (vs : List ℕ) → is_input_of x.design x.block p ≡ true → Wired x.design x.block p vs v → LeadsTo x.design x.block p v
      by_list p [] input wired = absurd (true≢false (sym (subst (λ u. is_input_of x.design x.block u ≡ true) wired input) ∙ other))
      by_list p (w ∷ ws) input wired = (w, (ws, wired))

      by_way : ByInside x.design design x.block block reaches.source.0 (reaches.wired.0 ∷ reaches.wired.1.0) v ⊎ ByPort x.design design x.block block reaches.source.0 v
          → Reaches x.design x.block (block_clocks x) (real_number x c) v
      by_way (inl way) =
          let below = All-contains (λ (s : PinId). s.0 < length x.design.pins) (clock_at x.all.clocks c).sources reaches.source (sources.within c (clock_at [] 0) reaches.number) reaches.is_source in
          reaches-real c v reaches.source.0 reaches.number
          (Contains-append_right (bits_reached x c) (sources_inside x c) reaches.source.0 (inside-has c reaches.source below way.inside reaches.is_source))
          (reaches.wired.0, (reaches.wired.1.0, way.wired))
      by_way (inr way) =
          let port : Reaches x.design 0 x.all.clocks c way.port = record { number = reaches.number; source = reaches.source; is_source = reaches.is_source; wired = (way.first, (way.before, way.outer)) } in
          reaches-real c v way.port reaches.number
          (Contains-append_left (bits_reached x c) (sources_inside x c) way.port (bit-has c way.port (reached-below c way.port port) way.input port)) (by_list way.port way.behind way.input way.inner)

  -- ---- and a clock of the block's design reaches nothing else
  whole-reaches : (c v : ℕ) (s : PinId) → c < length x.all.clocks → Contains (sources_of c) s.0 → LeadsTo x.design x.block s.0 v → Reaches x.design 0 x.all.clocks c v
  whole-reaches c v s below has leads = elim (Contains-append_cases (bits_reached x c) (sources_inside x c) s.0 has) [
    | inl bit ↦
        let first = bit-in c s.0 bit in
        record {
          number = below;
          source = first.source;
          is_source = first.is_source;
          wired = (
            first.wired.0,
            (
              first.wired.1.0 ++ (leads.0 ∷ leads.1.0),
              (first.wired.1.1.0, wired-append x.design design 0 first.wired.1.0 (leads.0 ∷ leads.1.0) first.wired.0 s.0 v first.wired.1.1.1 (whole-wired x.design design x.block (leads.0 ∷ leads.1.0) s.0 v leads.1.1)),
            ),
          );
        }
    | inr inner ↦ record {
      number = below;
      source = s;
      is_source = inside-in c s.0 inner;
      wired = (leads.0, (leads.1.0, whole-wired x.design design x.block (leads.0 ∷ leads.1.0) s.0 v leads.1.1));
    }
  ]

  pub reaches-whole : (k v : ℕ) → Reaches x.design x.block (block_clocks x) k v → ComesFromTop x k v
  reaches-whole k v reaches = elim (cases_lt k (length (real_clocks x))) [
    | inl less ↦
        let c = slice_index_or (real_clocks x) k 0 in
        let below : k < length (map (real_as x) (real_clocks x)) = omega (arith, less, length-map (real_clocks x) (real_as x)) in
        let is : clock_at (block_clocks x) k ≡ real_as x c
        = get_or_append_left (map (real_as x) (real_clocks x)) (map (virtual_as x) (port_classes x)) (clock_at [] 0) k below
        ∙ get_or-map (real_as x) (real_clocks x) k 0 (clock_at [] 0) less in
        let has : Contains (real_clocks x) c = Contains-get_or (real_clocks x) k 0 less in
        let source = pin_id-in (sources_of c) reaches.source (subst (λ (q : Clock). Contains q.sources reaches.source) is reaches.is_source) in
        record {
          clock = c;
          real = has;
          number = sym (place_in-at (real_clocks x) (filtered-rise (λ c. nat_lt 0 (length (source_objects x c))) (length x.all.clocks)) k 0 less);
          reaches = whole-reaches c v reaches.source (filtered-below (λ c. nat_lt 0 (length (source_objects x c))) (length x.all.clocks) c has) source reaches.wired;
        }
    | inr most ↦ absurd (no-source (sourceless most))
  ]
    where
      no-source : Contains [] reaches.source → ⊥
      no-source has = omega (arith, has.1)

      sourceless : length (real_clocks x) ≤ k → Contains [] reaches.source
      sourceless most =
          let at_right = get_or-append_right (map (real_as x) (real_clocks x)) (map (virtual_as x) (port_classes x)) (length (real_clocks x)) k (clock_at [] 0) (length-map (real_clocks x) (real_as x)) most in
          let j = k - length (real_clocks x) in
          let within : j < length (port_classes x)
          = omega (arith, reaches.number, most, length-map (real_clocks x) (real_as x), length-append (map (real_as x) (real_clocks x)) (map (virtual_as x) (port_classes x)), length-map (port_classes x) (virtual_as x)) in
          subst (λ (q : Clock). Contains q.sources reaches.source) (at_right ∙ get_or-map (virtual_as x) (port_classes x) j 0 (clock_at [] 0) within) reaches.is_source
