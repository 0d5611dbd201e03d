-- The clocks of a block's file are accepted, and made as they are meant.
use Rattle.std.specs.Prelude.{◌≡◌, ℕ, suc, ◌<◌, ◌==◌, ◌&&◌, ◌||◌, nat_lt, int_le, int_lt, pos, ◌+ℤ◌, Bool, true, false, List, [], ◌∷◌, ◌++◌, map, flat_map, length, All, Contains, Ok, slice_index_or}
use Rattle.std.specs.List.{list_any, range_with_len}
use Rattle.std.specs.Option.{option_map}
use Rattle.std.proofs.Common.{true≢false, refl, sym, ◌∙◌, ap, subst, arith, inl, inr, ◌⊎◌, eq-eqb}
use Rattle.std.proofs.lemmas.Bool.Decides.{Decides-eqb}
use Rattle.std.proofs.lemmas.Int.{ints}
use Rattle.std.proofs.lemmas.List.{append_assoc, append-nil, map-append}
use Rattle.std.proofs.lemmas.List.Elements.{All-map, All-filter, All-contains, Contains-append_left, Contains-append_right, Contains-append_cases, Contains-get_or}
use Rattle.std.proofs.lemmas.List.Folds.{list_any_none}
use Rattle.std.specs.Str.{bytes_eq}
use Rattle.bud_base.specs.declared.ids.PinId.{PinId}
use Rattle.bud_base.proofs.FindLemmas.{none-position_from}
use Rattle.bud_syntax.specs.declared.constraints.Object.{Object}
use Rattle.bud_syntax.specs.declared.constraints.Object.TheVariants.{Ports, Pins}
use Rattle.bud_design.specs.declared.clocks.Clock.{Clock}
use Rattle.bud_design.specs.Clocks.{IsSoundClock, clock_at}
use Rattle.bud_design.specs.Designs.{place_at, pin_at, bits_of, input_bits, pins_of, pin_name, is_input, is_output, is_pin_of}
use Rattle.bud_design.specs.DesignRules.{IsDesign}
use Rattle.bud_design.specs.Exceptions.{has_pin}
use Rattle.bud_design.specs.Policies.{is_number}
use Rattle.clock_reach.specs.Reached.{AreSources, AreReached}
use Rattle.clock_reach.specs.Walks.{mark_at}
use Rattle.requirements.proofs.Members.{some-same}
use Rattle.requirements.proofs.SourceLaws.{sources-are}
use Rattle.requirements.specs.SoundScopes.{IsPinAs, AreSoundClocks}
use Rattle.timing_objects.specs.declared.things.Role.TheVariants.{Source}
use Rattle.timing_objects.specs.declared.things.Thing.{Thing}
use Rattle.timing_objects.specs.Answers.{Answer, ◌>>=◌, each}
use Rattle.timing_objects.specs.Objects.{Subject, a_pin, is_source_pin, has_source, is_free, things_in, pins_in}
use Rattle.timing_scopes.specs.declared.scopes.Scope.{Scope}
use Rattle.timing_scopes.specs.Resolving.{pins_named, is_waveform, unless_called, with_command, resolved_from}
use Rattle.block_theory.specs.BlockClocks.{port_objects, pin_objects, bits_reached, sources_inside, source_objects, real_clocks, real_clock, virtual_clock}
use Rattle.block_theory.specs.BlockFiles.{numbered_from}
use Rattle.block_theory.specs.BlockPorts.{Context, class_clock, port_classes}
use Rattle.block_theory.specs.Blocks.{IsBlock}
use Rattle.block_theory.specs.BlockScopes.{pin_ids, real_as, virtual_as, block_clocks}
use Rattle.block_theory.proofs.Insides.{and-true}
use Rattle.block_laws.proofs.Standing.{top-not_inside}
use Rattle.block_pieces.proofs.BlockReaching.{pin_id-in, has_pin-in, bit-in, inside-in}
use Rattle.block_pieces.proofs.Numbering.{Rise, filtered-rise, filtered-below, filtered-passes}
use Rattle.block_names.specs.ClockNames.{NamesDiffer}
use Rattle.block_names.proofs.FormReadings.{things-one, each-map, pins-pins}
use Rattle.block_names.proofs.NamesBelow.{pin-means, port-means}
use Rattle.block_readings.proofs.Lists.{before-all}

or-cases : (a b : Bool) → a || b ≡ true → (a ≡ true) ⊎ (b ≡ true)
or-cases true b e = inl refl
or-cases false b e = inr e

or-second : (a b : Bool) → b ≡ true → a || b ≡ true
or-second true b is = refl
or-second false b is = is

-- a name that no clock made before has
name-free : (before : List Clock) (c : Clock) (behind : List Clock) → NamesDiffer (before ++ c ∷ behind) → unless_called before c.name ≡ Ok before
name-free before c behind differ =
    let none = none-position_from (λ (a : Clock). bytes_eq a.name c.name) 0 before (before-all (λ (a b : Clock). bytes_eq a.name b.name ≡ false) before c behind differ) in
    rw none refl

sound-wave : (c : Clock) → IsSoundClock c → is_waveform c.period c.rise c.fall ≡ true
sound-wave c sound =
    let shortest : int_le (pos 2) c.period ≡ true = grind (arith, ints, sound.shortest) in
    let in_order : int_lt c.rise c.fall ≡ true = grind (arith, ints, sound.in_order) in
    let in_period : int_lt c.fall (c.rise +ℤ c.period) ≡ true = grind (arith, ints, sound.in_period) in
    rw (shortest, in_order, in_period) refl

module _ (x : Context) (design : IsDesign x.design) (block : IsBlock x.design x.block) (reached : AreReached x.design 0 x.all.clocks x.reached)
    (sound : AreSoundClocks (record { design = x.design; root = 0; timing = x.timing }) x.all.clocks) where
  abbrev whole : Subject
  whole = record { design = x.design; root = 0; timing = x.timing }

  abbrev s : Subject
  s = record { design = x.design; root = x.block; timing = x.timing }

  sources : AreSources x.design x.all.clocks
  sources = sources-are x.design design x.timing x.all.clocks sound

  -- ---- the sources of a real clock: input bits, and outputs of leaves inside
  record IsBit (v : ℕ) : Type 0 where
    pub below : v < length x.design.pins
    pub place : (pin_at x.design.pins v).place ≡ x.block
    pub input : is_input (pin_at x.design.pins v).dir ≡ true

  record IsInner (c v : ℕ) : Type 0 where
    pub below : v < length x.design.pins
    pub inside : is_pin_of x.design x.block v ≡ true
    pub source : Contains (clock_at x.all.clocks c).sources (record { 0 = v })

  abbrev is_of : ℕ → Bool
  is_of v = (pin_at x.design.pins v).place == x.block

  abbrev IsPortBit : ℕ → Type 0
  IsPortBit v = (v < length x.design.pins) × ((pin_at x.design.pins v).place ≡ x.block)

  port-bits : All IsPortBit (bits_of x.design x.block)
  port-bits i e less =
      let v = slice_index_or (bits_of x.design x.block) i e in
      let there = Contains-get_or (bits_of x.design x.block) i e less in
      (filtered-below is_of (length x.design.pins) v there, (Decides-eqb (pin_at x.design.pins v).place x.block).0 (filtered-passes is_of (range_with_len 0 (length x.design.pins)) v there))

  input-bits : All IsBit (input_bits x.design x.block)
  input-bits i e less =
      let is = All-filter (λ v. is_input (pin_at x.design.pins v).dir) IsPortBit (bits_of x.design x.block) port-bits i e less in
      record {
        below = is.0;
        place = is.1;
        input = filtered-passes (λ v. is_input (pin_at x.design.pins v).dir) (bits_of x.design x.block) (slice_index_or (input_bits x.design x.block) i e) (Contains-get_or (input_bits x.design x.block) i e less);
      }

  bit-is : (c v : ℕ) → Contains (bits_reached x c) v → IsBit v
  bit-is c v has = All-contains IsBit (bits_reached x c) v (All-filter (λ v. is_number c (mark_at x.reached v)) IsBit (input_bits x.design x.block) input-bits) has

  abbrev IsPinIn : ℕ → Type 0
  IsPinIn v = (v < length x.design.pins) × (is_pin_of x.design x.block v ≡ true)

  inner-pins : All IsPinIn (pins_of x.design x.block)
  inner-pins i e less =
      let v = slice_index_or (pins_of x.design x.block) i e in
      let there = Contains-get_or (pins_of x.design x.block) i e less in
      (filtered-below (is_pin_of x.design x.block) (length x.design.pins) v there, filtered-passes (is_pin_of x.design x.block) (range_with_len 0 (length x.design.pins)) v there)

  inner-is : (c v : ℕ) → Contains (sources_inside x c) v → IsInner c v
  inner-is c v has =
      let is = All-contains IsPinIn (sources_inside x c) v (All-filter (has_pin (clock_at x.all.clocks c).sources) IsPinIn (pins_of x.design x.block) inner-pins) has in
      record { below = is.0; inside = is.1; source = inside-in x design block reached sources c v has }

  bit-may : (v : ℕ) → IsBit v → is_source_pin s v ≡ true
  bit-may v is = rw (eq-eqb (pin_at x.design.pins v).place x.block is.place, is.input) refl

  inner-leaf : (c v : ℕ) → c < length x.all.clocks → IsInner c v → ((place_at x.design.places (pin_at x.design.pins v).place).leaf && is_output (pin_at x.design.pins v).dir) ≡ true
  inner-leaf c v below is =
      let as_source = All-contains (IsPinAs whole Source) (clock_at x.all.clocks c).sources (record { 0 = v }) (sound.sources c (clock_at [] 0) below) is.source in
      elim (or-cases ((pin_at x.design.pins v).place == 0 && is_input (pin_at x.design.pins v).dir) ((place_at x.design.places (pin_at x.design.pins v).place).leaf && is_output (pin_at x.design.pins v).dir) as_source.may_be) [
        | inl top ↦
            let place = (Decides-eqb (pin_at x.design.pins v).place 0).0 (and-true ((pin_at x.design.pins v).place == 0) (is_input (pin_at x.design.pins v).dir) top).0 in
            absurd (top-not_inside x.design design x.block block v place is.inside)
        | inr leaf ↦ leaf
      ]

  inner-may : (c v : ℕ) → c < length x.all.clocks → IsInner c v → is_source_pin s v ≡ true
  inner-may c v below is =
      or-second ((pin_at x.design.pins v).place == x.block && is_input (pin_at x.design.pins v).dir) ((place_at x.design.places (pin_at x.design.pins v).place).leaf && is_output (pin_at x.design.pins v).dir) (inner-leaf c v below is)

  bit-no_inner : (c v : ℕ) → c < length x.all.clocks → IsBit v → IsInner c v → ⊥
  bit-no_inner c v below bit is =
      let leaf = (and-true (place_at x.design.places (pin_at x.design.pins v).place).leaf (is_output (pin_at x.design.pins v).dir) (inner-leaf c v below is)).0 in
      true≢false (sym leaf ∙ (ap (λ p. (place_at x.design.places p).leaf) bit.place ∙ block.plain))

  -- ---- a source belongs to one clock
  abbrev sources_of : ℕ → List ℕ
  sources_of c = bits_reached x c ++ sources_inside x c

  source-one : (c e v : ℕ) → c < length x.all.clocks → e < length x.all.clocks → Contains (sources_of c) v → Contains (sources_of e) v → c ≡ e
  source-one c e v belowc belowe hasc hase =
      by_kinds (Contains-append_cases (bits_reached x c) (sources_inside x c) v hasc) (Contains-append_cases (bits_reached x e) (sources_inside x e) v hase)
    where
      by_kinds : Contains (bits_reached x c) v ⊎ Contains (sources_inside x c) v → Contains (bits_reached x e) v ⊎ Contains (sources_inside x e) v → c ≡ e
      by_kinds (inl bit) (inl other) = some-same c e (sym (reached.all v c (bit-in x design block reached sources c v bit)) ∙ reached.all v e (bit-in x design block reached sources e v other))
      by_kinds (inl bit) (inr inner) = absurd (bit-no_inner e v belowe (bit-is c v bit) (inner-is e v inner))
      by_kinds (inr inner) (inl bit) = absurd (bit-no_inner c v belowc (bit-is e v bit) (inner-is c v inner))
      by_kinds (inr inner) (inr other) = sources.apart c e v (belowc, (inner-is c v inner).source) (belowe, (inner-is e v other).source)

  no-source : (p v : ℕ) → (Contains (sources_of p) v → ⊥) → list_any (λ (q : PinId). q.0 == v) (pin_ids (sources_of p)) ≡ false
  no-source p v none = by_test (list_any (λ (q : PinId). q.0 == v) (pin_ids (sources_of p))) refl
    where
      by_test : (b : Bool) → list_any (λ (q : PinId). q.0 == v) (pin_ids (sources_of p)) ≡ b → b ≡ false
      by_test false is = refl
      by_test true is = absurd (none (pin_id-in (sources_of p) (record { 0 = v }) (has_pin-in (pin_ids (sources_of p)) (record { 0 = v }) is)))

  lacks-source : (ps : List ℕ) (v : ℕ) → All (λ p. Contains (sources_of p) v → ⊥) ps → has_source (map (real_as x) ps) (a_pin v) ≡ false
  lacks-source ps v none =
      list_any_none (λ (c : Clock). list_any (λ (q : PinId). q.0 == v) c.sources) (map (real_as x) ps)
      (All-map (λ (c : Clock). list_any (λ (q : PinId). q.0 == v) c.sources ≡ false) (real_as x) ps (λ i e less. no-source (slice_index_or ps i e) v (none i e less)))

  -- ---- the pins that a real clock's objects name
  module _ (before : List Clock) (c : ℕ) (below : c < length x.all.clocks) (free : (v : ℕ) → Contains (sources_of c) v → is_free Source before (a_pin v) ≡ true) where
    bit-thing : (v : ℕ) → Contains (bits_reached x c) v → things_in s Source before (Ports (pin_name x.design x.block v)) ≡ Ok (a_pin v ∷ [])
    bit-thing v has =
        let is = bit-is c v has in
        things-one s Source before (Ports (pin_name x.design x.block v)) (a_pin v) (ap (option_map (map a_pin)) (port-means x.design design x.block block v is.below is.place)) (bit-may v is)
        (free v (Contains-append_left (bits_reached x c) (sources_inside x c) v has))

    inner-thing : (v : ℕ) → Contains (sources_inside x c) v → things_in s Source before (Pins (pin_name x.design x.block v)) ≡ Ok (a_pin v ∷ [])
    inner-thing v has =
        let is = inner-is c v has in
        things-one s Source before (Pins (pin_name x.design x.block v)) (a_pin v) (ap (option_map (λ v. a_pin v ∷ [])) (pin-means x.design design x.block block v is.below is.inside)) (inner-may c v below is)
        (free v (Contains-append_right (bits_reached x c) (sources_inside x c) v has))

    abbrev things : Object → Answer (List Thing)
    things o = things_in s Source before o

    source-things : each things (source_objects x c) ≡ Ok (map a_pin (bits_reached x c) ++ (map a_pin (sources_inside x c) ++ []))
    source-things =
        ap (λ os. each things (port_objects x (bits_reached x c) ++ os)) (sym (append-nil (pin_objects x (sources_inside x c))))
        ∙ each-map things (λ v. Ports (pin_name x.design x.block v)) a_pin (bits_reached x c) (pin_objects x (sources_inside x c) ++ []) (map a_pin (sources_inside x c) ++ [])
        (λ i e less. bit-thing (slice_index_or (bits_reached x c) i e) (Contains-get_or (bits_reached x c) i e less))
        (each-map things (λ v. Pins (pin_name x.design x.block v)) a_pin (sources_inside x c) [] []
        (λ i e less. inner-thing (slice_index_or (sources_inside x c) i e) (Contains-get_or (sources_inside x c) i e less)) refl)

    pub sources-named : pins_named s Source before (source_objects x c) ≡ Ok (pin_ids (sources_of c))
    sources-named =
        ap (λ (a : Answer (List Thing)). a >>= λ ts. Ok (flat_map (pins_in s Source) ts)) source-things
        ∙ (ap (λ (ts : List Thing). Ok (flat_map (pins_in s Source) (map a_pin (bits_reached x c) ++ ts))) (append-nil (map a_pin (sources_inside x c)))
        ∙ (ap (λ (ts : List Thing). Ok (flat_map (pins_in s Source) ts)) (sym (map-append a_pin (bits_reached x c) (sources_inside x c))) ∙ ap (λ (ps : List PinId). Ok ps) (pins-pins s Source (sources_of c))))

  -- ---- one clock after the other
  module _ (differ : NamesDiffer (block_clocks x)) (waves : (k : ℕ) → Contains (port_classes x) k → IsSoundClock (class_clock x.all x.layered k)) where
    abbrev virtuals : List Clock
    virtuals = map (virtual_as x) (port_classes x)

    reals-rise : Rise (real_clocks x)
    reals-rise = filtered-rise (λ c. nat_lt 0 (length (source_objects x c))) (length x.all.clocks)

    real-below : (c : ℕ) → Contains (real_clocks x) c → c < length x.all.clocks
    real-below c has = filtered-below (λ c. nat_lt 0 (length (source_objects x c))) (length x.all.clocks) c has

    -- the clocks around a real one
    around-real : (ps cs : List ℕ) (c : ℕ) → ps ++ c ∷ cs ≡ real_clocks x → NamesDiffer (map (real_as x) ps ++ real_as x c ∷ (map (real_as x) cs ++ virtuals))
    around-real ps cs c are =
        subst NamesDiffer
        (ap (λ ns. map (real_as x) ns ++ virtuals) (sym are) ∙ (ap (λ ks. ks ++ virtuals) (map-append (real_as x) ps (c ∷ cs)) ∙ append_assoc (map (real_as x) ps) (real_as x c ∷ map (real_as x) cs) virtuals)) differ

    real-step : (ps cs : List ℕ) (c : ℕ) (scope : Scope) (number : ℕ) → ps ++ c ∷ cs ≡ real_clocks x → scope.clocks ≡ map (real_as x) ps
        → with_command s scope number (real_clock x c) ≡ Ok (record scope { clocks = map (real_as x) ps ++ real_as x c ∷ [] })
    real-step ps cs c scope number are clocks =
        let within : (p : ℕ) → Contains (ps ++ c ∷ cs) p → p < length x.all.clocks = λ p has. real-below p (subst (λ ns. Contains ns p) are has) in
        let below = within c (Contains-append_right ps (c ∷ cs) c (0, omega arith, refl)) in
        let less = before-all (λ m n. m < n) ps c cs (subst Rise (sym are) reals-rise) in
        let free : (v : ℕ) → Contains (sources_of c) v → is_free Source (map (real_as x) ps) (a_pin v) ≡ true
        = λ v has.
        (let none = lacks-source ps v
        (λ i e inside hasp.
        (let p = slice_index_or ps i e in
        let same = source-one p c v (within p (Contains-append_left ps (c ∷ cs) p (Contains-get_or ps i e inside))) below hasp has in
        omega (arith, same, less i e inside))) in
        rw none refl) in
        let name = name-free (map (real_as x) ps) (real_as x c) (map (real_as x) cs ++ virtuals) (around-real ps cs c are) in
        let named = sources-named (map (real_as x) ps) c below free in
        let wave = sound-wave (clock_at x.all.clocks c) (sound.waves c (clock_at [] 0) below) in
        rw (clocks, name, named, wave) refl

    pub reals-read : (cs ps : List ℕ) (scope : Scope) (number : ℕ) → ps ++ cs ≡ real_clocks x → scope.clocks ≡ map (real_as x) ps
        → resolved_from s scope (numbered_from number (map (real_clock x) cs)) ≡ Ok (record scope { clocks = map (real_as x) (ps ++ cs) })
    reals-read [] ps scope number are clocks = ap (λ ks. Ok (record scope { clocks = ks })) (clocks ∙ ap (map (real_as x)) (sym (append-nil ps)))
    reals-read (c ∷ cs) ps scope number are clocks =
        let step = real-step ps cs c scope number are clocks in
        let more : map (real_as x) ps ++ real_as x c ∷ [] ≡ map (real_as x) (ps ++ c ∷ []) = sym (map-append (real_as x) ps (c ∷ [])) in
        let assoc : (ps ++ c ∷ []) ++ cs ≡ ps ++ c ∷ cs = append_assoc ps (c ∷ []) cs in
        ap (λ (a : Answer Scope). a >>= λ next. resolved_from s next (numbered_from (suc number) (map (real_clock x) cs))) step
        ∙ (reals-read cs (ps ++ c ∷ []) (record scope { clocks = map (real_as x) ps ++ real_as x c ∷ [] }) (suc number) (assoc ∙ are) more
        ∙ ap (λ ns. Ok (record scope { clocks = map (real_as x) ns })) assoc)

    -- and the virtual ones
    abbrev reals : List Clock
    reals = map (real_as x) (real_clocks x)

    around-virtual : (ps ks : List ℕ) (k : ℕ) → ps ++ k ∷ ks ≡ port_classes x → NamesDiffer ((reals ++ map (virtual_as x) ps) ++ virtual_as x k ∷ map (virtual_as x) ks)
    around-virtual ps ks k are =
        subst NamesDiffer
        (ap (λ ns. reals ++ map (virtual_as x) ns) (sym are) ∙ (ap (λ cs. reals ++ cs) (map-append (virtual_as x) ps (k ∷ ks)) ∙ sym (append_assoc reals (map (virtual_as x) ps) (virtual_as x k ∷ map (virtual_as x) ks)))) differ

    virtual-step : (ps ks : List ℕ) (k : ℕ) (scope : Scope) (number : ℕ) → ps ++ k ∷ ks ≡ port_classes x → scope.clocks ≡ reals ++ map (virtual_as x) ps
        → with_command s scope number (virtual_clock x k) ≡ Ok (record scope { clocks = (reals ++ map (virtual_as x) ps) ++ virtual_as x k ∷ [] })
    virtual-step ps ks k scope number are clocks =
        let there = subst (λ ns. Contains ns k) are (Contains-append_right ps (k ∷ ks) k (0, omega arith, refl)) in
        let name = name-free (reals ++ map (virtual_as x) ps) (virtual_as x k) (map (virtual_as x) ks) (around-virtual ps ks k are) in
        let wave = sound-wave (class_clock x.all x.layered k) (waves k there) in
        rw (clocks, name, wave) refl

    pub virtuals-read : (ks ps : List ℕ) (scope : Scope) (number : ℕ) → ps ++ ks ≡ port_classes x → scope.clocks ≡ reals ++ map (virtual_as x) ps
        → resolved_from s scope (numbered_from number (map (virtual_clock x) ks)) ≡ Ok (record scope { clocks = reals ++ map (virtual_as x) (ps ++ ks) })
    virtuals-read [] ps scope number are clocks = ap (λ cs. Ok (record scope { clocks = cs })) (clocks ∙ ap (λ ns. reals ++ map (virtual_as x) ns) (sym (append-nil ps)))
    virtuals-read (k ∷ ks) ps scope number are clocks =
        let step = virtual-step ps ks k scope number are clocks in
        let more : (reals ++ map (virtual_as x) ps) ++ virtual_as x k ∷ [] ≡ reals ++ map (virtual_as x) (ps ++ k ∷ [])
        = append_assoc reals (map (virtual_as x) ps) (virtual_as x k ∷ []) ∙ ap (λ cs. reals ++ cs) (sym (map-append (virtual_as x) ps (k ∷ []))) in
        let assoc : (ps ++ k ∷ []) ++ ks ≡ ps ++ k ∷ ks = append_assoc ps (k ∷ []) ks in
        ap (λ (a : Answer Scope). a >>= λ next. resolved_from s next (numbered_from (suc number) (map (virtual_clock x) ks))) step
        ∙ (virtuals-read ks (ps ++ k ∷ []) (record scope { clocks = (reals ++ map (virtual_as x) ps) ++ virtual_as x k ∷ [] }) (suc number) (assoc ∙ are) more
        ∙ ap (λ ns. Ok (record scope { clocks = reals ++ map (virtual_as x) ns })) assoc)
