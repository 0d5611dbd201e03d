-- The clocks of a block's file have names that differ, and each name means its clock.
use Rattle.std.specs.Prelude.{◌≡◌, ℕ, zero, suc, ◌+◌, ◌-◌, ◌^◌, ◌<◌, ◌≤◌, ◌==◌, Bool, true, false, List, [], ◌∷◌, ◌++◌, map, length, take, decimal, nat_lt, Contains, Some, slice_index_or}
use Rattle.std.specs.List.{position_from, list_any}
use Rattle.std.specs.Str.{bytes_eq}
use Rattle.std.proofs.Common.{true≢false, refl, sym, ◌∙◌, ap, subst, arith, inl, inr}
use Rattle.std.proofs.lemmas.Bool.{cases_lt}
use Rattle.std.proofs.lemmas.Fmt.{decimal_injective}
use Rattle.std.proofs.lemmas.List.{append_cancel_left, take_at, length-map, get_or-map, get_or_append_left, get_or-append_right, length-append}
use Rattle.std.proofs.lemmas.List.Elements.{Contains-get_or}
use Rattle.std.proofs.lemmas.Slice.Eq.{bytes_eq-Decides}
use Rattle.bud_design.specs.declared.clocks.Clock.{Clock}
use Rattle.bud_design.specs.Clocks.{clock_at, clock_called}
use Rattle.bud_design.proofs.ClassLaws.{pairs-head, pairs-tail}
use Rattle.block_theory.specs.BlockClocks.{source_objects, prefix, begins_with, virtual_name, real_clocks}
use Rattle.block_theory.specs.BlockPorts.{Context, node_class, input_nodes, output_nodes, port_classes}
use Rattle.block_theory.specs.BlockScopes.{block_clocks, real_as, virtual_as, real_number, virtual_number}
use Rattle.block_theory.proofs.Prefixes.{prefix-begins_none}
use Rattle.block_pieces.proofs.BlockRequirements.{real-clock-at, virtual-clock-at}
use Rattle.block_pieces.proofs.Numbering.{IsPlaceOf-place_in, filtered-rise, filtered-below}
use Rattle.block_names.specs.ClockNames.{NamesDiffer}

bytes-differ : (xs ys : List ℕ) → (xs ≡ ys → ⊥) → bytes_eq xs ys ≡ false
bytes-differ xs ys never = by_test (bytes_eq xs ys) refl
  where
    by_test : (b : Bool) → bytes_eq xs ys ≡ b → b ≡ false
    by_test false is = refl
    by_test true is = absurd (never ((bytes_eq-Decides xs ys).0 is))

-- among clocks whose names differ each name means its clock
called-from : (clocks : List Clock) → NamesDiffer clocks → (k i : ℕ) (d : Clock) → i < length clocks
    → position_from (λ c. bytes_eq c.name (slice_index_or clocks i d).name) k clocks ≡ Some (k + i)
called-from [] differ k i d below = absurd (omega (arith, below))
called-from (c ∷ cs) differ k zero d below = rw ((bytes_eq-Decides c.name c.name).1 refl) (ap (λ n. Some n) (omega arith))
called-from (c ∷ cs) differ k (suc i) d below =
    let other = pairs-head (λ a b. bytes_eq a.name b.name ≡ false) c cs differ i d (omega (arith, below)) in
    rw other (called-from cs (pairs-tail (λ a b. bytes_eq a.name b.name ≡ false) c cs differ) (k + 1) i d (omega (arith, below)) ∙ ap (λ n. Some n) (omega arith))

pub called-at : (clocks : List Clock) → NamesDiffer clocks → (i : ℕ) → i < length clocks → clock_called clocks (clock_at clocks i).name ≡ Some i
called-at clocks differ i below = called-from clocks differ 0 i (clock_at [] 0) below ∙ ap (λ n. Some n) (omega arith)

module _ (x : Context) (differ : NamesDiffer x.all.clocks) (few : length x.layered.classes ≤ 2 ^ 64) where
  real-place : (i : ℕ) (d : Clock) → i < length (real_clocks x) → slice_index_or (block_clocks x) i d ≡ real_as x (slice_index_or (real_clocks x) i 0)
  real-place i d below =
      get_or_append_left (map (real_as x) (real_clocks x)) (map (virtual_as x) (port_classes x)) d i (omega (arith, below, length-map (real_clocks x) (real_as x)))
      ∙ get_or-map (real_as x) (real_clocks x) i 0 d below

  virtual-place : (i : ℕ) (d : Clock) → length (real_clocks x) ≤ i → i < length (block_clocks x) → slice_index_or (block_clocks x) i d ≡ virtual_as x (slice_index_or (port_classes x) (i - length (real_clocks x)) 0)
  virtual-place i d most below =
      get_or-append_right (map (real_as x) (real_clocks x)) (map (virtual_as x) (port_classes x)) (length (real_clocks x)) i d (length-map (real_clocks x) (real_as x)) most
      ∙ get_or-map (virtual_as x) (port_classes x) (i - length (real_clocks x)) 0 d (class-within i most below)
    where
      class-within : (i : ℕ) → length (real_clocks x) ≤ i → i < length (block_clocks x) → i - length (real_clocks x) < length (port_classes x)
      class-within i most below =
          omega (arith, most, below, length-append (map (real_as x) (real_clocks x)) (map (virtual_as x) (port_classes x)), length-map (real_clocks x) (real_as x), length-map (port_classes x) (virtual_as x))

  port-within : (i : ℕ) → length (real_clocks x) ≤ i → i < length (block_clocks x) → i - length (real_clocks x) < length (port_classes x)
  port-within i most below =
      omega (arith, most, below, length-append (map (real_as x) (real_clocks x)) (map (virtual_as x) (port_classes x)), length-map (real_clocks x) (real_as x), length-map (port_classes x) (virtual_as x))

  real-below : (i : ℕ) → i < length (real_clocks x) → slice_index_or (real_clocks x) i 0 < length x.all.clocks
  real-below i below = filtered-below (λ c. nat_lt 0 (length (source_objects x c))) (length x.all.clocks) (slice_index_or (real_clocks x) i 0) (Contains-get_or (real_clocks x) i 0 below)

  class-below : (i : ℕ) → i < length (port_classes x) → slice_index_or (port_classes x) i 0 < length x.layered.classes
  class-below i below =
      filtered-below (λ k. list_any (λ n. node_class x.layered n == k) (input_nodes x.design x.layered x.block ++ output_nodes x.design x.layered x.block)) (length x.layered.classes)
      (slice_index_or (port_classes x) i 0) (Contains-get_or (port_classes x) i 0 below)

  -- two real clocks, a real and a virtual one, and two virtual ones
  both-real : (i j : ℕ) → i < j → j < length (real_clocks x) → bytes_eq (clock_at x.all.clocks (slice_index_or (real_clocks x) i 0)).name (clock_at x.all.clocks (slice_index_or (real_clocks x) j 0)).name ≡ false
  both-real i j less below =
      differ (slice_index_or (real_clocks x) i 0) (slice_index_or (real_clocks x) j 0) (clock_at [] 0)
      (filtered-rise (λ c. nat_lt 0 (length (source_objects x c))) (length x.all.clocks) i j 0 less below) (real-below j below)

  real-virtual : (c k : ℕ) → c < length x.all.clocks → bytes_eq (clock_at x.all.clocks c).name (virtual_name x k) ≡ false
  real-virtual c k below = bytes-differ (clock_at x.all.clocks c).name (virtual_name x k) never
    where
      front : begins_with (prefix x.all.clocks) (virtual_name x k) ≡ true
      front = (bytes_eq-Decides (take (length (prefix x.all.clocks)) (virtual_name x k)) (prefix x.all.clocks)).1 (take_at (prefix x.all.clocks) (decimal k) (length (prefix x.all.clocks)) refl)

      never : (clock_at x.all.clocks c).name ≡ virtual_name x k → ⊥
      never same = true≢false (sym front ∙ (ap (begins_with (prefix x.all.clocks)) (sym same) ∙ prefix-begins_none x.all.clocks c (clock_at [] 0) below))

  both-virtual : (i j : ℕ) → i < j → j < length (port_classes x) → bytes_eq (virtual_name x (slice_index_or (port_classes x) i 0)) (virtual_name x (slice_index_or (port_classes x) j 0)) ≡ false
  both-virtual i j less below =
      bytes-differ (virtual_name x (slice_index_or (port_classes x) i 0)) (virtual_name x (slice_index_or (port_classes x) j 0))
      (λ same.
      (let first = class-below i (omega (arith, less, below)) in
      let second = class-below j below in
      let one = decimal_injective (slice_index_or (port_classes x) i 0) (slice_index_or (port_classes x) j 0) (omega (arith, first, few)) (omega (arith, second, few))
      (append_cancel_left (prefix x.all.clocks) (decimal (slice_index_or (port_classes x) i 0)) (decimal (slice_index_or (port_classes x) j 0)) same) in
      omega (arith, one, filtered-rise (λ k. list_any (λ n. node_class x.layered n == k) (input_nodes x.design x.layered x.block ++ output_nodes x.design x.layered x.block)) (length x.layered.classes) i j 0 less below)))

  pub block-names_differ : NamesDiffer (block_clocks x)
  block-names_differ i j d less below = elim (cases_lt j (length (real_clocks x))) [
    | inl second ↦
        subst (λ (a : Clock). bytes_eq a.name (slice_index_or (block_clocks x) j d).name ≡ false) (sym (real-place i d (omega (arith, less, second))))
        (subst (λ (b : Clock). bytes_eq (clock_at x.all.clocks (slice_index_or (real_clocks x) i 0)).name b.name ≡ false) (sym (real-place j d second)) (both-real i j less second))
    | inr past ↦ elim (cases_lt i (length (real_clocks x))) [
      | inl first ↦
          subst (λ (a : Clock). bytes_eq a.name (slice_index_or (block_clocks x) j d).name ≡ false) (sym (real-place i d first))
          (subst (λ (b : Clock). bytes_eq (clock_at x.all.clocks (slice_index_or (real_clocks x) i 0)).name b.name ≡ false) (sym (virtual-place j d past below))
          (real-virtual (slice_index_or (real_clocks x) i 0) (slice_index_or (port_classes x) (j - length (real_clocks x)) 0) (real-below i first)))
      | inr both ↦
          subst (λ (a : Clock). bytes_eq a.name (slice_index_or (block_clocks x) j d).name ≡ false) (sym (virtual-place i d both (omega (arith, less, below))))
          (subst (λ (b : Clock). bytes_eq (virtual_name x (slice_index_or (port_classes x) (i - length (real_clocks x)) 0)) b.name ≡ false) (sym (virtual-place j d past below))
          (both-virtual (i - length (real_clocks x)) (j - length (real_clocks x)) (omega (arith, less, both)) (port-within j past below)))
    ]
  ]

  -- so each name means its clock
  pub real-called : (c : ℕ) → Contains (real_clocks x) c → clock_called (block_clocks x) (clock_at x.all.clocks c).name ≡ Some (real_number x c)
  real-called c there =
      let place = IsPlaceOf-place_in (real_clocks x) c there in
      let below : real_number x c < length (block_clocks x)
      = omega (arith, place.below, length-append (map (real_as x) (real_clocks x)) (map (virtual_as x) (port_classes x)), length-map (real_clocks x) (real_as x)) in
      ap (λ (k : Clock). clock_called (block_clocks x) k.name) (sym (real-clock-at x c there)) ∙ called-at (block_clocks x) block-names_differ (real_number x c) below

  pub virtual-called : (k : ℕ) → Contains (port_classes x) k → clock_called (block_clocks x) (virtual_name x k) ≡ Some (virtual_number x k)
  virtual-called k there =
      let place = IsPlaceOf-place_in (port_classes x) k there in
      let below : virtual_number x k < length (block_clocks x)
      = omega (arith, place.below, length-append (map (real_as x) (real_clocks x)) (map (virtual_as x) (port_classes x)), length-map (real_clocks x) (real_as x), length-map (port_classes x) (virtual_as x)) in
      ap (λ (c : Clock). clock_called (block_clocks x) c.name) (sym (virtual-clock-at x k there)) ∙ called-at (block_clocks x) block-names_differ (virtual_number x k) below
