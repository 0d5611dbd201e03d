-- Every delay of a block's file is within the range that a constraint file may have.
use Rattle.std.specs.Prelude.{◌≡◌, ℕ, ◌<◌, ◌==◌, ◌&&◌, not, ℤ, pos, negsuc, int_le, ◌≤ℤ◌, Bool, true, false, List, [], ◌∷◌, length, find, flat_map, All, Contains, Option, None, slice_index_or}
use Rattle.std.proofs.Common.{true≢false, refl, sym, ◌∙◌, subst, arith}
use Rattle.std.proofs.lemmas.Int.{ints}
use Rattle.std.proofs.lemmas.List.Concat.{flat_map-cons}
use Rattle.std.proofs.lemmas.List.Elements.{All-nil, All-cons, All-append, All-contains, Contains-get_or}
use Rattle.std.proofs.lemmas.List.Folds.{find-append}
use Rattle.bud_base.proofs.FindLemmas.{find_pairs-none, option_or-none}
use Rattle.bud_syntax.specs.Ranges.{IsReadTime}
use Rattle.bud_design.specs.Lists.{first_some}
use Rattle.block_theory.specs.BlockFiles.{input_amount, output_amount}
use Rattle.block_theory.specs.BlockPorts.{Context, node_at, nodes_at, input_nodes, output_nodes}
use Rattle.block_theory.specs.BlockValues.{LieBetween, input_values, output_values, block_values, is_within_limit, value_past}
use Rattle.block_pieces.proofs.Numbering.{filtered-below}
use Rattle.bud_design.specs.Designs.{input_bits, output_bits}

none-first : {X Y : Type 0} (f : X → Option Y) (xs : List X) → first_some f xs ≡ None → All (λ x. f x ≡ None) xs
none-first f [] e = All-nil (λ x. f x ≡ None)
none-first f (x ∷ xs) e = (let parts = option_or-none (f x) (first_some f xs) e in All-cons (λ y. f y ≡ None) x xs parts.0 (none-first f xs parts.1))

not-both : (a b : Bool) → not (a && b) ≡ false → (a ≡ true) × (b ≡ true)
not-both true true e = (refl, refl)
not-both true false e = absurd (true≢false e)
not-both false b e = absurd (true≢false e)

within : (z : ℤ) → not (is_within_limit z) ≡ false → IsReadTime z
within z e =
    let both = not-both (int_le (negsuc 999999999) z) (int_le z (pos 1000000000)) e in
    let low : negsuc 999999999 ≤ℤ z = grind (arith, ints, both.0) in
    let high : z ≤ℤ pos 1000000000 = grind (arith, ints, both.1) in
    record { low = low; high = high }

module _ (x : Context) where
  nodes-below : (vs : List ℕ) → All (λ n. n < length x.layered.nodes) (flat_map (nodes_at x.layered) vs)
  nodes-below [] = All-nil (λ n. n < length x.layered.nodes)
  nodes-below (v ∷ vs) =
      subst (All (λ n. n < length x.layered.nodes)) (sym (flat_map-cons (nodes_at x.layered) v vs))
      (All-append (λ n. n < length x.layered.nodes) (nodes_at x.layered v) (flat_map (nodes_at x.layered) vs)
      (λ i e less. filtered-below (λ n. (node_at x.layered.nodes n).pin.0 == v) (length x.layered.nodes) (slice_index_or (nodes_at x.layered v) i e) (Contains-get_or (nodes_at x.layered v) i e less)) (nodes-below vs))

  module _ (early late arrivals : List ℤ) (blocks : List ℕ) (between : LieBetween x.layered.problem early arrivals late) (none : value_past x.design x.all x.layered early late blocks ≡ None)
      (there : Contains blocks x.block) (count : x.layered.problem.nodes ≡ length x.layered.nodes) where
    abbrev inputs : List ℕ
    inputs = input_nodes x.design x.layered x.block

    abbrev outputs : List ℕ
    outputs = output_nodes x.design x.layered x.block

    abbrev is_past : ℤ → Bool
    is_past z = not (is_within_limit z)

    values-none : (find is_past (flat_map (input_values early late) inputs) ≡ None) × (find is_past (flat_map (output_values x.all x.layered early late) outputs) ≡ None)
    values-none =
        option_or-none (find is_past (flat_map (input_values early late) inputs)) (find is_past (flat_map (output_values x.all x.layered early late) outputs))
        (sym (find-append is_past (flat_map (input_values early late) inputs) (flat_map (output_values x.all x.layered early late) outputs))
        ∙ All-contains (λ b. find is_past (block_values x.design x.all x.layered early late b) ≡ None) blocks x.block
        (none-first (λ b. find is_past (block_values x.design x.all x.layered early late b)) blocks none) there)

    pub inputs-within : All (λ n. IsReadTime (input_amount arrivals n)) inputs
    inputs-within i e less =
        let n = slice_index_or inputs i e in
        let both = find_pairs-none is_past (input_amount early) (input_amount late) inputs values-none.0 i e less in
        let first = within (input_amount early n) both.0 in
        let last = within (input_amount late n) both.1 in
        let below : n < x.layered.problem.nodes = omega (arith, count, nodes-below (input_bits x.design x.block) i e less) in
        let from = between.from n below in
        let to = between.to n below in
        record { low = omega (arith, ints, first.low, from); high = omega (arith, ints, last.high, to) }

    pub outputs-within : All (λ n. IsReadTime (output_amount x.all x.layered arrivals n)) outputs
    outputs-within i e less =
        let n = slice_index_or outputs i e in
        let both = find_pairs-none is_past (output_amount x.all x.layered early) (output_amount x.all x.layered late) outputs values-none.1 i e less in
        let first = within (output_amount x.all x.layered early n) both.0 in
        let last = within (output_amount x.all x.layered late n) both.1 in
        let below : n < x.layered.problem.nodes = omega (arith, count, nodes-below (output_bits x.design x.block) i e less) in
        let from = between.from n below in
        let to = between.to n below in
        record { low = omega (arith, ints, last.low, to); high = omega (arith, ints, first.high, from) }
