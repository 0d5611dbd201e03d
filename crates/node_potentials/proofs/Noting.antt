-- Nodes are noted, and taken off again.
use Rattle.std.proofs.Common.{◌≡◌, ◌≢◌, ℕ, ◌+◌, ◌<◌, Bool, true, false, List, [], ◌∷◌, length, set, replicate, zero, suc, arith, refl, ap, sym, ◌∙◌, inl, inr, get_or-set_same, get_or-set_other}
use Rattle.std.proofs.lemmas.Bool.{cases_eq}
use Rattle.std.proofs.Math.ListN.{length-set}
use Rattle.bud_base.specs.declared.ids.NodeId.{NodeId}
use Rattle.node_potentials.specs.Moves.{flag_at, node_at, down_count, AreNoted}

pub true-false : (b : Bool) → b ≡ true → b ≡ false → ⊥
true-false b up down = cc

pub down_count-set : (flags : List Bool) (v : ℕ) → v < length flags → flag_at flags v ≡ false → down_count (set flags v true) + 1 ≡ down_count flags
down_count-set [] v there down = absurd (omega arith)
down_count-set (false ∷ fs) zero there down = omega arith
down_count-set (true ∷ fs) zero there down = absurd (cc)
down_count-set (false ∷ fs) (suc v) there down = omega (arith, down_count-set fs v (omega arith) down)
down_count-set (true ∷ fs) (suc v) there down = down_count-set fs v (omega arith) down

pub down_count-all : (flags : List Bool) → ((v : ℕ) → flag_at flags v ≡ false) → down_count flags ≡ length flags
down_count-all [] all = refl
down_count-all (false ∷ fs) all = omega (arith, down_count-all fs (λ v. all (suc v)))
down_count-all (true ∷ fs) all = absurd (true-false true refl (all 0))

pub flag_at-replicate : (nodes v : ℕ) → flag_at (replicate nodes false) v ≡ false
flag_at-replicate zero zero = refl
flag_at-replicate zero (suc v) = refl
flag_at-replicate (suc n) zero = refl
flag_at-replicate (suc n) (suc v) = flag_at-replicate n v

-- no node is noted
pub AreNoted-none : (flags : List Bool) (nodes : List NodeId) → length nodes ≡ length flags → ((v : ℕ) → flag_at flags v ≡ false) → AreNoted flags nodes 0
AreNoted-none flags nodes size all = record {
  size = size;
  few = omega (arith, down_count-all flags all);
  inside = λ k below. absurd (omega arith);
  each = λ v up. absurd (true-false (flag_at flags v) up (all v));
}

-- one node more
pub AreNoted-more : (flags : List Bool) (nodes : List NodeId) (count : ℕ) (node : NodeId) → node.0 < length flags → flag_at flags node.0 ≡ false → AreNoted flags nodes count
    → AreNoted (set flags node.0 true) (set nodes count node) (count + 1)
AreNoted-more flags nodes count node there down noted =
    let flags_now : List Bool = set flags node.0 true in
    let nodes_now : List NodeId = set nodes count node in
    let flags_size : length flags_now ≡ length flags = length-set flags node.0 true in
    let nodes_size : length nodes_now ≡ length nodes = length-set nodes count node in
    let fewer = down_count-set flags node.0 there down in
    let room : count < length nodes = omega (arith, noted.few, noted.size, fewer) in
    let here : node_at nodes_now count ≡ node.0 = ap (λ (n : NodeId). n.0) (get_or-set_same nodes count node (record { 0 = 0 }) room) in
    let before : (k : ℕ) → k ≢ count → node_at nodes_now k ≡ node_at nodes k = λ k other. ap (λ (n : NodeId). n.0) (get_or-set_other nodes count k node (record { 0 = 0 }) other) in
    record {
      size = omega (arith, nodes_size, flags_size, noted.size);
      few = omega (arith, fewer, noted.few, flags_size);
      inside = λ k below. elim (cases_eq k count) [
        | inl same ↦ omega (arith, ap (node_at nodes_now) same, here, flags_size, there)
        | inr other ↦ omega (arith, before k other, noted.inside k (omega arith), flags_size)
      ];
      each = λ v up. elim (cases_eq v node.0) [
        | inl same ↦ record { place = count; above = omega arith; below = omega arith; is = here ∙ sym same }
        | inr other ↦
            let one = noted.each v (sym (get_or-set_other flags node.0 v true false other) ∙ up) in
            record { place = one.place; above = one.above; below = omega (arith, one.below); is = before one.place (λ e. omega (arith, one.below)) ∙ one.is }
      ];
    }
