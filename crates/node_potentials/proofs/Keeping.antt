-- Potentials that move, and that are kept.
use Rattle.std.proofs.Common.{◌≡◌, ◌≢◌, ℕ, ℤ, pos, ◌+◌, ◌<◌, ◌≤◌, Bool, true, false, List, length, set, arith, ap, sym, subst, ◌∙◌, inl, inr, get_or-set_same, get_or-set_other}
use Rattle.std.proofs.lemmas.Bool.{cases_eq, cases_Bool}
use Rattle.std.proofs.lemmas.List.{ext_get_or}
use Rattle.std.proofs.Math.ListN.{length-set}
use Rattle.bud_base.specs.declared.ids.NodeId.{NodeId}
use Rattle.bud_flow.specs.Sums.{number_at}
use Rattle.node_potentials.specs.Moves.{flag_at, node_at, IsListed, AreNoted, AreSame}
use Rattle.node_potentials.specs.Insides.{AreKept}
use Rattle.node_potentials.proofs.Noting.{true-false, AreNoted-none}

-- the potentials of the nodes at the first places are kept, and the flags of all others that are up stand at places after them
pub record AreKeptTo (kept present : List ℤ) (flags : List Bool) (nodes : List NodeId) (place count : ℕ) : Type 0 where
  pub same : AreSame kept present flags
  pub rest : (v : ℕ) → flag_at flags v ≡ true → IsListed nodes place count v

pub AreKeptTo-none : (kept present : List ℤ) (flags : List Bool) (nodes : List NodeId) (count : ℕ) → AreNoted flags nodes count → AreSame kept present flags → AreKeptTo kept present flags nodes 0 count
AreKeptTo-none kept present flags nodes count noted same = record { same = same; rest = noted.each }

pub AreKeptTo-more : (kept present : List ℤ) (flags : List Bool) (nodes : List NodeId) (place count w : ℕ) (told : ℤ) → node_at nodes place ≡ w → told ≡ number_at present w → w < length kept → w < length flags → AreKeptTo kept present flags nodes place count
    → AreKeptTo (set kept w told) present (set flags w false) nodes (place + 1) count
AreKeptTo-more kept present flags nodes place count w told is is_told kept_in flag_in so_far =
    let down : flag_at (set flags w false) w ≡ false = get_or-set_same flags w false false flag_in in
    record {
      same = λ v is_down. elim (cases_eq v w) [
        | inl same ↦ ap (number_at (set kept w told)) same ∙ get_or-set_same kept w told (pos 0) kept_in ∙ is_told ∙ ap (number_at present) (sym same)
        | inr other ↦ get_or-set_other kept w v told (pos 0) other ∙ so_far.same v (sym (get_or-set_other flags w v false false other) ∙ is_down)
      ];
      rest = λ v up. elim (cases_eq v w) [
        | inl same ↦ absurd (true-false (flag_at (set flags w false) w) (ap (flag_at (set flags w false)) (sym same) ∙ up) down)
        | inr other ↦
            let one = so_far.rest v (sym (get_or-set_other flags w v false false other) ∙ up) in
            let later : one.place ≢ place = λ e. other (sym one.is ∙ ap (node_at nodes) e ∙ is) in
            record { place = one.place; above = omega (arith, one.above, later); below = one.below; is = one.is }
      ];
    }

down-all : (kept present : List ℤ) (flags : List Bool) (nodes : List NodeId) (place count v : ℕ) → count ≤ place → AreKeptTo kept present flags nodes place count → flag_at flags v ≡ false
down-all kept present flags nodes place count v all so_far = elim (cases_Bool (flag_at flags v)) [
  | inl up ↦
      let one = so_far.rest v up in
      absurd (omega (arith, one.above, one.below))
  | inr down ↦ down
]

pub none-kept : (kept present : List ℤ) (flags : List Bool) (nodes : List NodeId) (place count : ℕ) → count ≤ place → AreKeptTo kept present flags nodes place count → (v : ℕ) → flag_at flags v ≡ false
none-kept kept present flags nodes place count all so_far v = down-all kept present flags nodes place count v all so_far

pub all-kept : (kept present : List ℤ) (flags : List Bool) (nodes : List NodeId) (place count : ℕ) → count ≤ place → length kept ≡ length present → AreKeptTo kept present flags nodes place count → kept ≡ present
all-kept kept present flags nodes place count all size so_far = ext_get_or (pos 0) kept present size (λ v below. so_far.same v (down-all kept present flags nodes place count v all so_far))

-- a potential moved: what was lent is what there was, and what there is now is what came back
pub AreKept-put : (kept present present_now : List ℤ) (flags lent back now : List Bool) (nodes nodes_back nodes_now : List NodeId) (count result v : ℕ) (potential : ℤ) → lent ≡ flags → now ≡ back → nodes_now ≡ nodes_back → length back ≡ length lent
    → present_now ≡ set present v potential → AreNoted back nodes_back result → flag_at back v ≡ true → ((w : ℕ) → w ≢ v → flag_at back w ≡ flag_at lent w) → AreKept kept present flags nodes count
    → AreKept kept present_now now nodes_now result
AreKept-put kept present present_now flags lent back now nodes nodes_back nodes_now count result v potential is_lent is_now is_nodes size is_present noted up others before =
    let E : List Bool → Type 0 = λ l. AreKept kept present_now l nodes_now result in
    let N : List NodeId → Type 0 = λ l. AreKept kept present_now back l result in
    let P : List ℤ → Type 0 = λ l. AreKept kept l back nodes_back result in
    subst E (sym is_now) (subst N (sym is_nodes) (subst P (sym is_present) (record {
      noted = noted;
      same = λ w down. elim (cases_eq w v) [
        | inl same ↦ absurd (true-false (flag_at back v) up (ap (flag_at back) (sym same) ∙ down))
        | inr other ↦ before.same w (ap (λ l. flag_at l w) (sym is_lent) ∙ sym (others w other) ∙ down) ∙ sym (get_or-set_other present v w potential (pos 0) other)
      ];
      kept_size = omega (arith, before.kept_size, ap length is_lent, size);
      present_size = omega (arith, before.present_size, ap length is_lent, size, length-set present v potential);
    })))

pub AreKept-none : (kept present : List ℤ) (flags : List Bool) (nodes : List NodeId) → kept ≡ present → length present ≡ length flags → length nodes ≡ length flags → ((v : ℕ) → flag_at flags v ≡ false)
    → AreKept kept present flags nodes 0
AreKept-none kept present flags nodes is size node_size none = record {
  noted = AreNoted-none flags nodes node_size none;
  same = λ v down. ap (λ l. number_at l v) is;
  kept_size = omega (arith, ap length is, size);
  present_size = size;
}
