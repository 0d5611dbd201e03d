-- The chain of a pin has the nodes at it, one after the other.
use Rattle.std.specs.Prelude.{◌≡◌, ℕ, zero, suc, ◌+◌, ◌-◌, ◌<◌, ◌≤◌, ◌==◌, Bool, true, false, List, [], ◌∷◌, ◌++◌, filter, find, length, slice_index_or}
use Rattle.std.specs.List.{range_with_len}
use Rattle.std.proofs.Common.{refl, sym, ◌∙◌, ap, subst, arith, inl, inr}
use Rattle.std.proofs.lemmas.Bool.{cases_lt}
use Rattle.std.proofs.lemmas.Bool.Decides.{Decides-eqb}
use Rattle.std.proofs.lemmas.List.{append_assoc, append-nil, length-map, get_or-map, get_or_past}
use Rattle.bud_design.specs.declared.layers.LayerNode.{LayerNode}
use Rattle.bud_design.specs.declared.layers.Layered.{Layered}
use Rattle.name_tables.specs.Chained.{number_or, key_at, found}
use Rattle.name_tables.specs.ChainLists.{ChainLists}
use Rattle.block_theory.specs.BlockPorts.{node_at, nodes_at}
use Rattle.port_nodes.specs.NodeChains.{pins_of_nodes, AreNodeChains}
use Rattle.port_nodes.proofs.Ranges.{up_to, up_to-step, up_to-end, filter-alike}

-- where the first that passes is, those from one on that pass are those from there on
pub record IsFirstFrom (p : ℕ → Bool) (i n m : ℕ) : Type 0 where
  pub from : i ≤ m
  pub within : m ≤ n
  pub passes : m < n → p m ≡ true
  pub same : filter p (up_to i n) ≡ filter p (up_to m n)

first-in : (p : ℕ → Bool) (n k i : ℕ) → i + k ≡ n → IsFirstFrom p i n (number_or n (find p (range_with_len i k)))
first-in p n zero i sum = record {
  from = omega (arith, sum);
  within = omega arith;
  passes = λ less. absurd (omega (arith, less));
  same = ap (filter p) (up_to-end i n (omega (arith, sum)) ∙ sym (up_to-end n n (omega arith)));
}
first-in p n (suc k) i sum = by_test (p i) refl (first-in p n k (i + 1) (omega (arith, sum)))
  where
    below : i < n
    below = omega (arith, sum)

    by_test : (b : Bool) → p i ≡ b → IsFirstFrom p (i + 1) n (number_or n (find p (range_with_len (i + 1) k))) → IsFirstFrom p i n (number_or n (find p (range_with_len i (suc k))))
    by_test true is later =
        let here : number_or n (find p (range_with_len i (suc k))) ≡ i = rw is refl in
        subst (IsFirstFrom p i n) (sym here) (record { from = omega arith; within = omega (arith, below); passes = λ less. is; same = refl })
    by_test false is later =
        let on : number_or n (find p (range_with_len i (suc k))) ≡ number_or n (find p (range_with_len (i + 1) k)) = rw is refl in
        let skipped : filter p (up_to i n) ≡ filter p (up_to (i + 1) n) = ap (filter p) (up_to-step i n below) ∙ (let one : filter p (i ∷ up_to (i + 1) n) ≡ filter p (up_to (i + 1) n) = rw is refl in one) in
        subst (IsFirstFrom p i n) (sym on) (record { from = omega (arith, later.from); within = later.within; passes = later.passes; same = skipped ∙ later.same })

pub first-from : (p : ℕ → Bool) (i n : ℕ) → i ≤ n → IsFirstFrom p i n (number_or n (find p (up_to i n)))
first-from p i n most = first-in p n (n - i) i (omega (arith, most))

module _ (layered : Layered) (v : ℕ) where
  abbrev pub count : ℕ
  count = length layered.nodes

  abbrev pub stands : ℕ → Bool
  stands n = key_at (pins_of_nodes layered.nodes) n == v

  key-is : (n : ℕ) → key_at (pins_of_nodes layered.nodes) n ≡ (node_at layered.nodes n).pin.0
  key-is n = elim (cases_lt n (length layered.nodes)) [
    | inl below ↦ get_or-map (λ (n : LayerNode). n.pin.0) layered.nodes n (node_at [] 0) 0 below
    | inr past ↦
        get_or_past (pins_of_nodes layered.nodes) n 0 (omega (arith, past, length-map layered.nodes (λ (n : LayerNode). n.pin.0)))
        ∙ sym (ap (λ (n : LayerNode). n.pin.0) (get_or_past layered.nodes n (node_at [] 0) past))
  ]

  pub nodes-are : filter stands (up_to 0 count) ≡ nodes_at layered v
  nodes-are =
      filter-alike stands (λ n. (node_at layered.nodes n).pin.0 == v) (up_to 0 count) (λ n. ap (λ k. k == v) (key-is n))
      ∙ ap (λ k. filter (λ n. (node_at layered.nodes n).pin.0 == v) (range_with_len 0 k)) (omega arith)

  pub count-is : length (pins_of_nodes layered.nodes) ≡ count
  count-is = length-map layered.nodes (λ (n : LayerNode). n.pin.0)

  -- the nodes that are put and those that wait are the nodes at the pin
  pub record ArePut (before out : List ℕ) (next : ℕ) : Type 0 where
    pub parts : out ++ filter stands (up_to next count) ≡ before ++ nodes_at layered v
    pub within : next ≤ count
    pub passes : next < count → stands next ≡ true

  pub put-first : (chains : ChainLists) (before : List ℕ) (next : ℕ) (f : ℕ → ℕ) → AreNodeChains layered.nodes chains → next ≡ f v → ((key : ℕ) → f key ≡ number_or (length (pins_of_nodes layered.nodes)) (found (key_at (pins_of_nodes layered.nodes)) 0 (length (pins_of_nodes layered.nodes)) key))
      → ArePut before before next
  put-first chains before next f are is first =
      let here : next ≡ number_or count (find stands (up_to 0 count)) = is ∙ (first v ∙ ap (λ n. number_or n (find stands (up_to 0 n))) count-is) in
      let there = first-from stands 0 count (omega arith) in
      subst (ArePut before before) (sym here)
      (record { parts = ap (λ ns. before ++ ns) (sym there.same ∙ nodes-are); within = there.within; passes = there.passes })

  pub put-next : (chains : ChainLists) (before out : List ℕ) (here next : ℕ) → AreNodeChains layered.nodes chains → here < count → next ≡ slice_index_or chains.next here 0
      → ArePut before out here → (here < next) × ArePut before (out ++ here ∷ []) next
  put-next chains before out here next are below is put =
      let key : key_at (pins_of_nodes layered.nodes) here ≡ v = (Decides-eqb (key_at (pins_of_nodes layered.nodes) here) v).0 (put.passes below) in
      let after : next ≡ number_or count (find stands (up_to (here + 1) count))
      = is ∙ (are.next here (omega arith) (omega (arith, below, count-is)) ∙ (ap (λ k. number_or (length (pins_of_nodes layered.nodes)) (found (key_at (pins_of_nodes layered.nodes)) (here + 1) (length (pins_of_nodes layered.nodes)) k)) key
      ∙ ap (λ n. number_or n (find stands (up_to (here + 1) n))) count-is)) in
      let there = first-from stands (here + 1) count (omega (arith, below)) in
      let step : filter stands (up_to here count) ≡ here ∷ filter stands (up_to (here + 1) count)
      = ap (filter stands) (up_to-step here count below) ∙ (let one : filter stands (here ∷ up_to (here + 1) count) ≡ here ∷ filter stands (up_to (here + 1) count) = rw (put.passes below) refl in one) in
      let parts : (out ++ here ∷ []) ++ filter stands (up_to (number_or count (find stands (up_to (here + 1) count))) count) ≡ before ++ nodes_at layered v
      = append_assoc out (here ∷ []) (filter stands (up_to (number_or count (find stands (up_to (here + 1) count))) count))
      ∙ (ap (λ ns. out ++ here ∷ ns) (sym there.same) ∙ (ap (λ ns. out ++ ns) (sym step) ∙ put.parts)) in
      let new : ArePut before (out ++ here ∷ []) (number_or count (find stands (up_to (here + 1) count))) = record { parts = parts; within = there.within; passes = there.passes } in
      (omega (arith, after, there.from), subst (ArePut before (out ++ here ∷ [])) (sym after) new)

  pub put-all : (before out : List ℕ) (next : ℕ) → count ≤ next → ArePut before out next → out ≡ before ++ nodes_at layered v
  put-all before out next past put = sym (append-nil out) ∙ (ap (λ ns. out ++ filter stands ns) (sym (up_to-end next count past)) ∙ put.parts)
