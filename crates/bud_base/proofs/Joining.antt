-- Lists of items that join up.
use Rattle.std.proofs.Common.{◌≡◌, ℕ, suc, ◌<◌, List, [], ◌∷◌, ◌++◌, length, get_or, refl, arith}
use Rattle.bud_base.specs.Paths.{Joins, item_at}
use Rattle.bud_base.specs.declared.ids.ItemId.{ItemId}
use Rattle.bud_base.specs.declared.problems.Item.{Item}

-- items that lead from each node of a row to the next join up
pub Joins-from_row : (items : List Item) (is : List ItemId) (node : ℕ → ℕ)
    → ((k : ℕ) → k < length is → (get_or is k (record { 0 = 0 })).0 < length items)
    → ((k : ℕ) → k < length is → (item_at items (get_or is k (record { 0 = 0 })).0).from.0 ≡ node k)
    → ((k : ℕ) → k < length is → (item_at items (get_or is k (record { 0 = 0 })).0).to.0 ≡ node (suc k))
    → Joins items (node 0) is (node (length is))
Joins-from_row items [] node within leaves heads = refl
Joins-from_row items (i ∷ is) node within leaves heads = (
  within 0 (omega arith),
  leaves 0 (omega arith),
  rw (heads 0 (omega arith))
      (Joins-from_row items is (λ k. node (suc k)) (λ k below. within (suc k) (omega arith)) (λ k below. leaves (suc k) (omega arith)) (λ k below. heads (suc k) (omega arith))),
)

-- two lists of items that join up, one after the other
pub Joins-append : (items : List Item) (xs ys : List ItemId) (a b c : ℕ) → Joins items a xs b → Joins items b ys c → Joins items a (xs ++ ys) c
Joins-append items [] ys a b c first then = rw first then
Joins-append items (x ∷ xs) ys a b c first then = (first.0, first.1, Joins-append items xs ys (item_at items x.0).to.0 b c first.2 then)

-- a list that joins up comes apart at some node
pub Joins-split : (items : List Item) (xs ys : List ItemId) (a c : ℕ) → Joins items a (xs ++ ys) c → (b : ℕ) × (Joins items a xs b × Joins items b ys c)
Joins-split items [] ys a c joined = (a, (refl, joined))
Joins-split items (x ∷ xs) ys a c joined =
    let rest = Joins-split items xs ys (item_at items x.0).to.0 c joined.2 in
    (rest.0, ((joined.0, joined.1, rest.1.0), rest.1.1))

-- a ring of items can be turned
pub Joins-turned : (items : List Item) (xs ys : List ItemId) (a : ℕ) → Joins items a (xs ++ ys) a → (b : ℕ) × Joins items b (ys ++ xs) b
Joins-turned items xs ys a joined =
    let parts = Joins-split items xs ys a a joined in
    (parts.0, Joins-append items ys xs parts.0 a parts.0 parts.1.1 parts.1.0)
