-- A search before its first root and after its last.
use Rattle.std.proofs.Common.{◌≡◌, ℕ, suc, ◌<◌, cond, List, [], ◌∷◌, length, refl, sym, ◌∙◌, ap, subst, arith, count_by}
use Rattle.std.proofs.lemmas.List.Sums.{sum_by-cons}
use Rattle.bud_base.specs.Paths.{item_at}
use Rattle.bud_base.specs.Orders.{IsOrder}
use Rattle.bud_base.specs.Searches.{mark_at, AreNew, IsPlaced, place_of, is_new, IsArranged}
use Rattle.bud_base.specs.declared.ids.NodeId.{NodeId}
use Rattle.bud_base.specs.declared.problems.Item.{Item}
use Rattle.bud_base.specs.declared.orders.Mark.{Mark}
use Rattle.bud_base.specs.declared.orders.Mark.TheVariants.{New, Open, Placed}

count_new_all : (marks : List Mark) → AreNew marks → count_by is_new marks ≡ length marks
count_new_all [] new = refl
count_new_all (mark ∷ marks) new =
    let one : cond {A = ℕ} (is_new mark) 1 0 ≡ 1 = ap (λ m. cond {A = ℕ} (is_new m) 1 0) (new 0) in
    omega (arith, sum_by-cons (λ m. cond {A = ℕ} (is_new m) 1 0) mark marks, one, count_new_all marks (λ n. new (suc n)))

is_not_new : (mark : Mark) → (mark ≡ New → ⊥) → cond {A = ℕ} (is_new mark) 1 0 ≡ 0
is_not_new New other = absurd (other refl)
is_not_new (Open k) other = refl
is_not_new (Placed k) other = refl

count_new_none : (marks : List Mark) → ((n : ℕ) → n < length marks → mark_at marks n ≡ New → ⊥) → count_by is_new marks ≡ 0
count_new_none [] none = refl
count_new_none (mark ∷ marks) none =
    omega (arith, sum_by-cons (λ m. cond {A = ℕ} (is_new m) 1 0) mark marks, is_not_new mark (none 0 (omega arith)), count_new_none marks (λ n below. none (suc n) (omega arith)))

-- where every node is new the whole order is free
pub IsArranged-new : (items : List Item) (marks : List Mark) (order : List NodeId) → AreNew marks → IsArranged items marks order (length marks)
IsArranged-new items marks order new =
    let none : (n : ℕ) → IsPlaced (mark_at marks n) → ⊥ = λ n placed. subst IsPlaced (new n) placed in
    record {
      placed = record {
        low = λ n placed. absurd (none n placed);
        high = λ n placed. absurd (none n placed);
        here = λ n placed. absurd (none n placed);
        within = λ k above below. absurd (omega arith);
        stands = λ k above below. absurd (omega arith);
        heads = λ i inside placed. absurd (none _ placed);
        follows = λ i inside placed. absurd (none _ placed);
      };
      settled = λ n k opened. (let contrary : New ≡ Open k = sym (new n) ∙ opened in cc);
      count = sym (count_new_all marks new);
    }

IsPlaced-rest : (mark : Mark) → (mark ≡ New → ⊥) → ((k : ℕ) → mark ≡ Open k → ⊥) → IsPlaced mark
IsPlaced-rest New other closed = other refl
IsPlaced-rest (Open k) other closed = closed k refl
IsPlaced-rest (Placed k) other closed = tt

-- where no node is new the places are an order
pub IsOrder-from_arranged : (items : List Item) (marks : List Mark) (order : List NodeId) (free : ℕ) → length order ≡ length marks
    → ((i : ℕ) → i < length items → (item_at items i).from.0 < length marks) → ((n : ℕ) → n < length marks → mark_at marks n ≡ New → ⊥)
    → IsArranged items marks order free → IsOrder (length order) items order
IsOrder-from_arranged items marks order free size within none arranged =
    let placed : (n : ℕ) → n < length marks → IsPlaced (mark_at marks n) = λ n below. IsPlaced-rest (mark_at marks n) (none n below) (arranged.settled n) in
    let low : free ≡ 0 = arranged.count ∙ count_new_none marks none in
    record {
      place = λ n. place_of (mark_at marks n);
      size = refl;
      within = λ k below. rw size (arranged.placed.within k (omega arith) (omega arith));
      at_place = λ k below. ap place_of (arranged.placed.stands k (omega arith) (omega arith));
      placed = λ n below. rw size (arranged.placed.high n (placed n (omega arith)));
      stands = λ n below. arranged.placed.here n (placed n (omega arith));
      follows = λ i inside. arranged.placed.follows i inside (placed _ (within i inside));
    }
