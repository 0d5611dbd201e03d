-- Values at two pins and an edge, and the greatest of those at the same.
use Rattle.std.specs.Prelude.{◌≡◌, ℕ, ◌+◌, ◌<◌, ◌≤◌, ◌==◌, ◌&&◌, ◌||◌, nat_lt, ℤ, pos, ◌≤ℤ◌, Bool, true, false, List, [], ◌∷◌, length, map, filter, All, AllPairs, Contains, slice_index_or}
use Rattle.std.specs.declared.cmp.Ordering.{Ordering}
use Rattle.std.specs.Bool.{beq}
use Rattle.std.specs.Ordering.{nat_cmp, int_cmp, bool_cmp, ordering_then}
use Rattle.bud_design.specs.Lists.{Lists, greatest}
use Rattle.bud_design.specs.Orders.{pins_before}
use Rattle.registers.specs.declared.tables.Valued.{Valued}

abbrev pub valued_at : List Valued → ℕ → Valued
valued_at xs i = slice_index_or xs i (record { first = record { 0 = 0 }; second = record { 0 = 0 }; falls = false; value = pos 0 })

-- in order of pins, edge and value
abbrev pub valued_cmp : Valued → Valued → Ordering
valued_cmp x y = ordering_then (nat_cmp x.first.0 y.first.0) (ordering_then (nat_cmp x.second.0 y.second.0) (ordering_then (bool_cmp x.falls y.falls) (int_cmp x.value y.value)))

abbrev pub same_place : Valued → Valued → Bool
same_place x y = x.first.0 == y.first.0 && (x.second.0 == y.second.0 && beq x.falls y.falls)

abbrev pub falls_before : Bool → Bool → Bool
falls_before false true = true
falls_before false false = false
falls_before true b = false

abbrev pub place_before : Valued → Valued → Bool
place_before x y = pins_before x.first.0 x.second.0 y.first.0 y.second.0 || (x.first.0 == y.first.0 && (x.second.0 == y.second.0 && falls_before x.falls y.falls))

-- the value is the greatest of those at the same pins and edge
pub record IsGreatest (xs : List Valued) (y : Valued) : Type 0 where
  pub stands : Contains xs y
  pub most : All (λ x. same_place x y ≡ true → x.value ≤ℤ y.value) xs

-- the greatest at each place
pub record AreGreatest (xs ys : List Valued) : Type 0 where
  pub few : length ys ≤ length xs
  pub rising : AllPairs (λ x y. place_before x y ≡ true) ys
  pub sound : All (IsGreatest xs) ys
  pub complete : (x : Valued) → Contains xs x → (y : Valued) × (Contains ys y × (same_place x y ≡ true))

-- the value at this place is the last at its pins and edge
abbrev pub IsLast : List Valued → ℕ → Type 0
IsLast xs i = i + 1 < length xs → same_place (valued_at xs i) (valued_at xs (i + 1)) ≡ false

pub record IsLastAt (xs : List Valued) (count : ℕ) (y : Valued) : Type 0 where
  pub place : ℕ
  pub before : place < count
  pub is : valued_at xs place ≡ y
  pub last : IsLast xs place

-- of the first so many values the last at each place are kept
pub record IsThinned (xs : List Valued) (count : ℕ) (ys : List Valued) : Type 0 where
  pub few : length ys ≤ count
  pub rising : AllPairs (λ x y. place_before x y ≡ true) ys
  pub sound : All (IsLastAt xs count) ys
  pub complete : (i : ℕ) → i < count → IsLast xs i → Contains ys (valued_at xs i)
