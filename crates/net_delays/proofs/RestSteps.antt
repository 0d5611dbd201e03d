-- One wire or delay more, by the sums over the trees of wires.
use Rattle.std.proofs.Common.{◌≡◌, ℕ, ◌+◌, ◌<◌, ◌≤◌, Bool, true, false, cond, ltb, List, length, get_or, set, Option, Some, None, ℤ, ◌-ℤ◌, pos, int_lt, arith, refl, sym, ap, subst, ◌∙◌, inl, inr, get_or-set_same, get_or-set_other}
use Rattle.std.proofs.lemmas.Bool.{cases_eq, cases_lt, lt-ltb, le-ltb}
use Rattle.bud_base.specs.declared.ids.PinId.{PinId}
use Rattle.bud_design.specs.declared.designs.Wire.{Wire}
use Rattle.net_delays.specs.Alongs.{along_at, sum_of}
use Rattle.net_delays.specs.Rests.{step_of, wire_at, is_negative, IsNegativeAt, IsLeastNegative, lesser_pin}
use Rattle.net_delays.specs.declared.alongs.Along.{Along}

pub negative_same : (x y : ℤ) → x ≡ y → int_lt x (pos 0) ≡ int_lt y (pos 0)
negative_same x y is = ap (λ z. int_lt z (pos 0)) is

pub steps_more : (sums : ℕ → ℤ) (wires : List Wire) (delays : List ℤ) (place : ℕ) (z : ℤ) → place < length delays → z ≡ step_of sums (wire_at wires place)
    → ((k : ℕ) → k < place → sum_of delays k ≡ step_of sums (wire_at wires k)) → (k : ℕ) → k < place + 1 → sum_of (set delays place z) k ≡ step_of sums (wire_at wires k)
steps_more sums wires delays place z within is so_far k below = elim (cases_eq k place) [
  | inl same ↦ rw (same, get_or-set_same delays place z (pos 0) within) is
  | inr differs ↦ rw (get_or-set_other delays place k z (pos 0) differs) (so_far k (omega (arith, below)))
]

module _ (drive : ℕ → Option ℕ) (sums : ℕ → ℤ) (alongs : List Along) (count : ℕ) where
  pub IsLeastNegative-skip : (o : Option PinId) → is_negative drive sums (along_at alongs count) ≡ false → IsLeastNegative drive sums alongs count o → IsLeastNegative drive sums alongs (count + 1) o
  IsLeastNegative-skip None here so_far = λ k below. elim (cases_eq k count) [
    | inl same ↦ rw same here
    | inr differs ↦ so_far k (omega (arith, below))
  ]
  IsLeastNegative-skip (Some v) here so_far = (
    record { place = so_far.0.place; before = omega (arith, so_far.0.before); ends = so_far.0.ends; negative = so_far.0.negative },
    λ k below less. elim (cases_eq k count) [
      | inl same ↦ rw same here
      | inr differs ↦ so_far.1 k (omega (arith, below)) less
    ],
  )

  found : is_negative drive sums (along_at alongs count) ≡ true → IsNegativeAt drive sums alongs (count + 1) (along_at alongs count).to.0
  found here = record { place = count; before = omega arith; ends = refl; negative = here }

  less-by : (u : PinId) → is_negative drive sums (along_at alongs count) ≡ true → IsLeastNegative drive sums alongs count (Some u) → (u.0 < (along_at alongs count).to.0)
      → IsLeastNegative drive sums alongs (count + 1) (Some u)
  less-by u here so_far less = (
    record { place = so_far.0.place; before = omega (arith, so_far.0.before); ends = so_far.0.ends; negative = so_far.0.negative },
    λ k below lesser. elim (cases_eq k count) [
      | inl same ↦ absurd (let last : (along_at alongs k).to.0 ≡ (along_at alongs count).to.0 = ap (λ j. (along_at alongs j).to.0) same in omega (arith, last, lesser, less))
      | inr differs ↦ so_far.1 k (omega (arith, below)) lesser
    ],
  )

  more-by : (u : PinId) → is_negative drive sums (along_at alongs count) ≡ true → IsLeastNegative drive sums alongs count (Some u) → (along_at alongs count).to.0 ≤ u.0
      → IsLeastNegative drive sums alongs (count + 1) (Some (along_at alongs count).to)
  more-by u here so_far most = (
    found here,
    λ k below lesser. elim (cases_eq k count) [
      | inl same ↦ absurd (let last : (along_at alongs k).to.0 ≡ (along_at alongs count).to.0 = ap (λ j. (along_at alongs j).to.0) same in omega (arith, last, lesser))
      | inr differs ↦ so_far.1 k (omega (arith, below)) (omega (arith, lesser, most))
    ],
  )

  pub IsLeastNegative-more : (o : Option PinId) (v : PinId) → v ≡ lesser_pin o (along_at alongs count).to → is_negative drive sums (along_at alongs count) ≡ true → IsLeastNegative drive sums alongs count o
      → IsLeastNegative drive sums alongs (count + 1) (Some v)
  IsLeastNegative-more None v is here so_far =
      rw is (
        found here,
        λ k below lesser. elim (cases_eq k count) [
          | inl same ↦ absurd (let last : (along_at alongs k).to.0 ≡ (along_at alongs count).to.0 = ap (λ j. (along_at alongs j).to.0) same in omega (arith, last, lesser))
          | inr differs ↦ so_far k (omega (arith, below))
        ],
      )
  IsLeastNegative-more (Some u) v is here so_far = elim (cases_lt u.0 (along_at alongs count).to.0) [
    | inl less ↦ rw (is, lt-ltb u.0 (along_at alongs count).to.0 less) (less-by u here so_far less)
    | inr most ↦ rw (is, le-ltb u.0 (along_at alongs count).to.0 most) (more-by u here so_far most)
  ]
