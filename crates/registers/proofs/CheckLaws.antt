-- Setup checks from the greatest of the entries for each edge.
use Rattle.std.specs.Prelude.{suc}
use Rattle.std.specs.List.{All, AllPairs, Contains, filter_map, flat_map, list_any, cons_option}
use Rattle.std.proofs.Common.{◌≡◌, ℕ, ◌+◌, ◌<◌, ◌≤◌, ◌⊎◌, ◌==◌, ◌&&◌, ◌||◌, not, Bool, true, false, cond, ℤ, ◌≤ℤ◌, List, [], ◌∷◌, ◌++◌, length, map, filter, get_or, Option, Some, None, refl, sym, ap, subst, ◌∙◌, inl, inr, arith, true≢false}
use Rattle.std.proofs.lemmas.Bool.{eqb-true, eq-eqb}
use Rattle.std.proofs.lemmas.Option.{same_Some, none-some}
use Rattle.std.proofs.lemmas.List.Elements.{All-contains, All-weaker, Contains-append_cases, Contains-append_left, Contains-append_right}
use Rattle.bud_base.specs.declared.ids.PinId.{PinId}
use Rattle.bud_syntax.specs.declared.edges.Edge.{Edge}
use Rattle.bud_syntax.specs.declared.edges.Edge.TheVariants.{Rise, Fall}
use Rattle.bud_design.specs.declared.timings.Check.{Check}
use Rattle.bud_design.specs.Designs.{Design}
use Rattle.bud_design.specs.Lists.{Lists, greatest}
use Rattle.bud_design.specs.Orders.{pins_before, edge_before, same_edge, check_before}
use Rattle.registers.specs.Registers.{has_edge, both_or, amounts, is_data_pin, is_clock_pin, IsCheck}
use Rattle.registers.specs.CheckLists.{is_fall, edge_of, setup_value, values_of_setup, check_by, check_of, marked_check, HasCheckRoom}
use Rattle.registers.specs.Marks.{mark_at, IsSetupWithin}
use Rattle.registers.specs.RegisterMarks.{AreMarks}
use Rattle.registers.specs.Tables.{same_place, falls_before, place_before, IsGreatest, AreGreatest}
use Rattle.registers.specs.declared.entries.Through.{Through}
use Rattle.registers.specs.declared.entries.Setup.{Setup}
use Rattle.registers.specs.declared.register_marks.RegisterMarks.{RegisterMarks}
use Rattle.registers.specs.declared.tables.Valued.{Valued}
use Rattle.registers.proofs.Greatest.{HasOne, HasMost, greatest_from, greatest_one}
use Rattle.registers.proofs.Filtering.{contains_cases, contains_nil, contains_first, contains_later, filter_map-All, filter_map-Contains, filter_map-AllPairs}
use Rattle.registers.proofs.Sorting.{IsSame, same_is, is_same, fall_number}

-- the checks at a pin by a clock pin that count for an edge
abbrev pub asks : ℕ → ℕ → Edge → Setup → Bool
asks v c edge s = s.pin.0 == v && (s.clock.0 == c && has_edge edge (both_or s.edge))

abbrev pub setup_time : Setup → ℤ
setup_time s = s.value

both : (a b : Bool) → a && b ≡ true → (a ≡ true) × (b ≡ true)
both true b holds = (refl, holds)
both false b holds = absurd (true≢false (sym holds))

either : (a b : Bool) → a || b ≡ true → (a ≡ true) ⊎ (b ≡ true)
either true b holds = inl refl
either false b holds = inr holds

or-later : (a b : Bool) → b ≡ true → a || b ≡ true
or-later true b holds = refl
or-later false b holds = holds

same_edge-itself : (e : Edge) → same_edge e e ≡ true
same_edge-itself Rise = refl
same_edge-itself Fall = refl

same_edge-is : (e f : Edge) → same_edge e f ≡ true → e ≡ f
same_edge-is Rise Rise holds = refl
same_edge-is Rise Fall holds = absurd (true≢false (sym holds))
same_edge-is Fall Rise holds = absurd (true≢false (sym holds))
same_edge-is Fall Fall holds = refl

edge_of-fall : (e : Edge) → edge_of (is_fall e) ≡ e
edge_of-fall Rise = refl
edge_of-fall Fall = refl

is_fall-edge : (b : Bool) → is_fall (edge_of b) ≡ b
is_fall-edge true = refl
is_fall-edge false = refl

fall_of-number : (a b : Bool) → fall_number a ≡ fall_number b → a ≡ b
fall_of-number true true is = refl
fall_of-number true false is = absurd (omega (arith, is))
fall_of-number false true is = absurd (omega (arith, is))
fall_of-number false false is = refl

asks_is : (v c : ℕ) (edge : Edge) (s : Setup) → asks v c edge s ≡ true → (s.pin.0 ≡ v) × ((s.clock.0 ≡ c) × (has_edge edge (both_or s.edge) ≡ true))
asks_is v c edge s holds =
    let first = both (s.pin.0 == v) (s.clock.0 == c && has_edge edge (both_or s.edge)) holds in
    let second = both (s.clock.0 == c) (has_edge edge (both_or s.edge)) first.1 in
    (eqb-true s.pin.0 v first.0, (eqb-true s.clock.0 c second.0, second.1))

is_asked : (v c : ℕ) (edge : Edge) (s : Setup) → s.pin.0 ≡ v → s.clock.0 ≡ c → has_edge edge (both_or s.edge) ≡ true → asks v c edge s ≡ true
is_asked v c edge s pin clock has = rw (eq-eqb s.pin.0 v pin, eq-eqb s.clock.0 c clock) has

-- a value of a check has its pins, one of its edges and its time
pub record IsValueOf (s : Setup) (edges : List Edge) (y : Valued) : Type 0 where
  pub first : s.pin.0 ≡ y.first.0
  pub second : s.clock.0 ≡ y.second.0
  pub has : has_edge (edge_of y.falls) edges ≡ true
  pub time : s.value ≡ y.value

value_of : (s : Setup) (edges : List Edge) (y : Valued) → Contains (map (setup_value s) edges) y → IsValueOf s edges y
value_of s [] y found = absurd (contains_nil y found)
value_of s (e ∷ es) y found = elim (contains_cases (setup_value s e) (map (setup_value s) es) y found) [
  | inl same ↦ record {
    first = ap (λ (v : Valued). v.first.0) same;
    second = ap (λ (v : Valued). v.second.0) same;
    has = (let edge : edge_of y.falls ≡ e = ap (λ (v : Valued). edge_of v.falls) (sym same) ∙ edge_of-fall e in rw (edge, same_edge-itself e) refl);
    time = ap (λ (v : Valued). v.value) same;
  }
  | inr later ↦ (let rest = value_of s es y later in record {
    first = rest.first;
    second = rest.second;
    has = or-later (same_edge (edge_of y.falls) e) (has_edge (edge_of y.falls) es) rest.has;
    time = rest.time;
  })
]

has_value : (s : Setup) (edge : Edge) (edges : List Edge) → has_edge edge edges ≡ true → Contains (map (setup_value s) edges) (setup_value s edge)
has_value s edge [] holds = absurd (true≢false (sym holds))
has_value s edge (e ∷ es) holds = elim (either (same_edge edge e) (has_edge edge es) holds) [
  | inl same ↦ subst (λ x. Contains (setup_value s e ∷ map (setup_value s) es) (setup_value s x)) (sym (same_edge-is edge e same)) (contains_first (setup_value s e) (map (setup_value s) es))
  | inr later ↦ contains_later (setup_value s e) (map (setup_value s) es) (setup_value s edge) (has_value s edge es later)
]

one_from : (ss : List Setup) (y : Valued) → Contains (flat_map values_of_setup ss) y → HasOne (asks y.first.0 y.second.0 (edge_of y.falls)) setup_time y.value ss
one_from [] y found = absurd (contains_nil y found)
one_from (s ∷ ss) y found = elim (Contains-append_cases (values_of_setup s) (flat_map values_of_setup ss) y found) [
  | inl here ↦ (let value = value_of s (both_or s.edge) y here in inl (is_asked y.first.0 y.second.0 (edge_of y.falls) s value.first value.second value.has, value.time))
  | inr later ↦ inr (one_from ss y later)
]

All-left : {X : Type 0} (P : X → Type 0) (xs ys : List X) → All P (xs ++ ys) → (x : X) → Contains xs x → P x
All-left P xs ys each x found = All-contains P (xs ++ ys) x each (Contains-append_left xs ys x found)

All-right : {X : Type 0} (P : X → Type 0) (xs ys : List X) → All P (xs ++ ys) → (x : X) → Contains ys x → P x
All-right P xs ys each x found = All-contains P (xs ++ ys) x each (Contains-append_right xs ys x found)

most_from : (ss : List Setup) (y : Valued) → ((x : Valued) → Contains (flat_map values_of_setup ss) x → same_place x y ≡ true → x.value ≤ℤ y.value)
    → HasMost (asks y.first.0 y.second.0 (edge_of y.falls)) setup_time y.value ss
most_from [] y most = tt
most_from (s ∷ ss) y most = (
  (λ holds.
      let asked = asks_is y.first.0 y.second.0 (edge_of y.falls) s holds in
      most (setup_value s (edge_of y.falls))
      (Contains-append_left (values_of_setup s) (flat_map values_of_setup ss) (setup_value s (edge_of y.falls)) (has_value s (edge_of y.falls) (both_or s.edge) asked.1.1))
      (is_same (setup_value s (edge_of y.falls)) y (record { first = asked.0; second = asked.1.0; falls = ap fall_number (is_fall-edge y.falls) }))),
  most_from ss y (λ x found same. most x (Contains-append_right (values_of_setup s) (flat_map values_of_setup ss) x found) same),
)

greatest_at : (ss : List Setup) (y : Valued) → IsGreatest (flat_map values_of_setup ss) y → greatest (amounts ss y.first.0 y.second.0 (edge_of y.falls)) ≡ Some y.value
greatest_at ss y great =
    greatest_from (asks y.first.0 y.second.0 (edge_of y.falls)) setup_time ss y.value (one_from ss y great.stands)
    (most_from ss y (λ x found. All-contains (λ z. same_place z y ≡ true → z.value ≤ℤ y.value) (flat_map values_of_setup ss) x great.most found))

found_at : (ss : List Setup) (v c : ℕ) (edge : Edge) (z : ℤ) → HasOne (asks v c edge) setup_time z ss
    → (x : Valued) × (Contains (flat_map values_of_setup ss) x × ((x.first.0 ≡ v) × ((x.second.0 ≡ c) × (x.falls ≡ is_fall edge))))
found_at [] v c edge z one = absurd one
found_at (s ∷ ss) v c edge z one = elim one [
  | inl here ↦
      let asked = asks_is v c edge s here.0 in
      (setup_value s edge, (Contains-append_left (values_of_setup s) (flat_map values_of_setup ss) (setup_value s edge) (has_value s edge (both_or s.edge) asked.1.1), (asked.0, (asked.1.0, refl))))
  | inr later ↦ (let found = found_at ss v c edge z later in (found.0, (Contains-append_right (values_of_setup s) (flat_map values_of_setup ss) found.0 found.1.0, found.1.1)))
]

listed_at : (ss : List Setup) (ys : List Valued) → AreGreatest (flat_map values_of_setup ss) ys → (v c : ℕ) (edge : Edge) (z : ℤ) → greatest (amounts ss v c edge) ≡ Some z
    → (y : Valued) × (Contains ys y × ((y.first.0 ≡ v) × ((y.second.0 ≡ c) × ((edge_of y.falls ≡ edge) × (y.value ≡ z)))))
listed_at ss ys are v c edge z some =
    let found = found_at ss v c edge z (greatest_one (asks v c edge) setup_time ss z some).0 in
    let kept = are.complete found.0 found.1.0 in
    let same = same_is found.0 kept.0 kept.1.1 in
    let first : kept.0.first.0 ≡ v = sym same.first ∙ found.1.1.0 in
    let second : kept.0.second.0 ≡ c = sym same.second ∙ found.1.1.1.0 in
    let third : edge_of kept.0.falls ≡ edge = ap edge_of (sym (fall_of-number found.0.falls kept.0.falls same.falls) ∙ found.1.1.1.1) ∙ edge_of-fall edge in
    let great : IsGreatest (flat_map values_of_setup ss) kept.0 = All-contains (IsGreatest (flat_map values_of_setup ss)) ys kept.0 are.sound kept.1.0 in
    let value : Some kept.0.value ≡ Some z =
    sym (greatest_at ss kept.0 great)
    ∙ (ap (λ n. greatest (amounts ss n kept.0.second.0 (edge_of kept.0.falls))) first
    ∙ (ap (λ n. greatest (amounts ss v n (edge_of kept.0.falls))) second ∙ (ap (λ e. greatest (amounts ss v c e)) third ∙ some))) in
    (kept.0, (kept.1.0, (first, (second, (third, same_Some kept.0.value z value)))))

check_by-some : (here : Bool) (e : Valued) (x : Check) → check_by here e ≡ Some x → (here ≡ true) × (record { pin = e.first; clock = e.second; edge = edge_of e.falls; amount = e.value } ≡ x)
check_by-some true e x is = (refl, same_Some (record { pin = e.first; clock = e.second; edge = edge_of e.falls; amount = e.value }) x is)
check_by-some false e x is = absurd (none-some x is)

edges_before : (a b : Bool) → falls_before a b ≡ edge_before (edge_of a) (edge_of b)
edges_before true true = refl
edges_before true false = refl
edges_before false true = refl
edges_before false false = refl

checks_before : (x y : Valued) → place_before x y ≡ true
    → pins_before x.first.0 x.second.0 y.first.0 y.second.0 || (x.first.0 == y.first.0 && (x.second.0 == y.second.0 && edge_before (edge_of x.falls) (edge_of y.falls))) ≡ true
checks_before x y before =
    subst (λ b. pins_before x.first.0 x.second.0 y.first.0 y.second.0 || (x.first.0 == y.first.0 && (x.second.0 == y.second.0 && b)) ≡ true) (edges_before x.falls y.falls) before

pub Lists-checks : (ss : List Setup) (ys : List Valued) → AreGreatest (flat_map values_of_setup ss) ys → Lists check_before (IsCheck ss) (filter_map (check_of ss) ys)
Lists-checks ss ys are = record {
  rising = filter_map-AllPairs (check_of ss) (λ x y. place_before x y ≡ true) (λ x y. check_before x y ≡ true) (λ x z y w before is other.
      let first = (check_by-some (is_data_pin ss x.first.0) x y is).1 in
      let second = (check_by-some (is_data_pin ss z.first.0) z w other).1 in
      subst (λ p. check_before p w ≡ true) first
      (subst (λ q. check_before (record { pin = x.first; clock = x.second; edge = edge_of x.falls; amount = x.value }) q ≡ true) second (checks_before x z before))) ys are.rising;
  sound = filter_map-All (check_of ss) (IsGreatest (flat_map values_of_setup ss)) (IsCheck ss) (λ e x great is.
      let made = check_by-some (is_data_pin ss e.first.0) e x is in
      subst (IsCheck ss) made.1 (record { data_pin = made.0; amount = greatest_at ss e great })) ys are.sound;
  complete = λ x such.
      let found = listed_at ss ys are x.pin.0 x.clock.0 x.edge x.amount such.amount in
      let pin : found.0.first ≡ x.pin = ap (λ n. record { 0 = n }) found.1.1.0 in
      let clock : found.0.second ≡ x.clock = ap (λ n. record { 0 = n }) found.1.1.1.0 in
      filter_map-Contains (check_of ss) ys found.0 x found.1.0
      (rw (pin, such.data_pin, clock, found.1.1.1.1.0, found.1.1.1.1.1) refl);
}

filter_map-same : {X Y : Type 0} (h g : X → Option Y) → ((x : X) → h x ≡ g x) → (xs : List X) → filter_map h xs ≡ filter_map g xs
filter_map-same h g same [] = refl
filter_map-same h g same (x ∷ xs) = ap (λ o. cons_option o (filter_map h xs)) (same x) ∙ ap (cons_option (g x)) (filter_map-same h g same xs)

within_at : (n : ℕ) (ss : List Setup) → All (IsSetupWithin n) ss → (y : Valued) → Contains (flat_map values_of_setup ss) y → y.first.0 < n
within_at n [] within y found = absurd (contains_nil y found)
within_at n (s ∷ ss) within y found = elim (Contains-append_cases (values_of_setup s) (flat_map values_of_setup ss) y found) [
  | inl here ↦ subst (λ v. v < n) (value_of s (both_or s.edge) y here).first (within 0 s (omega arith)).pin
  | inr later ↦ within_at n ss (λ k d below. within (suc k) d (omega (arith, below))) y later
]

module _ (d : Design) (ts : List Through) (ss : List Setup) (m : RegisterMarks) (marks : AreMarks d ts ss m) where
  marked_is : (e : Valued) → marked_check m e ≡ check_of ss e
  marked_is e =
      ap (λ b. check_by (b && not (mark_at m.clocks.items e.first.0)) e) (marks.checked e.first.0)
      ∙ ap (λ b. check_by (list_any (λ s. s.pin.0 == e.first.0) ss && not b) e) (marks.clocks e.first.0)

  pub check_rooms : All (IsSetupWithin (length d.pins)) ss → (ys : List Valued) → AreGreatest (flat_map values_of_setup ss) ys → All (HasCheckRoom m) ys
  check_rooms within ys are = All-weaker (IsGreatest (flat_map values_of_setup ss)) (HasCheckRoom m) (λ e great.
      let below = within_at (length d.pins) ss within e great.stands in
      record { checked = omega (arith, below, marks.checked_pins); clock = omega (arith, below, marks.clock_pins) }) ys are.sound

  pub Lists-marked : (ys : List Valued) (checks : List Check) → AreGreatest (flat_map values_of_setup ss) ys → checks ≡ filter_map (marked_check m) ys → Lists check_before (IsCheck ss) checks
  Lists-marked ys checks are is = rw (is ∙ filter_map-same (marked_check m) (check_of ss) marked_is ys) (Lists-checks ss ys are)
