-- An item's weight times its budget is what its flow is worth, and flow times what the potentials gain along it.
use Rattle.std.proofs.Common.{◌≡◌, ℤ, pos, ◌+ℤ◌, ◌-ℤ◌, ◌*ℤ◌, ◌≤ℤ◌, ◌<ℤ◌, ◌⊎◌, arith, refl, ap, sym, ◌∙◌, cond, Bool, true, false, inl, inr}
use Rattle.std.specs.Prelude.{int_lt}
use Rattle.std.proofs.lemmas.Int.{ints, by_lt_z}
use Rattle.std.proofs.Math.IntN.{*ℤ-zero, *ℤ_comm}
use Rattle.bud_base.specs.declared.problems.Item.{Item}
use Rattle.bud_flow.specs.Flows.{item_value}
use Rattle.bud_flow.proofs.Ints.{sub-mul}

-- the lesser of two numbers
pub lesser-first : (d g : ℤ) → d ≤ℤ g → cond (int_lt d g) d g ≡ d
lesser-first d g below = by_test (int_lt d g) refl
  where
    by_test : (b : Bool) → int_lt d g ≡ b → cond b d g ≡ d
    by_test true e = refl
    by_test false e = grind (arith, ints)

pub lesser-second : (d g : ℤ) → g ≤ℤ d → cond (int_lt d g) d g ≡ g
lesser-second d g above = by_test (int_lt d g) refl
  where
    by_test : (b : Bool) → int_lt d g ≡ b → cond b d g ≡ g
    by_test true e = absurd (grind (arith, ints))
    by_test false e = refl

-- a product with a factor that is 0, or with one that may be replaced
pub times_same : (a u v : ℤ) → (a ≡ pos 0) ⊎ (u ≡ v) → a *ℤ u ≡ a *ℤ v
times_same a u v (inl none) = rw none (*ℤ_comm (pos 0) u ∙ *ℤ-zero u ∙ sym (*ℤ_comm (pos 0) v ∙ *ℤ-zero v))
times_same a u v (inr same) = ap (λ z. a *ℤ z) same

item_value-less : (x : Item) (f : ℤ) → f <ℤ pos x.weight → item_value x f ≡ (pos x.weight -ℤ f) *ℤ x.greatest
item_value-less x f less = by_test (int_lt f (pos x.weight)) refl
  where
    by_test : (b : Bool) → int_lt f (pos x.weight) ≡ b → cond b ((pos x.weight -ℤ f) *ℤ x.greatest) (pos 0 -ℤ (f -ℤ pos x.weight) *ℤ x.least) ≡ (pos x.weight -ℤ f) *ℤ x.greatest
    by_test true e = refl
    by_test false e = absurd (grind (arith, ints))

item_value-more : (x : Item) (f : ℤ) → pos x.weight ≤ℤ f → item_value x f ≡ pos 0 -ℤ (f -ℤ pos x.weight) *ℤ x.least
item_value-more x f more = by_test (int_lt f (pos x.weight)) refl
  where
    by_test : (b : Bool) → int_lt f (pos x.weight) ≡ b → cond b ((pos x.weight -ℤ f) *ℤ x.greatest) (pos 0 -ℤ (f -ℤ pos x.weight) *ℤ x.least) ≡ pos 0 -ℤ (f -ℤ pos x.weight) *ℤ x.least
    by_test true e = absurd (grind (arith, ints))
    by_test false e = refl

-- What the law says of the flow on an item's limited arc and on its arc without limit, where potentials gain d along it:
-- the limited arc is full if they gain less than the greatest and empty if more, and the other is empty if they gain more than the least.
pub record IsSlack (x : Item) (limited without d : ℤ) : Type 0 where
  pub between : x.least ≤ℤ x.greatest
  pub least : x.least ≤ℤ d
  pub limited_least : pos 0 ≤ℤ limited
  pub limited_most : limited ≤ℤ pos x.weight
  pub without_least : pos 0 ≤ℤ without
  pub room : limited <ℤ pos x.weight → x.greatest ≤ℤ d
  pub limited_flow : pos 0 <ℤ limited → d ≤ℤ x.greatest
  pub without_flow : pos 0 <ℤ without → d ≤ℤ x.least

-- the item carries less than its weight
worth-less : (x : Item) (limited without d : ℤ) → IsSlack x limited without d → (limited +ℤ without) <ℤ pos x.weight
    → pos x.weight *ℤ cond (int_lt d x.greatest) d x.greatest ≡ item_value x (limited +ℤ without) +ℤ (limited +ℤ without) *ℤ d
worth-less x limited without d slack less =
    let above : x.greatest ≤ℤ d = slack.room (omega (arith, ints, slack.without_least, less)) in
    let which : (limited +ℤ without ≡ pos 0) ⊎ (d ≡ x.greatest)
    = by_lt_z (pos 0) limited (λ some. inr (omega (arith, ints, slack.limited_flow some, above))) (λ none_limited.
    by_lt_z (pos 0) without (λ some. inr (omega (arith, ints, slack.without_flow some, slack.between, above))) (λ none. inl (omega (arith, ints, none_limited, none, slack.limited_least, slack.without_least)))) in
    rw (lesser-second d x.greatest above, item_value-less x (limited +ℤ without) less, times_same (limited +ℤ without) d x.greatest which, sub-mul (pos x.weight) (limited +ℤ without) x.greatest)
    (omega (arith, ints))

-- the item carries at least its weight
worth-more : (x : Item) (limited without d : ℤ) → IsSlack x limited without d → pos x.weight ≤ℤ (limited +ℤ without)
    → pos x.weight *ℤ cond (int_lt d x.greatest) d x.greatest ≡ item_value x (limited +ℤ without) +ℤ (limited +ℤ without) *ℤ d
worth-more x limited without d slack more =
    let by_flow : (pos 0 <ℤ (limited +ℤ without)) → d ≤ℤ x.greatest
    = λ flow. by_lt_z (pos 0) limited (λ some. slack.limited_flow some) (λ none. omega (arith, ints, slack.between, slack.without_flow (omega (arith, ints, none, flow)))) in
    let which : (pos x.weight ≡ pos 0) ⊎ (cond (int_lt d x.greatest) d x.greatest ≡ d)
    = by_lt_z (pos 0) (pos x.weight) (λ some. inr (lesser-first d x.greatest (by_flow (omega (arith, ints, some, more))))) (λ none. inl (omega (arith, ints, none))) in
    let above : (limited +ℤ without -ℤ pos x.weight ≡ pos 0) ⊎ (x.least ≡ d)
    = by_lt_z (pos x.weight) (limited +ℤ without) (λ past. inr (omega (arith, ints, slack.least, slack.without_flow (omega (arith, ints, past, slack.limited_most))))) (λ full. inl (omega (arith, ints, full, more))) in
    rw (times_same (pos x.weight) (cond (int_lt d x.greatest) d x.greatest) d which, item_value-more x (limited +ℤ without) more, times_same (limited +ℤ without -ℤ pos x.weight) x.least d above, sub-mul (limited +ℤ without) (pos x.weight) d)
    (omega (arith, ints))

pub worth-slack : (x : Item) (limited without d : ℤ) → IsSlack x limited without d
    → pos x.weight *ℤ cond (int_lt d x.greatest) d x.greatest ≡ item_value x (limited +ℤ without) +ℤ (limited +ℤ without) *ℤ d
worth-slack x limited without d slack =
    by_lt_z (limited +ℤ without) (pos x.weight) (λ less. worth-less x limited without d slack less) (λ more. worth-more x limited without d slack more)
