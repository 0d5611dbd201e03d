-- Constraints at setup amounts in hand beside those at the amounts as read: the same but for amounts, and outside blocks the same.
use Rattle.std.specs.Prelude.{◌≡◌, ℕ, ◌<◌, ℤ, ◌-ℤ◌, List, length, filter_map, Contains, Option, Some}
use Rattle.std.proofs.Common.{refl, sym, ◌∙◌, subst, arith, inl, inr}
use Rattle.std.proofs.lemmas.Int.{ints}
use Rattle.std.proofs.lemmas.List.Elements.{All-contains}
use Rattle.bud_base.specs.declared.ids.PinId.{PinId}
use Rattle.bud_design.specs.declared.clocks.Capture.{Capture}
use Rattle.bud_design.specs.declared.clocks.Constraints.{Constraints}
use Rattle.bud_design.specs.declared.timings.Timing.{Timing}
use Rattle.bud_design.specs.Designs.{Design}
use Rattle.bud_design.specs.Exceptions.{class_requirement}
use Rattle.bud_design.specs.Lists.{Lists}
use Rattle.bud_design.specs.Orders.{capture_before}
use Rattle.bud_design.specs.TimingPaths.{asked, least_asked}
use Rattle.bud_flow.specs.Sums.{number_at}
use Rattle.requirements.specs.Constraining.{IsCapture}
use Rattle.requirements.proofs.Members.{filter_map-from, filter_map-has}
use Rattle.timing_objects.specs.Objects.{Subject}
use Rattle.timing_scopes.specs.declared.scopes.Scope.{Scope}
use Rattle.block_theory.specs.Composition.{IsOutside, AmountsKept, check_at}
use Rattle.block_theory.specs.Meeting.{Numbers, subject_with}
use Rattle.block_laws.specs.Meeting.{AskAlike}
use Rattle.block_laws.proofs.CheckAmounts.{HeldCheck-from, ReadCheck-from}
use Rattle.block_laws.proofs.Leasts.{IsAsked-from, asked-has, HasAsking-from, HasAsking-asks, least-by_members}

module _ (d : Design) (t : Timing) (n : Numbers) (size : length n.amounts ≡ length t.checks) (blocks : List ℕ) (kept : AmountsKept d t blocks n) (scope : Scope) where
  abbrev read : Subject
  read = record { design = d; root = 0; timing = t }

  abbrev held : Subject
  held = subject_with d 0 t n

  -- a capture at the same pin, clock and edge, and outside blocks of the same amount
  record Partner (xs : List Capture) (x : Capture) : Type 0 where
    pub amount : ℤ
    pub member : Contains xs (record { pin = x.pin; clock = x.clock; edge = x.edge; amount = amount })
    pub same : IsOutside d blocks x.pin.0 → amount ≡ x.amount

  -- the amount of a check outside blocks is kept
  amount-kept : (k : ℕ) → k < length t.checks → (pin : PinId) → (check_at t.checks k).pin ≡ pin → IsOutside d blocks pin.0 → number_at n.amounts k ≡ (check_at t.checks k).amount
  amount-kept k below pin same outside = kept k below (subst (λ (p : PinId). IsOutside d blocks p.0) (sym same) outside)

  module _ (reads holds : List Capture) (are_read : Lists capture_before (IsCapture read scope) reads) (are_held : Lists capture_before (IsCapture held scope) holds) where
    partner-held : (x : Capture) → Contains reads x → Partner holds x
    partner-held x has = by_kind (All-contains (IsCapture read scope) reads x are_read.sound has)
      where
        by_kind : IsCapture read scope x → Partner holds x
        by_kind (inl port) = record { amount = x.amount; member = are_held.complete x (inl port); same = λ outside. refl }
        by_kind (inr check) =
            let found = ReadCheck-from t.checks n.amounts (record { pin = x.pin; clock = check.clock_pin; edge = x.edge; amount = x.amount }) size check.check in
            record {
              amount = number_at n.amounts found.has.number;
              member = are_held.complete (record { pin = x.pin; clock = x.clock; edge = x.edge; amount = number_at n.amounts found.has.number })
                  (inr (record { within = check.within; clock_pin = check.clock_pin; check = found.has.held; reached = check.reached }));
              same = λ outside. amount-kept found.has.number found.has.below x.pin found.has.pin_is outside ∙ found.amount;
            }

    partner-read : (x : Capture) → Contains holds x → Partner reads x
    partner-read x has = by_kind (All-contains (IsCapture held scope) holds x are_held.sound has)
      where
        by_kind : IsCapture held scope x → Partner reads x
        by_kind (inl port) = record { amount = x.amount; member = are_read.complete x (inl port); same = λ outside. refl }
        by_kind (inr check) =
            let found = HeldCheck-from t.checks n.amounts (record { pin = x.pin; clock = check.clock_pin; edge = x.edge; amount = x.amount }) size check.check in
            record {
              amount = (check_at t.checks found.has.number).amount;
              member = are_read.complete (record { pin = x.pin; clock = x.clock; edge = x.edge; amount = (check_at t.checks found.has.number).amount })
                  (inr (record { within = check.within; clock_pin = check.clock_pin; check = found.has.read; reached = check.reached }));
              same = λ outside. sym (amount-kept found.has.number found.has.below x.pin found.has.pin_is outside) ∙ found.amount;
            }

  -- ---- what is asked by a requirement that looks at no amount
  module _ (f : Capture → Option ℤ) (free : (x : Capture) (a : ℤ) → f (record { pin = x.pin; clock = x.clock; edge = x.edge; amount = a }) ≡ f x)
      (xs ys : List Capture) (partner : (x : Capture) → Contains xs x → Partner ys x) where
    asks-there : (v : ℕ) (r : ℤ) → least_asked xs v f ≡ Some r → (s : ℤ) × (least_asked ys v f ≡ Some s)
    asks-there v r is =
        let has = HasAsking-from xs v f r is in
        let x = has.capture in
        let there = partner x has.member in
        HasAsking-asks ys v f (record {
          capture = record { pin = x.pin; clock = x.clock; edge = x.edge; amount = there.amount };
          member = there.member;
          asks = has.asked.required -ℤ there.amount;
          asked = record { pin = has.asked.pin; required = has.asked.required; requires = free x there.amount ∙ has.asked.requires; is = refl };
        })

    asked-there : (v : ℕ) → IsOutside d blocks v → (z : ℤ) → Contains (filter_map (asked v f) xs) z → Contains (filter_map (asked v f) ys) z
    asked-there v outside z has =
        let found = filter_map-from (asked v f) xs z has in
        let x = found.from in
        let is = IsAsked-from v f x z found.gives in
        let there = partner x found.member in
        let same = there.same (subst (IsOutside d blocks) (sym is.pin) outside) in
        let y : Capture = record { pin = x.pin; clock = x.clock; edge = x.edge; amount = there.amount } in
        filter_map-has (asked v f) ys y z there.member
        (asked-has v f y z (record { pin = is.pin; required = is.required; requires = free x there.amount ∙ is.requires; is = omega (arith, ints, is.is, same) }))

  pub AskAlike-amounts : (all : Constraints) (captures : List Capture) → Lists capture_before (IsCapture read scope) all.captures → Lists capture_before (IsCapture held scope) captures
      → AskAlike d all captures blocks
  AskAlike-amounts all captures are_read are_held = record {
    to_read = λ v k r is. asks-there (class_requirement all k) (λ x a. refl) captures all.captures (partner-read all.captures captures are_read are_held) v r is;
    from_read = λ v k s is. asks-there (class_requirement all k) (λ x a. refl) all.captures captures (partner-held all.captures captures are_read are_held) v s is;
    outside = λ v k outside. least-by_members (filter_map (asked v (class_requirement all k)) captures) (filter_map (asked v (class_requirement all k)) all.captures)
        (asked-there (class_requirement all k) (λ x a. refl) captures all.captures (partner-read all.captures captures are_read are_held) v outside)
        (asked-there (class_requirement all k) (λ x a. refl) all.captures captures (partner-held all.captures captures are_read are_held) v outside);
  }
