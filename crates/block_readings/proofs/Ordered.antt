-- Any delays stand in one order, each once.
use Rattle.std.specs.Prelude.{◌≡◌, ℕ, zero, suc, ◌≤◌, Bool, true, false, List, [], length}
use Rattle.std.specs.List.{insert}
use Rattle.std.proofs.Common.{refl, subst, arith}
use Rattle.timing_scopes.specs.declared.scopes.PinDelay.{PinDelay}
use Rattle.requirements.specs.Ordering.{delay_at_place, goes_ahead, is_there, AreRising, IsPlace, IsPut, AreOrdered}
use Rattle.requirements.proofs.OrderLaws.{IsTrying, IsTrying-first, IsTrying-next, IsPlace-end, IsPut-new, IsPut-there, ArePut, ArePut-first, ArePut-more, AreOrdered-all}

module _ (all : List PinDelay) (y : PinDelay) where
  -- the place of a delay, looked for from the end
  place-from : (place : ℕ) → IsTrying all y place → (p : ℕ) × IsPlace all y p
  place-from zero trying = (0, IsPlace-end all y 0 refl trying)
  place-from (suc place) trying = by_test (goes_ahead all y (suc place)) refl (place-from place)
    where
      by_test : (b : Bool) → goes_ahead all y (suc place) ≡ b → (IsTrying all y place → (p : ℕ) × IsPlace all y p) → (p : ℕ) × IsPlace all y p
      by_test true goes onward = onward (subst (IsTrying all y) (omega arith) (IsTrying-next all y (suc place) goes trying))
      by_test false ends onward = (suc place, IsPlace-end all y (suc place) ends trying)

  put-one : AreRising all → (new : List PinDelay) × IsPut all y new
  put-one rising =
      (let place = place-from (length all) (IsTrying-first all y (length all) refl) in by_test place.0 place.1 (is_there all y place.0) refl)
    where
      by_test : (p : ℕ) → IsPlace all y p → (b : Bool) → is_there all y p ≡ b → (new : List PinDelay) × IsPut all y new
      by_test p stands true there = (all, IsPut-there all y p rising stands all refl there)
      by_test p stands false absent = (insert all p y, IsPut-new all y p rising stands (insert all p y) refl absent)

first-put : (delays : List PinDelay) (count : ℕ) → count ≤ length delays → (all : List PinDelay) × ArePut delays count all
first-put delays zero within = ([], ArePut-first delays [] refl)
first-put delays (suc k) within =
    let before = first-put delays k (omega (arith, within)) in
    let put = put-one before.0 (delay_at_place delays k) before.1.rising in
    (put.0, subst (λ m. ArePut delays m put.0) (omega arith) (ArePut-more delays k before.0 put.0 (delay_at_place delays k) (omega (arith, within)) refl put.1 before.1))

pub ordered : (delays : List PinDelay) → (all : List PinDelay) × AreOrdered delays all
ordered delays =
    let put = first-put delays (length delays) (omega arith) in
    (put.0, AreOrdered-all delays put.0 (length delays) (omega arith) put.1)
