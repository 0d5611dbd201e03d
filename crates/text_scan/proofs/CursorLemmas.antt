-- What is answered at a place, from what is answered of the text behind it.
use Rattle.std.proofs.Common.{◌≡◌, ℕ, ◌+◌, ℤ, List, drop, Ok, Err, refl, ap}
use Rattle.text_scan.specs.Cursors.{Place, IsDecimalAnswer}
use Rattle.text_scan.specs.Scans.{IsFrontAnswer}
use Rattle.text_scan.specs.declared.decimals.Round.{Round}
use Rattle.text_scan.specs.declared.decimals.ScanFault.{ScanFault}
use Rattle.text_scan.specs.declared.decimals.ScanFault.TheVariants.{NotNumber, OutOfRange}

pub refused_there : (place : Place) (text rest : List ℕ) (at unit : ℕ) (round : Round) (fault : ScanFault) → place ≡ record { text = text; at = at } → rest ≡ drop at text →
    IsFrontAnswer rest unit round (Err fault) → IsDecimalAnswer place place unit round (Err fault)
refused_there place text rest at unit round NotNumber is rest_is given = rw (is, ← rest_is) (given, refl)
refused_there place text rest at unit round OutOfRange is rest_is given = rw (is, ← rest_is) (given, refl)

pub found_there : (place : Place) (text rest : List ℕ) (at n unit : ℕ) (round : Round) (r value : ℤ) → place ≡ record { text = text; at = at } → rest ≡ drop at text → value ≡ r →
    IsFrontAnswer rest unit round (Ok (r, n)) → IsDecimalAnswer place (record { text = text; at = at + n }) unit round (Ok value)
found_there place text rest at n unit round r value is rest_is value_is given =
    rw (is, ← rest_is, value_is) (given.0, (given.1.0, given.1.1, given.1.2, ap (λ k. record { text = text; at = at + k }) given.1.3))
