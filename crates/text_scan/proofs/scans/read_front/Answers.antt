use Rattle.std.proofs.Common.{◌≡◌, arith, refl, rules, w64}
use Rattle.std.proofs.lemmas.Int.{to_z-of_z}
use Rattle.text_scan.specs.Decimals.{signed}
use Rattle.text_scan.specs.Scans.{scanned}
use Rattle.text_scan.proofs.ScanLemmas.{scanned_none, scanned_found}
use Rattle.text_scan.proofs.AmountLemmas.{comes_to, small_signed, large_signed}
use Rattle.text_scan.proofs.scans.read_front.Goals as goal

pub returns-then-number-eq0-clause-answer : goal.returns-then-number-eq0-clause-answer
returns-then-number-eq0-clause-answer c =
    scanned_none c.args.text.now _ _ c.scan-number.ensures.whole c.scan-number.ensures.fraction c.if-number-eq0.true

pub returns-then-amount-gt-LIMIT-clause-answer : goal.returns-then-amount-gt-LIMIT-clause-answer
returns-then-amount-gt-LIMIT-clause-answer c =
    let scan = c.scan-number.ensures in
    let amount = c.amount_of-amount.ensures in (
      scanned c.args.text.now,
      (
        signed c.scan-number.result.negative amount.exact,
        (
          scanned_found c.args.text.now _ _ scan.whole scan.fraction c.if-number-eq0.false,
          comes_to c.args.unit c.args.round (scanned c.args.text.now) _ _ _ _ _ amount.exact scan.negative scan.whole scan.fraction c.is_away-away.ensures amount refl,
          large_signed _ amount.exact (omega (arith, amount.agrees, c.if-amount-gt-LIMIT.true)),
        ),
      ),
    )

pub returns-clause-answer : goal.returns-clause-answer
returns-clause-answer c =
    let scan = c.scan-number.ensures in
    let amount = c.amount_of-amount.ensures in
    let exact : amount.exact ≡ c.amount_of-amount.result = omega (arith, amount.agrees, c.if-amount-gt-LIMIT.false) in
    rw (to_z-of_z w64 c.with_sign.result (search rules), c.with_sign.ensures) (
      scanned c.args.text.now,
      (
        scanned_found c.args.text.now _ _ scan.whole scan.fraction c.if-number-eq0.false,
        comes_to c.args.unit c.args.round (scanned c.args.text.now) _ _ _ _ _ c.amount_of-amount.result scan.negative scan.whole scan.fraction c.is_away-away.ensures amount exact,
        small_signed _ c.amount_of-amount.result c.if-amount-gt-LIMIT.false,
        scan.length,
      ),
    )
