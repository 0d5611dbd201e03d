use Rattle.std.proofs.Common.{length, ap, ◌∙◌, arith}
use Rattle.std.proofs.lemmas.List.{length-append}
use Rattle.text_scan.specs.Digits.{behind}
use Rattle.text_scan.specs.Decimals.{spelling}
use Rattle.text_scan.specs.Scans.{scanned, behind_point, behind_sign}
use Rattle.text_scan.proofs.ScanLemmas.{scanned_spelled, all_front, all_point}
use Rattle.text_scan.proofs.scans.scan.Goals as goal

pub overflow_sub-length : goal.overflow_sub-length
overflow_sub-length c =
    let rest = ap length (c.split_point.ensures.behind ∙ ap behind_point (c.split_digits.ensures.behind ∙ ap behind c.split_sign-negative.ensures.behind)) in
    let whole = ap length (scanned_spelled c.args.text.now) ∙ length-append (spelling (scanned c.args.text.now)) (behind_point (behind (behind_sign c.args.text.now))) in
    omega arith

pub returns-clause-length : goal.returns-clause-length
returns-clause-length c =
    let rest = ap length (c.split_point.ensures.behind ∙ ap behind_point (c.split_digits.ensures.behind ∙ ap behind c.split_sign-negative.ensures.behind)) in
    let whole = ap length (scanned_spelled c.args.text.now) ∙ length-append (spelling (scanned c.args.text.now)) (behind_point (behind (behind_sign c.args.text.now))) in
    omega arith

pub returns-clause-whole_digits : goal.returns-clause-whole_digits
returns-clause-whole_digits c = rw c.split_digits.ensures.front (all_front c.split_sign-negative.result.1.now)

pub returns-clause-fraction_digits : goal.returns-clause-fraction_digits
returns-clause-fraction_digits c = rw c.split_point.ensures.fraction (all_point c.split_digits.result.1.now)
