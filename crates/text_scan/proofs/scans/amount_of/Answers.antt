use Rattle.std.proofs.Common.{◌∙◌}
use Rattle.text_scan.proofs.AmountLemmas.{amount_is, bool_byte_is}
use Rattle.text_scan.proofs.scans.amount_of.Goals as goal

pub returns : goal.returns
returns c =
    amount_is c.args.unit c.whole_amount-wholes.result c.fraction_amount-parts.result.0 c.from-up.result c.args.whole.now c.args.fraction.now c.args.away c.fraction_amount-parts.result.1
    c.requires.some c.whole_amount-wholes.ensures c.fraction_amount-parts.ensures.parts (c.from-up.ensures ∙ bool_byte_is _)
