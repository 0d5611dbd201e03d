use Rattle.std.proofs.Common.{◌≡◌, ◌∙◌, true, length, arith, sym}
use Rattle.std.specs.Prelude.{nat_le}
use Rattle.budget_makes.specs.Words.{digits_of}
use Rattle.budget_makes.proofs.WordLemmas.{digits_by, digits_within}
use Rattle.budget_makes.proofs.words.digits_of.Goals as goal

pub returns-clause-number : goal.returns-clause-number
returns-clause-number c =
    let few : nat_le (length c.args.word.now) 10 ≡ true = grind (arith, c.if-word-gt-DIGITS.false) in
    c.whole_number.ensures ∙ digits_by c.args.word.now few (sym c.if-begins_with_minus.ensures)

pub returns-clause-range : goal.returns-clause-range
returns-clause-range c =
    let few : nat_le (length c.args.word.now) 10 ≡ true = grind (arith, c.if-word-gt-DIGITS.false) in
    digits_within (digits_of c.args.word.now) c.whole_number.result (c.whole_number.ensures ∙ digits_by c.args.word.now few (sym c.if-begins_with_minus.ensures))
