use Rattle.std.proofs.Common.{rules, ◌≡◌, ◌∙◌, to_z, of_z, w64, ap}
use Rattle.budget_makes.specs.Words.{digits_of, in_whole_range}
use Rattle.budget_makes.proofs.WordLemmas.{none_by, some_by}
use Rattle.budget_makes.proofs.words.number_in.Goals as goal

pub returns-in_err-number-clause-number : goal.returns-in_err-number-clause-number
returns-in_err-number-clause-number c =
    c.from_residual.ensures ∙ none_by c.args.least c.args.most (digits_of c.args.word.now) c.in_err-number.ensures.number

pub returns-clause-number : goal.returns-clause-number
returns-clause-number c =
    let same : to_z w64 (of_z w64 c.in_ok-number.number) ≡ c.in_ok-number.number = search rules in
    c.in_range.ensures.number ∙ ap (in_whole_range c.args.least c.args.most) same
    ∙ some_by c.args.least c.args.most c.in_ok-number.number (digits_of c.args.word.now) c.ranges.most.fits c.in_ok-number.ensures.number
