use Rattle.std.proofs.Common.{rules, Some, arith, sym, ◌∙◌, ap, w64, SFits, to_z-of_z}
use Rattle.std.proofs.lemmas.Int.{ints}
use Rattle.path_requirements.proofs.KindLaws.{requirement-never, requirement-most, requirement-apart, unwrap-modest, clock_at-from_index}
use Rattle.path_requirements.proofs.requirements.requirement.Goals as goal

pub returns-then-bounds : goal.returns-then-bounds
returns-then-bounds c = sym (requirement-never c.args.all.now c.args.class.now c.args.capture.now c.index-clocks-class.result c.index-clocks-capture.result c.bounds_of-bounds.result c.requires.numbers (clock_at-from_index _ _ _ c.requires.launch_clock (search rules)) (clock_at-from_index _ _ _ c.requires.capture_clock (search rules)) (search rules) (search rules))

pub returns-in-Some : goal.returns-in-Some
returns-in-Some c =
    let fits : SFits w64 c.in-Some.amount = search rules in
    let is = requirement-most c.args.all.now c.args.class.now c.args.capture.now c.index-clocks-class.result c.index-clocks-capture.result c.bounds_of-bounds.result c.in-Some.amount c.requires.numbers (clock_at-from_index _ _ _ c.requires.launch_clock (search rules)) (clock_at-from_index _ _ _ c.requires.capture_clock (search rules)) (search rules) (search rules) (search rules) in
    sym (is ∙ ap (λ z. Some z) (sym (to_z-of_z fits)))

pub returns-in-None : goal.returns-in-None
returns-in-None c =
    let is = requirement-apart c.args.all.now c.args.class.now c.args.capture.now c.index-clocks-class.result c.index-clocks-capture.result c.bounds_of-bounds.result c.relation-apart.result c.requires.numbers (clock_at-from_index _ _ _ c.requires.launch_clock (search rules)) (clock_at-from_index _ _ _ c.requires.capture_clock (search rules)) (search rules) (search rules) (search rules) c.relation-apart.ensures.value in
    let modest = unwrap-modest c.bounds_of-bounds.result.more c.bounds_of-bounds.ensures.modest in
    sym (is ∙ ap (λ z. Some z) (omega (arith, ints, c.unwrap_or.ensures, modest.0, modest.1, c.relation-apart.ensures.low, c.relation-apart.ensures.high)))
