use Rattle.std.proofs.Common.{◌++◌, ◌∷◌, [], ap, ◌∙◌, if◌then◌else◌}
use Rattle.number_marks.specs.Marks.{is_marked}
use Rattle.number_marks.proofs.MarkLaws.{below_more}
use Rattle.number_marks.proofs.marks.marked_below.Goals as goal

pub loop-number-preserved : goal.loop-number-preserved
loop-number-preserved c =
    let n = c.loop-number.number in
    let marks = c.args.marks.now in
    c.in_ok-put_if.ensures
    ∙ (ap (λ wanted. c.loop-number.found.items ++ (if wanted then n ∷ [] else [])) c.is_marked.ensures
    ∙ (ap (λ xs. xs ++ (if is_marked marks n then n ∷ [] else [])) c.loop-number.invariant ∙ below_more (is_marked marks) n))
