use Rattle.std.proofs.Common.{filter, ap, ◌∙◌}
use Rattle.std.specs.List.{range_with_len}
use Rattle.std.proofs.lemmas.Result.{IfOk-weaker}
use Rattle.number_marks.specs.Marks.{is_marked}
use Rattle.number_marks.proofs.MarkLaws.{below_marked}
use Rattle.number_marks.proofs.marks.below.Goals as goal

pub returns : goal.returns
returns c =
    IfOk-weaker c.marked_below.result _ _
    (λ found same. same ∙ (ap (λ marks. filter (is_marked marks) (range_with_len 0 c.args.count)) c.deref.ensures.value ∙ below_marked c.args.numbers.now c.args.count c.in_ok-marks.marks.items c.in_ok-marks.ensures))
    c.marked_below.ensures
