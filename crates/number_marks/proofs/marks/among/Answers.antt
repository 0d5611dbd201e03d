use Rattle.std.proofs.Common.{◌<◌, filter, length, All, ap, ◌∙◌, subst}
use Rattle.number_marks.specs.Marks.{is_marked}
use Rattle.number_marks.proofs.MarkLaws.{both_ok, among_marked}
use Rattle.number_marks.proofs.marks.among.Goals as goal

pub returns : goal.returns
returns c =
    let numbers = c.args.numbers.now in
    let marks = c.in_ok-marks.marks.items in
    let size = ap length c.deref.ensures.value ∙ c.in_ok-marks.ensures.size in
    both_ok c.marked.result _ _ _
    (λ found same all.
    same ∙ (ap (λ bits. filter (is_marked bits) numbers) c.deref.ensures.value ∙ among_marked numbers c.args.others.now c.args.count marks c.in_ok-marks.ensures (subst (λ n. All (λ v. v < n) numbers) size all)))
    c.marked.ensures.found c.marked.ensures.within
