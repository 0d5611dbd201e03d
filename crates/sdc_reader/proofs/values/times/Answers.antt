use Rattle.std.proofs.Common.{◌≡◌, ℤ, List, ◌∷◌, ◌++◌, [], Ok, ap, sym, ◌∙◌, subst, rules}
use Rattle.std.proofs.lemmas.List.{append-nil}
use Rattle.std.proofs.lemmas.Result.{err_from_is_err_and}
use Rattle.sdc_reader.specs.Answers.{Answer, Fails}
use Rattle.sdc_reader.proofs.TimeLemmas.{times_turn, times_fails, times_end}
use Rattle.sdc_reader.proofs.values.times.Goals as goal

pub returns-in_err-edge : goal.returns-in_err-edge
returns-in_err-edge c =
    let p = err_from_is_err_and c.from_residual.result c.from_residual.ensures.1 in
    let P : Answer (List ℤ) → Type 0 = λ read. Fails c.in_err-edge.field-0.0 read in
    rw (p.1, p.2, ← c.in_ps-unit.ensures.ps)
    (subst P c.loop-element.invariant (times_fails _ _ c.loop-element.times.items _ _ _ c.in_err-edge.field-0.0 c.in-Some.ensures.first c.in_err-edge.ensures))

pub loop-element-preserved : goal.loop-element-preserved
loop-element-preserved c =
    let pushed : c.push.new.self.items ≡ c.loop-element.times.items ++ c.in_ok-edge.edge ∷ [] = search rules in
    rw pushed (times_turn _ _ c.loop-element.times.items _ _ _ _ c.in-Some.ensures.first c.in_ok-edge.ensures ∙ c.loop-element.invariant)

pub returns : goal.returns
returns c =
    rw (← c.in_ps-unit.ensures.ps)
    (sym c.loop-element.invariant ∙ times_end _ _ c.loop-element.times.items _ c.in_default.ensures.first ∙ ap (λ xs. Ok xs) (append-nil c.loop-element.times.items))
