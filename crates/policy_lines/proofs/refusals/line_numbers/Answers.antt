use Rattle.std.proofs.Common.{◌≡◌, ◌++◌, ◌∷◌, [], ◌+◌, take, ap, subst, arith, sym, ◌∙◌}
use Rattle.std.specs.List.{AllZip}
use Rattle.std.proofs.lemmas.List.{take_more}
use Rattle.bud_design.specs.declared.policies.PolicyLine.{PolicyLine}
use Rattle.policy_lines.specs.Lines.{line_number as number_of, IsBlockNumber}
use Rattle.policy_lines.proofs.LineLaws.{lines_fault-next, numbers-more, AllZip-push}
use Rattle.policy_lines.proofs.refusals.line_numbers.Goals as goal

pub loop-place-preserved : goal.loop-place-preserved
loop-place-preserved c =
    let d = c.args.flat.now in
    let lines = c.args.lines.now in
    let place = c.loop-place.place in
    let x = c.index-lines-place.result in
    let number = c.line_number-number.result in
    let here = sym c.index-lines-place.is in
    let front : take (place + 1) lines ≡ take place lines ++ x ∷ [] = take_more lines place x c.loop-place-test.true ∙ ap (λ (y : PolicyLine). take place lines ++ y ∷ []) here in (
      c.loop-place.invariant.0
          ∙ lines_fault-next d c.args.graph.now.arcs c.args.clocks.now lines place x c.loop-place-test.true here (c.in_ok-try_line.ensures c.args.graph.now.arcs c.line_number-number.ensures.number),
      numbers-more (number_of d c.args.graph.now.arcs) (take place lines) (take (place + 1) lines) c.loop-place.numbers.items c.push.new.self.items x number c.loop-place.invariant.1
          c.line_number-number.ensures.number front c.in-Ok.ensures.items,
      subst (λ ys. AllZip (IsBlockNumber d) (take (place + 1) lines) ys) (sym c.in-Ok.ensures.items)
          (subst (λ xs. AllZip (IsBlockNumber d) xs (c.loop-place.numbers.items ++ number ∷ [])) (sym front)
          (AllZip-push (IsBlockNumber d) (take place lines) c.loop-place.numbers.items x number c.loop-place.invariant.2 c.line_number-number.ensures.within)),
      omega (arith, c.loop-place-test.true),
    )
