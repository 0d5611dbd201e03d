use Rattle.std.proofs.Common.{◌≡◌, ◌∙◌, ◌/◌, ap}
use Rattle.bud_gen.specs.Draws.{next, behind}
use Rattle.bud_gen.proofs.BlockLemmas.{gate_of_draws}
use Rattle.bud_gen.proofs.gates.made_gate.Goals as goal

pub returns-clause-gate : goal.returns-clause-gate
returns-clause-gate c =
    let x = c.args.draws.now.state in
    let s1 : c.draw-a.new.self.state ≡ behind x 1 = c.draw-a.ensures.state in
    let s2 : c.draw-b.new.self.state ≡ behind x 2 = c.draw-b.ensures.state ∙ ap next s1 in
    let s3 : c.draw-a_delay.new.self.state ≡ behind x 3 = c.draw-a_delay.ensures.state ∙ ap next s2 in
    let s4 : c.draw-b_delay.new.self.state ≡ behind x 4 = c.draw-b_delay.ensures.state ∙ ap next s3 in
    let s5 : c.draw-register.new.self.state ≡ behind x 5 = c.draw-register.ensures.state ∙ ap next s4 in
    let s6 : c.draw-a_weight.new.self.state ≡ behind x 6 = c.draw-a_weight.ensures.state ∙ ap next s5 in
    let s7 : c.draw-b_weight.new.self.state ≡ behind x 7 = c.draw-b_weight.ensures.state ∙ ap next s6 in
    gate_of_draws x c.args.number c.draw-a.result c.draw-b.result c.draw-a_delay.result c.draw-b_delay.result c.draw-register.result c.draw-a_weight.result c.draw-b_weight.result
    c.args.signals.now c.input.result c.input-2.result
    (c.draw-a.ensures.value ∙ ap (λ s. s / 65536) s1)
    (c.draw-b.ensures.value ∙ ap (λ s. s / 65536) s2)
    (c.draw-a_delay.ensures.value ∙ ap (λ s. s / 65536) s3)
    (c.draw-b_delay.ensures.value ∙ ap (λ s. s / 65536) s4)
    (c.draw-register.ensures.value ∙ ap (λ s. s / 65536) s5)
    (c.draw-a_weight.ensures.value ∙ ap (λ s. s / 65536) s6)
    (c.draw-b_weight.ensures.value ∙ ap (λ s. s / 65536) s7)
    c.input.ensures c.input-2.ensures
