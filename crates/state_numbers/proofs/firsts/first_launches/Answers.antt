use Rattle.std.proofs.Common.{◌≡◌, ◌<◌, ◌+◌, ℕ, [], length, get_or, set, Option, Some, None, Vec, Global, sym, ap, ◌∙◌, subst, arith}
use Rattle.std.proofs.Math.ListN.{length-set}
use Rattle.std.proofs.lemmas.List.{get_or_default}
use Rattle.path_states.specs.Tables.{state_at}
use Rattle.state_numbers.specs.Firsts.{lesser}
use Rattle.state_numbers.proofs.FirstSteps.{AreFirsts, AreFirsts-dead, AreFirsts-live}
use Rattle.state_numbers.proofs.firsts.first_launches.Goals as goal
use Rattle.state_numbers.proofs.firsts.first_launches.Goals.{then-live-place, else-live-place}

pub loop-place-preserved : goal.loop-place-preserved
loop-place-preserved c = elim c.if-live-place.branch [
  | then-live-place w ↦
      let firsts = c.loop-place.firsts.items in
      let kind = (state_at c.args.states.now c.loop-place.place).kind in
      let launch = get_or c.args.launches.now c.loop-place.place 0 in
      let within : kind < length firsts = omega (arith, c.requires.kinds c.loop-place.place (state_at [] 0) c.loop-place-test.true, c.loop-place.invariant.0) in
      let read : w.index.result.now ≡ get_or firsts kind None = w.index.ensures ∙ get_or_default firsts kind w.index.result.now None within in
      let value : w.lesser.result ≡ lesser (get_or firsts kind None) launch = w.lesser.ensures ∙ ap (λ o. lesser o launch) read in
      let items : c.if-live-place.firsts.items ≡ set firsts kind (Some (lesser (get_or firsts kind None) launch))
      = ap (λ (v : Vec (Option ℕ) Global). v.items) w.firsts-is ∙ ap (λ n. set firsts kind (Some n)) value in (
        ap length items ∙ (length-set firsts kind (Some (lesser (get_or firsts kind None) launch)) ∙ c.loop-place.invariant.0),
        subst (AreFirsts c.args.states.now c.args.launches.now c.args.live.now c.args.kinds (c.loop-place.place + 1)) (sym items)
            (AreFirsts-live c.args.states.now c.args.launches.now c.args.live.now c.args.kinds c.loop-place.place firsts w.if-live-place.true within c.loop-place.invariant.1),
      )
  | else-live-place w ↦
      let items : c.if-live-place.firsts.items ≡ c.loop-place.firsts.items = ap (λ (v : Vec (Option ℕ) Global). v.items) w.firsts-is in (
        ap length items ∙ c.loop-place.invariant.0,
        subst (AreFirsts c.args.states.now c.args.launches.now c.args.live.now c.args.kinds (c.loop-place.place + 1)) (sym items)
            (AreFirsts-dead c.args.states.now c.args.launches.now c.args.live.now c.args.kinds c.loop-place.place c.loop-place.firsts.items w.if-live-place.false c.loop-place.invariant.1),
      )
]
