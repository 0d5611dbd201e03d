use Rattle.std.proofs.Common.{◌≡◌, ◌++◌, ◌∷◌, [], AllPairs, sym, subst, rules}
use Rattle.std.proofs.lemmas.List.Quantifiers.{all_pairs_push}
use Rattle.bud_design.specs.declared.layers.Class.{Class}
use Rattle.path_states.proofs.entering.enter_class.Goals as goal

pub returns-clause-different : goal.returns-clause-different
returns-clause-different c =
    let is : c.in_ok-kinds.field-0 ≡ c.args.kinds.now ++ c.args.«class» ∷ [] = search rules in
    subst (AllPairs (λ (j k : Class). j ≡ k → ⊥)) (sym is)
    (all_pairs_push (λ (j k : Class). j ≡ k → ⊥) c.args.kinds.now c.args.«class» c.requires (λ k d below. c.in_default.ensures k d below))
