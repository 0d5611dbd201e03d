use Rattle.std.proofs.Common.{◌++◌, ap, sym, ◌∙◌, arith}
use Rattle.std.proofs.lemmas.List.{append-nil}
use Rattle.net_drivers.proofs.JoinLaws.{joints-end}
use Rattle.net_drivers.proofs.joins.pair_joints.Goals as goal

pub returns : goal.returns
returns c =
    sym (append-nil c.loop-k.pairs.items)
    ∙ (ap (λ xs. c.loop-k.pairs.items ++ xs) (sym (joints-end c.loop-k.k c.args.dirs.now c.args.numbers.now (omega arith))) ∙ c.loop-k.invariant)
