use Rattle.std.proofs.Common.{◌≡◌, drop}
use Rattle.class_steps.specs.Keys.{mets_key}
use Rattle.class_steps.proofs.keys.mets_key.Given as goal

abbrev pub invariant-loop-met : goal.invariant-loop-met
invariant-loop-met l = mets_key l.fn.key l.mets ≡ mets_key l.key (drop l.met-index l.mets)
