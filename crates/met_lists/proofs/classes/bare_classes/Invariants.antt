use Rattle.std.proofs.Common.{◌≡◌, ◌++◌, drop, map}
use Rattle.met_lists.specs.Classes.{bare_class}
use Rattle.met_lists.proofs.classes.bare_classes.Given as goal

abbrev pub invariant-loop-launch : goal.invariant-loop-launch
invariant-loop-launch l = map bare_class l.launches ≡ l.classes.items ++ map bare_class (drop l.launch-index l.launches)
