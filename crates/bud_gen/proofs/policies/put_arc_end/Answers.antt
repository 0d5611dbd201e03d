use Rattle.std.proofs.Common.{◌∷◌, []}
use Rattle.std.specs.Prelude.{codes}
use Rattle.bud_gen.specs.Policies.{arc_end}
use Rattle.bud_gen.specs.Signals.{numbered}
use Rattle.bud_gen.proofs.TextLemmas.{four_parts}
use Rattle.bud_gen.proofs.policies.put_arc_end.Goals as goal

pub returns : goal.returns
unfolding arc_end
returns c =
    four_parts c.args.out.now.items (numbered (codes " b") c.args.k) (numbered (codes "/g") c.args.g) (numbered (codes "/Z extra 500 weight ") c.args.weight) (10 ∷ [])
    c.put_numbered.new.out.items c.put_numbered-2.new.out.items c.put_numbered-3.new.out.items c.push.new.self.items
    c.in_ok-put_numbered.ensures c.in_ok-put_numbered-2.ensures c.in_ok-put_numbered-3.ensures c.in_ok-push.ensures.items
