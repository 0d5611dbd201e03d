use Rattle.std.proofs.Common.{◌∙◌, ◌++◌, ◌∷◌, [], List, ℕ, ap, sym, subst, map, take}
use Rattle.std.proofs.lemmas.List.{map-append}
use Rattle.bud_syntax.specs.declared.modules.NetDecl.{NetDecl}
use Rattle.module_nets.specs.Gathering.{Gathers}
use Rattle.module_nets.specs.Numbers.{Net, net_of}
use Rattle.module_nets.proofs.ListSteps.{take_one}
use Rattle.module_nets.proofs.gathering.Gathered.put_nets.Goals as goal

pub loop-net-preserved : goal.loop-net-preserved
loop-net-preserved c = λ ports so_far.
    let f : NetDecl → Net = λ n. net_of n.name n.range in
    let nets = c.args.nets.now in
    let i = c.loop-net.net-index in
    let x = c.net-item.result in
    let P : List Net → Type 0 = λ ns. Gathers ports ns c.put_local.new.self in
    let Q : List ℕ → Type 0 = λ name. Gathers ports (map f (take i nets) ++ net_of name x.range ∷ []) c.put_local.new.self in
    subst P (sym (ap (map f) (take_one nets i x c.loop-net-test.true c.net-item.is) ∙ map-append f (take i nets) (x ∷ [])))
    (subst Q c.as_slice.ensures (c.in_ok-put_local.ensures.nets ports (map f (take i nets)) (c.loop-net.invariant ports so_far)))
