use Rattle.std.proofs.Common.{List, subst, sym, OnOk}
use Rattle.bud_syntax.specs.declared.modules.Piece.{Piece}
use Rattle.module_nets.specs.Gathering.{Gathers, with_uses, used_by_pieces}
use Rattle.module_nets.specs.Numbers.{Net}
use Rattle.module_nets.proofs.GatherSteps.{with_uses-append}
use Rattle.module_nets.proofs.gathering.AssignNetUse.gather.Goals as goal

pub returns-clause-gathered : goal.returns-clause-gathered
returns-clause-gathered c = λ ports nets so_far.
    let left : List Piece = c.args.self.now.left in
    let right : List Piece = c.args.self.now.right in
    let P : List Net → Type 0 = λ ns. OnOk c.put_uses-2.result (Gathers ports ns c.put_uses-2.new.self) in
    let Q : List Piece → Type 0 = λ ps. Gathers ports (with_uses ports nets (used_by_pieces ps)) c.put_uses.new.self in
    let R : List Piece → Type 0 = λ ps. OnOk c.put_uses-2.result (Gathers ports (with_uses ports (with_uses ports nets (used_by_pieces left)) (used_by_pieces ps)) c.put_uses-2.new.self) in
    subst P (sym (with_uses-append ports nets (used_by_pieces left) (used_by_pieces right)))
    (subst R c.as_slice-2.ensures
    (c.put_uses-2.ensures.nets ports (with_uses ports nets (used_by_pieces left))
    (subst Q c.as_slice.ensures (c.in_ok-put_uses.ensures.nets ports nets so_far))))
