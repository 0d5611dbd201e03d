use Rattle.std.proofs.Common.{◌≡◌, ◌∙◌, Some, sym, ap, subst}
use Rattle.registers.specs.RegisterMarks.{AreMarks}
use Rattle.registers.specs.Registers.{register_fault}
use Rattle.delay_bind.proofs.LeafLaws.{IsFaultWithin-given, refusal-given}
use Rattle.delay_bind.proofs.leaves.judge_registers.Goals as goal

pub refusal-requires : goal.refusal-requires
refusal-requires c =
    let marks = subst (λ ts. AreMarks c.args.flat.now ts c.args.lists.now.setups.items c.args.marks.now) (sym c.deref.ensures.value) c.requires.marks in
    let given = sym c.in-Ok-Some.field-0-is ∙ c.in-Ok-Some.ensures c.args.lists.now.setups.items marks in
    IsFaultWithin-given c.args.flat.now c.deref.result.now c.args.lists.now.setups.items c.in-Ok-Some.fault given

pub returns-in-Ok-Some : goal.returns-in-Ok-Some
returns-in-Ok-Some c =
    let marks = subst (λ ts. AreMarks c.args.flat.now ts c.args.lists.now.setups.items c.args.marks.now) (sym c.deref.ensures.value) c.requires.marks in
    let given : Some c.in-Ok-Some.fault ≡ register_fault c.args.flat.now c.args.lists.now.throughs.items c.args.lists.now.setups.items
    = sym c.in-Ok-Some.field-0-is ∙ (c.in-Ok-Some.ensures c.args.lists.now.setups.items marks ∙ ap (λ ts. register_fault c.args.flat.now ts c.args.lists.now.setups.items) c.deref.ensures.value) in
    refusal-given c.args.flat.now c.args.lists.now.throughs.items c.args.lists.now.setups.items c.in-Ok-Some.fault c.refusal.result given c.refusal.ensures
