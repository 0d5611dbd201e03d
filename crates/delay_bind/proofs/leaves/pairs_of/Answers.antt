use Rattle.std.proofs.Common.{◌∙◌, sym, ap, subst}
use Rattle.registers.specs.PairTables.{IsPairTable}
use Rattle.registers.specs.RegisterMarks.{AreMarks}
use Rattle.delay_bind.specs.Binding.{entries_in}
use Rattle.delay_bind.specs.Bindings.{negative_pair}
use Rattle.delay_bind.proofs.LeafLaws.{IsPairWithin-found, IsPairRefusal-named}
use Rattle.delay_bind.proofs.leaves.pairs_of.Goals as goal

pub negative-requires-clause-from : goal.negative-requires-clause-from
negative-requires-clause-from c =
    let d = c.args.flat.now in
    let e = entries_in c.args.lists.now in
    let marks = subst (λ ts. AreMarks d ts e.setups c.args.marks.now) (sym c.deref.ensures.value) c.requires.marks in
    let are : IsPairTable d e.throughs e.setups c.in-Ok.table = subst (λ ts. IsPairTable d ts e.setups c.in-Ok.table) c.deref.ensures.value (c.in-Ok.ensures e.setups marks) in
    let found = c.in-Some.ensures ∙ ap negative_pair c.as_slice.ensures in
    (IsPairWithin-found d e c.requires.within c.in-Ok.table are c.in-Some.pair found).from

pub negative-requires-clause-to : goal.negative-requires-clause-to
negative-requires-clause-to c =
    let d = c.args.flat.now in
    let e = entries_in c.args.lists.now in
    let marks = subst (λ ts. AreMarks d ts e.setups c.args.marks.now) (sym c.deref.ensures.value) c.requires.marks in
    let are : IsPairTable d e.throughs e.setups c.in-Ok.table = subst (λ ts. IsPairTable d ts e.setups c.in-Ok.table) c.deref.ensures.value (c.in-Ok.ensures e.setups marks) in
    let found = c.in-Some.ensures ∙ ap negative_pair c.as_slice.ensures in
    (IsPairWithin-found d e c.requires.within c.in-Ok.table are c.in-Some.pair found).to

pub returns-in-None : goal.returns-in-None
returns-in-None c =
    let d = c.args.flat.now in
    let e = entries_in c.args.lists.now in
    let marks = subst (λ ts. AreMarks d ts e.setups c.args.marks.now) (sym c.deref.ensures.value) c.requires.marks in
    let are : IsPairTable d e.throughs e.setups c.in-Ok.table = subst (λ ts. IsPairTable d ts e.setups c.in-Ok.table) c.deref.ensures.value (c.in-Ok.ensures e.setups marks) in
    (are, sym (c.in-None.ensures ∙ ap negative_pair c.as_slice.ensures))

pub returns-in-Some : goal.returns-in-Some
returns-in-Some c =
    let d = c.args.flat.now in
    let e = entries_in c.args.lists.now in
    let marks = subst (λ ts. AreMarks d ts e.setups c.args.marks.now) (sym c.deref.ensures.value) c.requires.marks in
    let are : IsPairTable d e.throughs e.setups c.in-Ok.table = subst (λ ts. IsPairTable d ts e.setups c.in-Ok.table) c.deref.ensures.value (c.in-Ok.ensures e.setups marks) in
    let found = c.in-Some.ensures ∙ ap negative_pair c.as_slice.ensures in
    IsPairRefusal-named d e c.requires.within c.in-Ok.table are c.in-Some.pair found c.negative.result c.negative.ensures
