use Rattle.std.proofs.Common.{◌≡◌, ◌-◌, length, map, arith}
use Rattle.registers.specs.PairLists.{through_value}
use Rattle.registers.specs.Tables.{AreGreatest}
use Rattle.registers.proofs.PairTableLaws.{rooms, fewer, IsPairTable-made}
use Rattle.registers.proofs.pair_tables.pair_table.Goals as goal

pub counted-requires : goal.counted-requires
counted-requires c =
    let are : AreGreatest (map through_value c.args.throughs.now) c.in_ok-delays.delays.items = rw (c.deref_mut.ensures.value, c.in_ok-values.ensures) at c.in_ok-delays.ensures in
    rw (c.deref.ensures.value, c.pins.ensures.lent) (rooms c.args.flat.now c.args.throughs.now c.requires.marks.0 c.args.marks.now c.requires.marks.1 c.pins.ensures.kept.is_design c.requires.within c.in_ok-delays.delays.items are)

pub overflow_sub-left_out : goal.overflow_sub-left_out
overflow_sub-left_out c =
    let less = fewer c.args.flat.now c.args.throughs.now c.requires.marks.0 c.args.marks.now c.requires.marks.1 c.in_ok-delays.delays.items c.in_ok-pairs.pairs
    (rw (c.deref.ensures.value, c.pins.ensures.lent) at c.in_ok-pairs.ensures) in
    omega (arith, less, c.len.ensures, c.len-2.ensures, c.in_ok-delays.delays.ok)

pub returns : goal.returns
returns c = λ setups marks.
    let are : AreGreatest (map through_value c.args.throughs.now) c.in_ok-delays.delays.items = rw (c.deref_mut.ensures.value, c.in_ok-values.ensures) at c.in_ok-delays.ensures in
    IsPairTable-made c.args.flat.now c.args.throughs.now setups c.args.marks.now marks c.in_ok-delays.delays.items _ are
    (rw (c.deref.ensures.value, c.pins.ensures.lent) at c.in_ok-pairs.ensures)
    (omega (arith, c.len.ensures, c.len-2.ensures, c.in_ok-delays.delays.ok))
