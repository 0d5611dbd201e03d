use Rattle.std.proofs.Common.{◌∙◌, sym}
use Rattle.std.proofs.lemmas.Result.{err_from_is_err_and}
use Rattle.verilog_reader.specs.Readings.{left_of}
use Rattle.verilog_reader.proofs.NetlistSteps.{reading_begins, reading_turns, reading_stops, reading_ends}
use Rattle.verilog_reader.proofs.netlists.netlist.Goals as goal

pub loop-alloc-init : goal.loop-alloc-init
loop-alloc-init c = rw c.new-modules.ensures.items (reading_begins c.args.text.now c.args.tokens.now)

pub returns-in_err-found : goal.returns-in_err-found
returns-in_err-found c =
    let p = err_from_is_err_and c.from_residual.result c.from_residual.ensures.1 in
    rw (p.1, p.2) (reading_stops _ _ _ _ _ _ c.loop-alloc.invariant (sym c.is_over.ensures ∙ c.loop-alloc-test.true) c.in_err-found.ensures.read)

pub loop-alloc-preserved : goal.loop-alloc-preserved
loop-alloc-preserved c =
    reading_turns _ _ c.loop-alloc.modules.items _ c.loop-alloc.fault c.in_ok-fault.fault (left_of c.loop-alloc.rest) (left_of c.in_ok-found.behind) c.in_ok-found.found c.loop-alloc.invariant
    (sym c.is_over.ensures ∙ c.loop-alloc-test.true) c.in_ok-found.ensures.read c.in_ok-found.ensures.on c.in_ok-fault.ensures.modules c.in_ok-fault.ensures.fault

pub returns : goal.returns
returns c = rw c.from_vec.ensures (reading_ends _ _ _ _ _ c.loop-alloc.invariant (sym c.is_over.ensures ∙ c.loop-alloc-test.false))
