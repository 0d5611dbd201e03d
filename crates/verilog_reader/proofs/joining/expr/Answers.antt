use Rattle.std.proofs.Common.{◌≡◌, ◌++◌, ◌∷◌, [], sym, ◌∙◌, rules, arith}
use Rattle.std.proofs.lemmas.Result.{err_from_is_err_and}
use Rattle.verilog_reader.specs.Joining.{somes}
use Rattle.verilog_reader.specs.Joints.{joint_of}
use Rattle.verilog_reader.proofs.JoiningSteps.{joining_turns, joining_stops, joining_ends, done_apart}
use Rattle.verilog_reader.proofs.joining.expr.Goals as goal

pub returns-in_err-found-clause-read : goal.returns-in_err-found-clause-read
returns-in_err-found-clause-read c =
    let p = err_from_is_err_and c.from_residual.result c.from_residual.ensures.1 in
    rw (p.1, p.2) (joining_stops _ _ _ _ c.loop-alloc.invariant.joining (sym c.is_done.ensures ∙ c.loop-alloc-test.true) c.in_err-found.ensures.read)

pub loop-alloc-preserved : goal.loop-alloc-preserved
loop-alloc-preserved c =
    let pushed : c.push_found.new.pieces.items ≡ c.loop-alloc.pieces.items ++ somes (c.in_ok-found.found ∷ []) = search rules in
    record {
      joining = joining_turns _ _ _ _ _ c.in_ok-found.found c.loop-alloc.invariant.joining (sym c.is_done.ensures ∙ c.loop-alloc-test.true) c.in_ok-found.ensures.read c.in_ok-found.ensures.on pushed;
      depth = omega (arith, c.in_ok-found.ensures.depth, c.loop-alloc.invariant.depth);
      order = omega (arith, c.in_ok-found.ensures.on, c.loop-alloc.invariant.order);
      begun = λ _. omega (arith, c.in_ok-found.ensures.on, c.loop-alloc.invariant.order);
    }

pub returns-clause-read : goal.returns-clause-read
returns-clause-read c = rw c.from_vec.ensures (joining_ends _ _ _ c.loop-alloc.invariant.joining (sym c.is_done.ensures ∙ c.loop-alloc-test.false))

pub returns-clause-on : goal.returns-clause-on
returns-clause-on c = c.loop-alloc.invariant.begun (done_apart (joint_of c.loop-alloc.joint) (sym c.is_done.ensures ∙ c.loop-alloc-test.false))
