use Rattle.std.proofs.Common.{◌≡◌, ◌++◌, ◌∷◌, [], sym, ◌∙◌, rules, arith}
use Rattle.std.proofs.lemmas.Result.{err_from_is_err_and}
use Rattle.verilog_reader.specs.Left.{size}
use Rattle.verilog_reader.specs.Items.{ends_module, body_item}
use Rattle.verilog_reader.specs.Readings.{left_of}
use Rattle.verilog_reader.proofs.RepeatSteps.{begun, turned, turn_stops, ended}
use Rattle.verilog_reader.proofs.items.items.Goals as goal

pub loop-alloc-init : goal.loop-alloc-init
loop-alloc-init c = record {
  goes_on = rw c.new-found.ensures.items (begun ends_module body_item size (left_of c.args.left));
  order = omega arith;
}

pub returns-in_err-item-clause-read : goal.returns-in_err-item-clause-read
returns-in_err-item-clause-read c =
    let p = err_from_is_err_and c.from_residual.result c.from_residual.ensures.1 in
    rw (p.1, p.2) (turn_stops ends_module body_item size _ _ _ _ c.loop-alloc.invariant.goes_on (sym c.begins_word.ensures ∙ c.loop-alloc-test.true) c.in_err-item.ensures.read)

pub loop-alloc-preserved : goal.loop-alloc-preserved
loop-alloc-preserved c =
    let pushed : c.push.new.self.items ≡ c.loop-alloc.found.items ++ c.in_ok-item.item ∷ [] = search rules in
    record {
      goes_on =
          rw pushed (turned ends_module body_item size c.loop-alloc.found.items (left_of c.loop-alloc.rest) (left_of c.in_ok-item.behind) c.in_ok-item.item _ c.loop-alloc.invariant.goes_on
          (sym c.begins_word.ensures ∙ c.loop-alloc-test.true) c.in_ok-item.ensures.read c.in_ok-item.ensures.on);
      order = omega (arith, c.in_ok-item.ensures.on, c.loop-alloc.invariant.order);
    }

pub returns-clause-read : goal.returns-clause-read
returns-clause-read c = ended ends_module body_item size _ _ _ c.loop-alloc.invariant.goes_on (sym c.begins_word.ensures ∙ c.loop-alloc-test.false)
