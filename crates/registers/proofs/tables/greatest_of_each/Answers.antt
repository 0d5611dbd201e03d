use Rattle.std.proofs.Common.{◌≡◌, length}
use Rattle.std.proofs.lemmas.Result.{IfOk-weaker}
use Rattle.registers.specs.Tables.{AreGreatest, IsThinned}
use Rattle.registers.proofs.Thinning.{AreGreatest-end, AreGreatest-permuted}
use Rattle.registers.proofs.tables.greatest_of_each.Goals as goal

pub returns : goal.returns
returns c = IfOk-weaker c.last_of_each.result (λ kept. IsThinned c.sort.new.values (length c.sort.new.values) kept.items) (λ kept. AreGreatest c.args.values.now kept.items)
    (λ kept thinned. AreGreatest-permuted c.sort.new.values c.args.values.now kept.items c.sort.ensures.permutation (AreGreatest-end c.sort.new.values c.sort.ensures.sorted kept.items thinned)) c.last_of_each.ensures
