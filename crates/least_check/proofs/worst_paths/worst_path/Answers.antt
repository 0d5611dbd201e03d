use Rattle.std.proofs.Common.{Option, sym, subst, rules, w64, FitsSigned, drop}
use Rattle.std.proofs.lemmas.Int.{to_z-of_z}
use Rattle.bud_base.specs.Paths.{end_at}
use Rattle.least_check.specs.Traces.{IsTrace}
use Rattle.least_check.specs.WorstPaths.{IsWorstPath}
use Rattle.least_check.specs.declared.worst_paths.WorstPath.{WorstPath}
use Rattle.least_check.proofs.Verdicts.{HasNoPath-none, IsPathOfSlack-trace, IsLeastSlack-worst}
use Rattle.least_check.proofs.worst_paths.worst_path.Goals as goal

pub returns-in_err-worst : goal.returns-in_err-worst
returns-in_err-worst c =
    record {
      worst =
          let P : Option WorstPath → Type 0 = λ o. IsWorstPath c.args.problem.now c.args.path.now o in
          subst P (sym c.from_residual.ensures) (HasNoPath-none _ _ c.requires.sound c.sweep.ensures.swept c.in_err-worst.ensures.worst);
    }

pub returns : goal.returns
returns c =
    let traced : IsTrace c.args.problem.now c.sweep.new.arrivals (end_at c.args.problem.now.ends c.in_ok-worst.worst.end).node.0 c.trace-traced.result.start
    (drop c.trace-traced.result.begin c.trace-traced.new.path) = rw c.as_slice.ensures at c.trace-traced.ensures.traced in
    let has = IsPathOfSlack-trace c.args.problem.now c.sweep.new.arrivals c.in_ok-worst.worst _ _ c.in_ok-worst.ensures.worst traced in
    let fits : FitsSigned w64 c.in_ok-worst.worst.slack = search rules in
    record {
      worst = simp to_z-of_z (record {
        within = c.trace-traced.ensures.within;
        has_slack = has;
        least = IsLeastSlack-worst c.args.problem.now c.sweep.new.arrivals c.in_ok-worst.worst _ c.requires.sound c.sweep.ensures.swept c.in_ok-worst.ensures.worst has;
      });
    }
