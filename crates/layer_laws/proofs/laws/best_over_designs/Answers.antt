use Rattle.layer_laws.proofs.DesignBudgets.{AreBestOfDesign-from_best, AreBest-from_design}
use Rattle.layer_laws.proofs.laws.best_over_designs.Goals as goal

pub returns-clause-design : goal.returns-clause-design
returns-clause-design c = λ w layered budgets correspond best. AreBestOfDesign-from_best w layered correspond budgets best

pub returns-clause-problem : goal.returns-clause-problem
returns-clause-problem c = λ w layered budgets correspond best. AreBest-from_design w layered correspond budgets best
