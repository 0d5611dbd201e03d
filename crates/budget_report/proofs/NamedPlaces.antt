-- What the fault of a certificate names has a name in the design that is spoken of.
use Rattle.std.proofs.Common.{◌≡◌, ◌<◌, ℕ, [], length, subst}
use Rattle.bud_base.specs.Paths.{item_at, start_at, end_at}
use Rattle.bud_design.specs.declared.layers.Layered.{Layered}
use Rattle.bud_design.specs.Designs.{Design}
use Rattle.budget_report.specs.DesignPaths.{IsOfDesign}
use Rattle.budget_report.specs.Subjects.{Subject, bare, raw, pins, design, problem_of}
use Rattle.budget_report.specs.Certificates.{IsLaidOut, HasNodeOf, HasItemOf}

node-laid_out : (layered : Layered) (d : Design) → IsOfDesign layered d → (n : ℕ) → n < layered.problem.nodes → IsOfDesign layered d × (n < length layered.nodes)
node-laid_out layered d is n below = (is, subst (λ (k : ℕ). n < k) is.1.node_count below)

pub item_named : (subject : Subject) → IsLaidOut subject → (i : ℕ) → i < length (problem_of subject).items → HasItemOf subject (item_at (problem_of subject).items i)
item_named bare laid_out i below = (tt, tt)
item_named (raw problem) laid_out i below = (tt, tt)
item_named (pins d) laid_out i below = (tt, tt)
item_named (design layered d all) laid_out i below =
    let item = laid_out.1.problem.items i (item_at [] 0) below in (
      node-laid_out layered d laid_out (item_at layered.problem.items i).from.0 item.from,
      node-laid_out layered d laid_out (item_at layered.problem.items i).to.0 item.to,
    )

pub start_named : (subject : Subject) → IsLaidOut subject → (s : ℕ) → s < length (problem_of subject).starts → HasNodeOf subject (start_at (problem_of subject).starts s).node.0
start_named bare laid_out s below = tt
start_named (raw problem) laid_out s below = tt
start_named (pins d) laid_out s below = tt
start_named (design layered d all) laid_out s below =
    node-laid_out layered d laid_out (start_at layered.problem.starts s).node.0 (laid_out.1.problem.starts s (start_at [] 0) below).node

pub end_named : (subject : Subject) → IsLaidOut subject → (e : ℕ) → e < length (problem_of subject).ends → HasNodeOf subject (end_at (problem_of subject).ends e).node.0
end_named bare laid_out e below = tt
end_named (raw problem) laid_out e below = tt
end_named (pins d) laid_out e below = tt
end_named (design layered d all) laid_out e below =
    node-laid_out layered d laid_out (end_at layered.problem.ends e).node.0 (laid_out.1.problem.ends e (end_at [] 0) below).node
