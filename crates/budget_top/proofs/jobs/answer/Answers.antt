use Rattle.budget_top.proofs.jobs.answer.Goals as goal

pub returns-in-Raw-clause-course : goal.returns-in-Raw-clause-course
returns-in-Raw-clause-course g c = rw c.in-Raw.is c.raw.ensures.course

pub returns-in-Prove-clause-course : goal.returns-in-Prove-clause-course
returns-in-Prove-clause-course g c = rw c.in-Prove.is c.prove.ensures.course

pub returns-in-Least-clause-course : goal.returns-in-Least-clause-course
returns-in-Least-clause-course g c = rw c.in-Least.is c.least.ensures.course

pub returns-in-Plan-clause-course : goal.returns-in-Plan-clause-course
returns-in-Plan-clause-course g c = rw c.in-Plan.is c.planned.ensures.course

pub returns-in-Check-clause-course : goal.returns-in-Check-clause-course
returns-in-Check-clause-course g c = rw c.in-Check.is c.checked.ensures.course

pub returns-in-Make-clause-course : goal.returns-in-Make-clause-course
returns-in-Make-clause-course g c = rw c.in-Make.is c.make.ensures
