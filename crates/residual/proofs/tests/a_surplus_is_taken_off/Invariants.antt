use Rattle.residual.proofs.tests.a_surplus_is_taken_off.Given as goal

abbrev pub ghosts-pushed_and_trimmed : goal.ghosts-pushed_and_trimmed
ghosts-pushed_and_trimmed g a = record { name = a.blank.name; parts = a.blank.parts }
