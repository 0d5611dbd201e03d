use Rattle.std.proofs.Common.{length, refl, arith}
use Rattle.sdf_reader.proofs.NameLaws.{IsApart, name_sound, name_complete}
use Rattle.sdf_reader.proofs.laws.names_have_their_form.Goals as goal

point_apart : IsApart 46
point_apart = record { plain_not = refl; digit_not = refl; backslash_not = λ same. omega (arith, same); closing_not = λ same. omega (arith, same); opening_not = λ same. omega (arith, same) }

slash_apart : IsApart 47
slash_apart = record { plain_not = refl; digit_not = refl; backslash_not = λ same. omega (arith, same); closing_not = λ same. omega (arith, same); opening_not = λ same. omega (arith, same) }

pub returns-clause-point : goal.returns-clause-point
returns-clause-point c = λ word named. name_sound (length word) 46 word point_apart (omega arith) named

pub returns-clause-slash : goal.returns-clause-slash
returns-clause-slash c = λ word named. name_sound (length word) 47 word slash_apart (omega arith) named

pub returns-clause-all_point : goal.returns-clause-all_point
returns-clause-all_point c = λ word shown form. (let given = name_complete 46 word shown point_apart form in (given.named, given.shown))

pub returns-clause-all_slash : goal.returns-clause-all_slash
returns-clause-all_slash c = λ word shown form. (let given = name_complete 47 word shown slash_apart form in (given.named, given.shown))
