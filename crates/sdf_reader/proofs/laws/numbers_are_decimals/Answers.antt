use Rattle.sdf_reader.proofs.ListLaws.{number_sound, number_complete}
use Rattle.sdf_reader.proofs.laws.numbers_are_decimals.Goals as goal

pub returns-clause-sound : goal.returns-clause-sound
returns-clause-sound c = number_sound

pub returns-clause-complete : goal.returns-clause-complete
returns-clause-complete c = number_complete
