use Rattle.sdf_reader.proofs.ListLaws.{list_sound, list_complete}
use Rattle.sdf_reader.proofs.laws.lists_are_balanced.Goals as goal

pub returns-clause-sound : goal.returns-clause-sound
returns-clause-sound c = list_sound

pub returns-clause-complete : goal.returns-clause-complete
returns-clause-complete c = list_complete
