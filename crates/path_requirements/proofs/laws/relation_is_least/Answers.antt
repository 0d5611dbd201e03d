use Rattle.path_requirements.proofs.RelationLaws.{IsRelation-relation, IsRelation-only}
use Rattle.path_requirements.proofs.laws.relation_is_least.Goals as goal

pub returns-clause-least : goal.returns-clause-least
returns-clause-least c = IsRelation-relation

pub returns-clause-only : goal.returns-clause-only
returns-clause-only c = IsRelation-only
