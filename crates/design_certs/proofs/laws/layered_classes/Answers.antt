use Rattle.design_certs.proofs.LayeredClasses.{few-classes, item-class}
use Rattle.design_certs.proofs.laws.layered_classes.Goals as goal

pub returns-clause-few : goal.returns-clause-few
returns-clause-few c = λ w policy layered layering sound. few-classes w policy layered layering sound

pub returns-clause-items : goal.returns-clause-items
returns-clause-items c = λ w policy layered layering sound i within. item-class w policy layered layering sound i within
