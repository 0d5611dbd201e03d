use Rattle.design_names.proofs.Pins.{pin_graphic}
use Rattle.design_names.proofs.laws.pin_names_are_graphic.Goals as goal

pub returns : goal.returns
returns c = record { graphic = pin_graphic }
