-- What settings stand for.
use Rattle.sdf_reader.specs.Headers.{Set}
use Rattle.sdf_reader.specs.declared.settings.Settings.{Settings}

abbrev pub set_of : Settings → Set
set_of settings = (settings.divider, settings.unit)
