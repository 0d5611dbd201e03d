-- The delays that end at each pin, in lists.
use Rattle.std.specs.Prelude.{◌≡◌, ℕ, ◌<◌, ◌≤◌, List, length}
use Rattle.bud_syntax.specs.Ranges.{IsReadTime}
use Rattle.net_delays.specs.Alongs.{AreEndsFrom}
use Rattle.net_delays.specs.declared.alongs.Along.{Along}
use Rattle.net_delays.specs.declared.ends.Ends.{Ends}

pub record AreEnds (alongs : List Along) (pins : ℕ) (ends : Ends) : Type 0 where
  pub pins_are : length ends.first.items ≡ pins
  pub size : length ends.next.items ≡ length alongs
  pub lists : AreEndsFrom alongs 0 ends.first.items ends.next.items

-- a delay whose pins are below a number, in range
pub record IsSmallAlong (pins : ℕ) (x : Along) : Type 0 where
  pub from : x.from.0 < pins
  pub time : IsReadTime x.value
