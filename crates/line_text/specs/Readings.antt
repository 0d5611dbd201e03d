-- What readings stand for.
use Rattle.std.specs.Prelude.{◌≡◌, ◌≤◌}
use Rattle.text_scan.specs.Left.{Left}
use Rattle.line_text.specs.Parts.{Part, Row, fields, rows}
use Rattle.line_text.specs.Spans.{part_of, stop}
use Rattle.line_text.specs.declared.readings.Reading.{Reading}

-- of a line: the fields that are left
abbrev pub fields_left : Reading → Left Part
fields_left line = (fields (part_of line.rest), line.breach)

-- of a text: the rows that are left
abbrev pub rows_left : Reading → Left Row
rows_left text = (rows (part_of text.rest), text.breach)

-- the later reading stands further on in the same line or text
pub record GoesOn (earlier later : Reading) : Type 0 where
  pub order : earlier.rest.at ≤ later.rest.at
  pub stop_stays : stop later.rest ≡ stop earlier.rest
