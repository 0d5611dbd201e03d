-- The parts that spans stand for.
use Rattle.std.specs.Prelude.{ℕ, ◌+◌, Bool, length}
use Rattle.line_text.specs.Parts.{Part, is_feed, is_blank}
use Rattle.line_text.specs.declared.spans.Span.{Span}
use Rattle.line_text.specs.declared.parts.Cut.{Cut}
use Rattle.line_text.specs.declared.parts.Cut.TheVariants.{Feeds, Blanks}

abbrev pub part_of : Span → Part
part_of span = record { at = span.at; bytes = span.bytes.now }

-- the offset behind the span's last byte
abbrev pub stop : Span → ℕ
stop span = span.at + length span.bytes.now

abbrev pub cuts : Cut → ℕ → Bool
cuts Feeds b = is_feed b
cuts Blanks b = is_blank b
