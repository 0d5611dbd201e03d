-- What readings and words of the code stand for.
use Rattle.std.specs.Prelude.{◌<◌, ◌≤◌, length}
use Rattle.verilog_reader.specs.Left.{Left, Word}
use Rattle.verilog_reader.specs.declared.readings.Reading.{Reading}
use Rattle.verilog_reader.specs.declared.spellings.Spelling.{Spelling}

abbrev pub left_of : Reading → Left
left_of r = record { text = r.text.now; tokens = r.tokens.now; leaf = r.leaf; breach = r.breach }

abbrev pub word_seen : Spelling → Word
word_seen word = record { kind = word.kind; at = word.at; bytes = word.bytes.now }

-- fewer tokens are left later
abbrev pub IsShorter : Reading → Reading → Type 0
IsShorter earlier later = length later.tokens.now < length earlier.tokens.now

-- no more tokens are left later
abbrev pub IsNoLonger : Reading → Reading → Type 0
IsNoLonger earlier later = length later.tokens.now ≤ length earlier.tokens.now
