-- Entries of timing checks.
use Rattle.std.specs.Prelude.{ℕ, ◌||◌, Bool, codes, List, Option, Some, None, if◌then◌else◌}
use Rattle.text_scan.specs.Left.{Left, ◌>>=◌, next}
use Rattle.bud_syntax.specs.declared.edges.Edge.{Edge}
use Rattle.bud_syntax.specs.declared.delays.SdfKind.{SdfKind}
use Rattle.bud_syntax.specs.declared.delays.SdfKind.TheVariants.{Setup}
use Rattle.sdf_lex.specs.Tokens.{Token}
use Rattle.sdf_reader.specs.Marks.{is_keyword, opening, closing, opened, starts}
use Rattle.sdf_reader.specs.Nests.{balanced, lists, before_last}
use Rattle.sdf_reader.specs.Values.{value}
use Rattle.sdf_reader.specs.Entries.{port}

-- "(" COND [string] balanced port ")"
unfoldable pub conditional_port : ℕ → Left Token → Option ((Option Edge × List ℕ) × Left Token)
conditional_port divider left = do
  left ← opened (codes "COND") left
  left ← before_last left
  (port, left) ← port divider left
  left ← closing left
  Some (port, left)

-- a port of a check
unfoldable pub check_port : ℕ → Left Token → Option ((Option Edge × List ℕ) × Left Token)
check_port divider left = if starts (codes "COND") left then conditional_port divider left else port divider left

-- "(" SETUP tport tport value ")"; an edge on the data port has no effect
unfoldable pub setup : ℕ → ℕ → Left Token → Option (SdfKind × Left Token)
setup divider unit left = do
  left ← opened (codes "SETUP") left
  (pin, left) ← check_port divider left
  (clock, left) ← check_port divider left
  (value, left) ← value unit left
  left ← closing left
  Some (Setup pin.1 clock.1 clock.0 value, left)

-- "(" SETUPHOLD tport tport value value {"(" balanced ")"} ")"; the second value is that of the hold
unfoldable pub setup_hold : ℕ → ℕ → Left Token → Option (SdfKind × Left Token)
setup_hold divider unit left = do
  left ← opened (codes "SETUPHOLD") left
  (pin, left) ← check_port divider left
  (clock, left) ← check_port divider left
  (value_of_setup, left) ← value unit left
  (value_of_hold, left) ← value unit left
  left ← lists left
  left ← closing left
  Some (Setup pin.1 clock.1 clock.0 value_of_setup, left)

-- checks that have no effect
abbrev pub is_other_check : Token → Bool
is_other_check token =
    is_keyword (codes "HOLD") token || is_keyword (codes "RECOVERY") token || is_keyword (codes "REMOVAL") token || is_keyword (codes "RECREM") token
    || is_keyword (codes "WIDTH") token || is_keyword (codes "PERIOD") token || is_keyword (codes "SKEW") token || is_keyword (codes "NOCHANGE") token

-- "(" other balanced ")"
unfoldable pub other_check : Left Token → Option (Left Token)
other_check left = do
  left ← opening left
  (token, left) ← next left
  if is_other_check token then balanced left else None

-- with one that has an effect
abbrev pub effect : Option (SdfKind × Left Token) → Option (Option SdfKind × Left Token)
effect read = do
  (kind, left) ← read
  Some (Some kind, left)

abbrev pub no_effect : Option (Left Token) → Option (Option SdfKind × Left Token)
no_effect read = do
  left ← read
  Some (None, left)

-- an entry of a timing check: what it says, where it has an effect
unfoldable pub check : ℕ → ℕ → Left Token → Option (Option SdfKind × Left Token)
check divider unit left =
    if starts (codes "SETUP") left then effect (setup divider unit left)
    else (if starts (codes "SETUPHOLD") left then effect (setup_hold divider unit left)
    else no_effect (other_check left))
