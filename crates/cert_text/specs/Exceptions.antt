-- The exceptions in the line of a class.
use Rattle.std.specs.Prelude.{ℕ, ◌==◌, Bool, List, [], ◌∷◌, Option, Some, None}
use Rattle.text_scan.specs.Left.{◌>>=◌, end_of}
use Rattle.line_text.specs.Parts.{Part, cut_at}
use Rattle.line_text.specs.Numbers.{count}
use Rattle.cert_text.specs.declared.certs.CertException.{CertException}

abbrev pub is_colon : ℕ → Bool
is_colon b = b == 58

-- nothing, or one number and nothing behind it
unfoldable pub steps : List Part → Option ℕ → Option (Option ℕ × Option ℕ)
steps [] breach = Some (None, breach)
steps (part ∷ parts) breach = do
  (n, left) ← count 0 4294967295 (part ∷ parts, breach)
  breach ← end_of left
  Some (Some n, breach)

-- a field N or N:S, whose numbers are from 0 to 2^32 - 1, each with its own offset
unfoldable pub exception : Part → Option ℕ → Option (CertException × Option ℕ)
exception field breach = do
  (number, left) ← count 0 4294967295 (cut_at is_colon field, breach)
  (steps, breach) ← steps left.0 left.1
  Some (record { number = number; steps = steps }, breach)

-- all the fields that are left
unfoldable pub exceptions : List Part → Option ℕ → Option (List CertException × Option ℕ)
exceptions [] breach = Some ([], breach)
exceptions (field ∷ fields) breach = do
  (x, breach) ← exception field breach
  (xs, last) ← exceptions fields breach
  Some (x ∷ xs, last)
