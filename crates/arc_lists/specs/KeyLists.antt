-- Lists of keys, one a node.
use Rattle.std.specs.Prelude.{ℕ, List, [], slice_index_or}

abbrev pub keys_at : List (List ℕ) → ℕ → List ℕ
keys_at lists v = slice_index_or lists v []
