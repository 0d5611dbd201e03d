-- Elements that open and close, as parentheses do.
use Rattle.std.specs.Prelude.{◌≡◌, ℕ, zero, suc, Bool, true, false, List, [], ◌∷◌, ◌++◌, Option, Some, None, if◌then◌else◌}
use Rattle.text_scan.specs.Left.{◌>>=◌}

-- each element that opens has behind it one that closes, with a balanced list between them
pub data Balanced {A : Type 0} (opens closes : A → Bool) : List A → Type 0 where
  none : Balanced opens closes []
  plain : (x : A) (xs : List A) → opens x ≡ false → closes x ≡ false → Balanced opens closes xs → Balanced opens closes (x ∷ xs)
  nested : (x y : A) (inside behind : List A) → opens x ≡ true → opens y ≡ false → closes y ≡ true → Balanced opens closes inside → Balanced opens closes behind →
      Balanced opens closes (x ∷ (inside ++ y ∷ behind))

-- with one element more in front
abbrev pub onto : {A : Type 0} → A → Option (List A × List A) → Option (List A × List A)
onto x read = do
  (front, rest) ← read
  Some (x ∷ front, rest)

-- What stands before the element that closes what is open, and what stands behind it; `depth` counts what is open
-- besides. So a loop with a counter reads a balanced list up to its end.
unfoldable pub closed : {A : Type 0} → (A → Bool) → (A → Bool) → ℕ → List A → Option (List A × List A)
closed opens closes depth [] = None
closed opens closes zero (x ∷ xs) =
    if opens x then onto x (closed opens closes 1 xs)
    else (if closes x then Some ([], xs) else onto x (closed opens closes zero xs))
closed opens closes (suc depth) (x ∷ xs) =
    if opens x then onto x (closed opens closes (suc (suc depth)) xs)
    else (if closes x then onto x (closed opens closes depth xs) else onto x (closed opens closes (suc depth) xs))
