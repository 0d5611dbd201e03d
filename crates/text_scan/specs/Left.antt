-- What is left to read, and how productions read it from the left.
use Rattle.std.specs.Prelude.{ℕ, List, [], ◌∷◌, Option, Some, None, option_and_then, min}

-- the parts that are left, and the least offset so far of a breach of a rule that the loose form leaves out
abbrev pub Left : Type 0 → Type 0
Left A = List A × Option ℕ

-- a production is a `do` block: each line of it reads a part of what is left, and where one can't be read, the whole can't
infixl 10 ◌>>=◌
abbrev pub ◌>>=◌ : {A B : Type 0} → Option A → (A → Option B) → Option B
o >>= f = option_and_then f o

-- the first part
abbrev pub next : {A : Type 0} → Left A → Option (A × Left A)
next ([], breach) = None
next (part ∷ parts, breach) = Some (part, (parts, breach))

-- nothing is left; the least breach of all
abbrev pub end_of : {A : Type 0} → Left A → Option (Option ℕ)
end_of ([], breach) = Some breach
end_of (_ ∷ _, breach) = None

-- the lesser of two offsets, where there are any
abbrev pub lesser : Option ℕ → Option ℕ → Option ℕ
lesser None b = b
lesser (Some a) None = Some a
lesser (Some a) (Some b) = Some (min a b)

-- a breach at this offset
abbrev pub breached : {A : Type 0} → ℕ → Left A → Left A
breached at (parts, breach) = (parts, lesser breach (Some at))
