-- Lines as writers spell them.
use Rattle.std.specs.Prelude.{ℕ, ◌||◌, ◌&&◌, Bool, not, List, [], ◌∷◌, ◌++◌}
use Rattle.std.specs.List.{flat_map, list_all}
use Rattle.line_text.specs.Parts.{is_empty, is_blank, is_feed, begins_comment}

-- a field behind a space
abbrev pub spaced : List ℕ → List ℕ
spaced field = 32 ∷ field

-- a title, the fields behind it, and a line feed
abbrev pub written : List ℕ → List (List ℕ) → List ℕ
written title fields = title ++ (flat_map spaced fields ++ 10 ∷ [])

-- these bytes may stand as a field: there is one, and none of them is a blank or a line feed
abbrev pub is_field : List ℕ → Bool
is_field bytes = not (is_empty bytes) && list_all (λ b. not (is_blank b || is_feed b)) bytes

-- they may begin a line
abbrev pub is_title : List ℕ → Bool
is_title bytes = is_field bytes && not (begins_comment bytes)
