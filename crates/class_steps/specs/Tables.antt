-- Classes that are found by their keys.
use Rattle.std.specs.Prelude.{◌≡◌, ℕ, ◌<◌, ◌==◌, List, length, Option, None, slice_index_or}
use Rattle.std.specs.Map.{lookup}
use Rattle.bud_design.specs.declared.layers.Class.{Class}
use Rattle.class_steps.specs.Keys.{key_in, last_below}

abbrev pub link_at : List (Option ℕ) → ℕ → Option ℕ
link_at links c = slice_index_or links c None

-- the last class of each key, and before each class the one before it of the same key
pub record AreLinked (classes : List Class) (heads : List (ℕ × ℕ)) (links : List (Option ℕ)) : Type 0 where
  pub size : length links ≡ length classes
  pub last : (key : ℕ) → lookup (λ k. key == k) heads ≡ last_below (key_in classes) (length classes) key
  pub before : (c : ℕ) → c < length classes → link_at links c ≡ last_below (key_in classes) c (key_in classes c)
