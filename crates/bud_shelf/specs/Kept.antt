-- The files that a list of names and contents stands for. At a name that stands twice the first counts.
use Rattle.std.specs.Prelude.{ℕ, Bool, List, [], ◌∷◌, string_bytes}
use Rattle.std.specs.Str.{bytes_eq}
use Rattle.bud_shelf.specs.declared.stored.Kept.{Kept}
use Rattle.bud_shelf.specs.Stored.{Stored, no_files, with_content}

abbrev pub stored_of : List Kept → Stored
stored_of [] = no_files
stored_of (file ∷ files) = with_content (stored_of files) (string_bytes file.name) file.content

abbrev pub has_name : List ℕ → Kept → Bool
has_name name file = bytes_eq name (string_bytes file.name)
