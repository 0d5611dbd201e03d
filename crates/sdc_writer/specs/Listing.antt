-- How the names of a kind are listed, object by object.
use Rattle.std.specs.Prelude.{ℕ, Bool, true, false, ◌||◌, ◌&&◌, List, [], ◌∷◌, ◌++◌, Option, Some, None, codes}
use Rattle.std.specs.List.{flat_map}
use Rattle.line_text.specs.Written.{spaced}
use Rattle.bud_syntax.specs.declared.constraints.Object.{Object}
use Rattle.sdc_writer.specs.declared.objects.ObjectKind.{ObjectKind}
use Rattle.sdc_writer.specs.declared.objects.ObjectKind.TheVariants.{Ports, Pins, Clocks}
use Rattle.sdc_writer.specs.Texts.{getter, names_as, found_by}
use Rattle.sdc_writer.specs.Printable.{has_some}

abbrev pub listed : Option (List ℕ) → List (List ℕ)
listed None = []
listed (Some name) = name ∷ []

-- a list of names is begun by the first
abbrev pub name_behind : ObjectKind → Bool → List ℕ → List ℕ
name_behind kind true name = spaced name
name_behind kind false name = codes " [" ++ (getter kind ++ (codes " {" ++ name))

-- what is left to write, where these names are left
abbrev pub names_left : ObjectKind → Bool → List (List ℕ) → List ℕ
names_left kind true names = flat_map spaced names ++ codes "}]"
names_left kind false names = flat_map spaced (found_by kind names)

abbrev pub kinds_of : List Object → List (List ℕ)
kinds_of objects = found_by Ports (names_as Ports objects) ++ (found_by Pins (names_as Pins objects) ++ found_by Clocks (names_as Clocks objects))

abbrev pub are_mixed : List Object → Bool
are_mixed objects =
    (has_some (names_as Ports objects) && (has_some (names_as Pins objects) || has_some (names_as Clocks objects))) || (has_some (names_as Pins objects) && has_some (names_as Clocks objects))
