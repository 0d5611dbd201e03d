-- Objects as one word, and what it is read as.
use Rattle.std.proofs.Common.{◌≡◌, ℕ, ◌+◌, Bool, true, false, List, [], ◌∷◌, ◌++◌, length, map, Some, None, Ok, codes, refl, sym, ap, ◌∙◌, subst}
use Rattle.std.proofs.lemmas.Bool.{and_parts}
use Rattle.std.proofs.lemmas.List.{append-nil}
use Rattle.std.specs.List.{list_all, AllByRecursion}
use Rattle.tcl_words.specs.declared.words.Word.{Word}
use Rattle.tcl_words.specs.declared.words.WordKind.TheVariants.{Braced, Bracket}
use Rattle.bud_syntax.specs.declared.constraints.Object.{Object}
use Rattle.bud_syntax.specs.declared.constraints.Object.TheVariants as object
use Rattle.sdc_reader.specs.declared.opened.Found.{Found}
use Rattle.sdc_reader.specs.declared.opened.Finds.{Finds}
use Rattle.sdc_reader.specs.declared.opened.NameKind.{NameKind}
use Rattle.sdc_reader.specs.declared.opened.NameKind.TheVariants as name_kind
use Rattle.sdc_reader.specs.declared.opened.ObjectCommand.TheVariants.{Get}
use Rattle.sdc_reader.specs.declared.opened.Opened.{Opened}
use Rattle.sdc_reader.specs.Brackets.{object_command, named_object, listed, inside_of, opened, got, followed}
use Rattle.sdc_reader.specs.Values.{taken, objects, finds_of, named_objects, object_word}
use Rattle.sdc_reader.specs.Words.{is_option}
use Rattle.sdc_writer.specs.declared.objects.ObjectKind.{ObjectKind}
use Rattle.sdc_writer.specs.declared.objects.ObjectKind.TheVariants.{Ports, Pins, Clocks}
use Rattle.sdc_writer.specs.Texts.{words, braced, bracketed, getter, names_as, found_by, as_word, object_word as written_word}
use Rattle.sdc_writer.specs.Printable.{has_some, is_kept_name, are_in_order, are_written}
use Rattle.sdc_writer.proofs.PlainWords.{is_plain_word, IsKeptText, kept_words, name_is_kept}
use Rattle.sdc_writer.proofs.Elements.{name_elements, elements_are}
use Rattle.sdc_writer.proofs.Rows.{Row, texts, forest_at, IsFine}
use Rattle.sdc_writer.proofs.Rows.Row.{nothing, bare, braces, brackets}

-- ---- the row of objects
-- the command that finds objects of one kind, before others
abbrev pub kind_row : ObjectKind → List (List ℕ) → Row → Row
kind_row kind [] row = row
kind_row kind (name ∷ names) row = brackets (bare (getter kind) (braces (words (name ∷ names)) nothing)) row

abbrev kinds_row : List (List ℕ) → List (List ℕ) → List (List ℕ) → Row → Row
kinds_row ports pins clocks row = kind_row Ports ports (kind_row Pins pins (kind_row Clocks clocks row))

abbrev list_row : List (List ℕ) → List (List ℕ) → List (List ℕ) → Row → Row
list_row ports pins clocks row = brackets (bare (codes "list") (kinds_row ports pins clocks nothing)) row

-- a list where there are several kinds
abbrev names_row : List (List ℕ) → List (List ℕ) → List (List ℕ) → Row → Row
names_row [] [] clocks row = kind_row Clocks clocks row
names_row [] (v ∷ vs) [] row = kind_row Pins (v ∷ vs) row
names_row [] (v ∷ vs) (c ∷ cs) row = list_row [] (v ∷ vs) (c ∷ cs) row
names_row (p ∷ ps) [] [] row = kind_row Ports (p ∷ ps) row
names_row (p ∷ ps) [] (c ∷ cs) row = list_row (p ∷ ps) [] (c ∷ cs) row
names_row (p ∷ ps) (v ∷ vs) clocks row = list_row (p ∷ ps) (v ∷ vs) clocks row

abbrev pub object_row : List Object → Row → Row
object_row os row = names_row (names_as Ports os) (names_as Pins os) (names_as Clocks os) row

abbrev as_words : List (List ℕ) → List (List ℕ) → List (List ℕ) → List (List ℕ)
as_words ports pins clocks = as_word (found_by Ports ports ++ (found_by Pins pins ++ found_by Clocks clocks))

names_text : (ports pins clocks : List (List ℕ)) (row : Row) → texts (names_row ports pins clocks row) ≡ as_words ports pins clocks ++ texts row
names_text [] [] [] row = refl
names_text [] [] (c ∷ cs) row = refl
names_text [] (v ∷ vs) [] row = refl
names_text [] (v ∷ vs) (c ∷ cs) row = refl
names_text (p ∷ ps) [] [] row = refl
names_text (p ∷ ps) [] (c ∷ cs) row = refl
names_text (p ∷ ps) (v ∷ vs) [] row = refl
names_text (p ∷ ps) (v ∷ vs) (c ∷ cs) row = refl

pub objects_text : (os : List Object) (row : Row) → texts (object_row os row) ≡ written_word os ++ texts row
objects_text os row = names_text (names_as Ports os) (names_as Pins os) (names_as Clocks os) row

-- ---- names of objects
abbrev kind_of : ObjectKind → NameKind
kind_of Ports = name_kind.Ports
kind_of Pins = name_kind.Pins
kind_of Clocks = name_kind.Clocks

abbrev named : ObjectKind → List ℕ → Object
named Ports name = object.Ports name
named Pins name = object.Pins name
named Clocks name = object.Clocks name

abbrev by_names : List (List ℕ) → List (List ℕ) → List (List ℕ) → List Object
by_names ports pins clocks = map (named Ports) ports ++ (map (named Pins) pins ++ map (named Clocks) clocks)

abbrev are_kept : List (List ℕ) → Type 0
are_kept names = list_all is_kept_name names ≡ true

-- objects with names, by kind
pub record AreByKind (os : List Object) : Type 0 where
  pub ports : list_all is_kept_name (names_as Ports os) ≡ true
  pub pins : list_all is_kept_name (names_as Pins os) ≡ true
  pub clocks : list_all is_kept_name (names_as Clocks os) ≡ true
  pub are : by_names (names_as Ports os) (names_as Pins os) (names_as Clocks os) ≡ os

-- clocks alone
record AreClocks (os : List Object) : Type 0 where
  ports : names_as Ports os ≡ []
  pins : names_as Pins os ≡ []
  clocks : list_all is_kept_name (names_as Clocks os) ≡ true
  are : map (named Clocks) (names_as Clocks os) ≡ os

-- pins and clocks
record ArePins (os : List Object) : Type 0 where
  ports : names_as Ports os ≡ []
  pins : list_all is_kept_name (names_as Pins os) ≡ true
  clocks : list_all is_kept_name (names_as Clocks os) ≡ true
  are : map (named Pins) (names_as Pins os) ++ map (named Clocks) (names_as Clocks os) ≡ os

clocks_on : (os : List Object) → are_in_order 2 os ≡ true → AreClocks os
clocks_on [] is = record { ports = refl; pins = refl; clocks = refl; are = refl }
clocks_on (object.Ports name ∷ os) is = absurd (cc)
clocks_on (object.Pins name ∷ os) is = absurd (cc)
clocks_on (object.Cells name ∷ os) is = absurd (cc)
clocks_on (object.Any name ∷ os) is = absurd (cc)
clocks_on (object.AllInputs ∷ os) is = absurd (cc)
clocks_on (object.AllOutputs ∷ os) is = absurd (cc)
clocks_on (object.AllClocks ∷ os) is = absurd (cc)
clocks_on (object.Clocks name ∷ os) is =
    let parts = and_parts (is_kept_name name) (are_in_order 2 os) is in
    let rest = clocks_on os parts.1 in
    record { ports = rest.ports; pins = rest.pins; clocks = rw (parts.0, rest.clocks) refl; are = ap (λ xs. object.Clocks name ∷ xs) rest.are }

pins_on : (os : List Object) → are_in_order 1 os ≡ true → ArePins os
pins_on [] is = record { ports = refl; pins = refl; clocks = refl; are = refl }
pins_on (object.Ports name ∷ os) is = absurd (cc)
pins_on (object.Cells name ∷ os) is = absurd (cc)
pins_on (object.Any name ∷ os) is = absurd (cc)
pins_on (object.AllInputs ∷ os) is = absurd (cc)
pins_on (object.AllOutputs ∷ os) is = absurd (cc)
pins_on (object.AllClocks ∷ os) is = absurd (cc)
pins_on (object.Pins name ∷ os) is =
    let parts = and_parts (is_kept_name name) (are_in_order 1 os) is in
    let rest = pins_on os parts.1 in
    record { ports = rest.ports; pins = rw (parts.0, rest.pins) refl; clocks = rest.clocks; are = ap (λ xs. object.Pins name ∷ xs) rest.are }
pins_on (object.Clocks name ∷ os) is =
    let parts = and_parts (is_kept_name name) (are_in_order 2 os) is in
    let rest = clocks_on os parts.1 in
    record { ports = rest.ports; pins = rw rest.pins refl; clocks = rw (parts.0, rest.clocks) refl; are = rw rest.pins (ap (λ xs. object.Clocks name ∷ xs) rest.are) }

pub by_kind : (os : List Object) → are_written os ≡ true → AreByKind os
by_kind [] is = record { ports = refl; pins = refl; clocks = refl; are = refl }
by_kind (object.Cells name ∷ os) is = absurd (cc)
by_kind (object.Any name ∷ os) is = absurd (cc)
by_kind (object.AllInputs ∷ os) is = absurd (cc)
by_kind (object.AllOutputs ∷ os) is = absurd (cc)
by_kind (object.AllClocks ∷ os) is = absurd (cc)
by_kind (object.Ports name ∷ os) is =
    let parts = and_parts (is_kept_name name) (are_in_order 0 os) is in
    let rest = by_kind os parts.1 in
    record { ports = rw (parts.0, rest.ports) refl; pins = rest.pins; clocks = rest.clocks; are = ap (λ xs. object.Ports name ∷ xs) rest.are }
by_kind (object.Pins name ∷ os) is =
    let parts = and_parts (is_kept_name name) (are_in_order 1 os) is in
    let rest = pins_on os parts.1 in
    record { ports = rw rest.ports refl; pins = rw (parts.0, rest.pins) refl; clocks = rest.clocks; are = rw rest.ports (ap (λ xs. object.Pins name ∷ xs) rest.are) }
by_kind (object.Clocks name ∷ os) is =
    let parts = and_parts (is_kept_name name) (are_in_order 2 os) is in
    let rest = clocks_on os parts.1 in
    record { ports = rw rest.ports refl; pins = rw rest.pins refl; clocks = rw (parts.0, rest.clocks) refl; are = rw (rest.ports, rest.pins) (ap (λ xs. object.Clocks name ∷ xs) rest.are) }

-- ---- the row is fine
all_kept : (names : List (List ℕ)) → are_kept names → AllByRecursion IsKeptText names
all_kept [] all = tt
all_kept (name ∷ names) all =
    let parts = and_parts (is_kept_name name) (list_all is_kept_name names) all in
    (name_is_kept name parts.0, all_kept names parts.1)

getter_plain : (kind : ObjectKind) → is_plain_word (getter kind) ≡ true
getter_plain Ports = refl
getter_plain Pins = refl
getter_plain Clocks = refl

kind_fine : (kind : ObjectKind) (names : List (List ℕ)) (row : Row) → are_kept names → IsFine row → IsFine (kind_row kind names row)
kind_fine kind [] row kept fine = fine
kind_fine kind (name ∷ names) row kept fine = ((getter_plain kind, (kept_words (name ∷ names) (all_kept (name ∷ names) kept), tt)), fine)

list_fine : (ports pins clocks : List (List ℕ)) (row : Row) → are_kept ports → are_kept pins → are_kept clocks → IsFine row → IsFine (list_row ports pins clocks row)
list_fine ports pins clocks row first second third fine =
    ((refl, kind_fine Ports ports (kind_row Pins pins (kind_row Clocks clocks nothing)) first (kind_fine Pins pins (kind_row Clocks clocks nothing) second (kind_fine Clocks clocks nothing third tt))), fine)

names_fine : (ports pins clocks : List (List ℕ)) (row : Row) → are_kept ports → are_kept pins → are_kept clocks → IsFine row → IsFine (names_row ports pins clocks row)
names_fine [] [] clocks row first second third fine = kind_fine Clocks clocks row third fine
names_fine [] (v ∷ vs) [] row first second third fine = kind_fine Pins (v ∷ vs) row second fine
names_fine [] (v ∷ vs) (c ∷ cs) row first second third fine = list_fine [] (v ∷ vs) (c ∷ cs) row first second third fine
names_fine (p ∷ ps) [] [] row first second third fine = kind_fine Ports (p ∷ ps) row first fine
names_fine (p ∷ ps) [] (c ∷ cs) row first second third fine = list_fine (p ∷ ps) [] (c ∷ cs) row first second third fine
names_fine (p ∷ ps) (v ∷ vs) clocks row first second third fine = list_fine (p ∷ ps) (v ∷ vs) clocks row first second third fine

pub objects_fine : (os : List Object) (row : Row) → are_written os ≡ true → IsFine row → IsFine (object_row os row)
objects_fine os row written fine =
    let kinds = by_kind os written in
    names_fine (names_as Ports os) (names_as Pins os) (names_as Clocks os) row kinds.ports kinds.pins kinds.clocks fine

-- ---- what is found
-- these objects are found, and nothing is refused
record Find (ports : Bool) (os : List Object) (finds : Finds) : Type 0 where
  refusal : finds.refusal ≡ None
  found : map (taken ports) finds.found ≡ os

getter_is : (kind : ObjectKind) → object_command (getter kind) ≡ Some (Get (kind_of kind))
getter_is Ports = refl
getter_is Pins = refl
getter_is Clocks = refl

taken_one : (ports : Bool) (kind : ObjectKind) (at : ℕ) (name : List ℕ) → taken ports (record { at = at; object = named_object (kind_of kind) name }) ≡ named kind name
taken_one true Ports at name = refl
taken_one true Pins at name = refl
taken_one true Clocks at name = refl
taken_one false Ports at name = refl
taken_one false Pins at name = refl
taken_one false Clocks at name = refl

taken_all : (ports : Bool) (kind : ObjectKind) (at : ℕ) (names : List (List ℕ)) → map (taken ports) (map (λ name. record { at = at; object = named_object (kind_of kind) name }) names) ≡ map (named kind) names
taken_all ports kind at [] = refl
taken_all ports kind at (name ∷ names) = rw (taken_one ports kind at name, taken_all ports kind at names) refl

abbrev names_word : ℕ → List (List ℕ) → Word
names_word at names = record { at = at; kind = Braced; text = words names }

got_all : (ports : Bool) (kind : ObjectKind) (at place : ℕ) (names : List (List ℕ)) → are_kept names → Find ports (map (named kind) names) (got (kind_of kind) at (forest_at place (braces (words names) nothing)))
got_all ports kind at place names kept = record {
  refusal = refl;
  found = ap (λ xs. map (taken ports) (map (λ name. record { at = place; object = named_object (kind_of kind) name }) xs)) (elements_are names (name_elements names kept)) ∙ taken_all ports kind place names;
}

found_behind : (ports : Bool) (first others : List Object) (a b : Finds) → Find ports first a → Find ports others b → Find ports (first ++ others) (followed a b)
found_behind ports first others a b one two = record {
  refusal = rw one.refusal two.refusal;
  found = rw one.refusal (map_both a.found b.found ∙ ap (λ xs. xs ++ map (taken ports) b.found) one.found ∙ ap (λ xs. first ++ xs) two.found);
}
  where
    map_both : (xs ys : List Found) → map (taken ports) (xs ++ ys) ≡ map (taken ports) xs ++ map (taken ports) ys
    map_both [] ys = refl
    map_both (x ∷ xs) ys = ap (λ zs. taken ports x ∷ zs) (map_both xs ys)

kind_listed : (ports : Bool) (kind : ObjectKind) (names : List (List ℕ)) (row : Row) (others : List Object) → are_kept names → ((at : ℕ) → Find ports others (listed (forest_at at row))) →
    (at : ℕ) → Find ports (map (named kind) names ++ others) (listed (forest_at at (kind_row kind names row)))
unfolding listed
kind_listed ports kind [] row others kept finds at = finds at
kind_listed ports kind (name ∷ names) row others kept finds at =
    let next = at + length (bracketed (getter kind ∷ braced (words (name ∷ names)) ∷ [])) + 1 in
    rw (getter_is kind)
    (found_behind ports (map (named kind) (name ∷ names)) others (got (kind_of kind) (at + 1) (forest_at (at + 1 + length (getter kind) + 1) (braces (words (name ∷ names)) nothing))) (listed (forest_at next row))
    (got_all ports kind (at + 1) (at + 1 + length (getter kind) + 1) (name ∷ names) kept) (finds next))

nothing_listed : (ports : Bool) (at : ℕ) → Find ports [] (listed (forest_at at nothing))
unfolding listed
nothing_listed ports at = record { refusal = refl; found = refl }

-- ---- what a word of objects gives
-- the first word of this row gives these objects, and the others are those of the rest
pub record IsObjects (os : List Object) (at : ℕ) (whole rest : Row) : Type 0 where
  pub word : Opened
  pub next : ℕ
  pub are : opened (forest_at at whole) ≡ word ∷ opened (forest_at next rest)
  pub no_option : is_option word.word ≡ false
  pub given : (ports : Bool) → object_word ports true word ≡ Ok os

objects_given : (ports : Bool) (os : List Object) (finds : Finds) (o : Opened) → finds_of o ≡ Ok finds → Find ports os finds → object_word ports true o ≡ Ok os
unfolding object_word named_objects objects
objects_given ports os finds o is find = rw (is, find.refusal, find.found) refl

kind_given : (kind : ObjectKind) (name : List ℕ) (names : List (List ℕ)) (at : ℕ) (row : Row) → are_kept (name ∷ names) → IsObjects (map (named kind) (name ∷ names)) at (kind_row kind (name ∷ names) row) row
unfolding finds_of
kind_given kind name names at row kept =
    let inside = bare (getter kind) (braces (words (name ∷ names)) nothing) in
    let place = at + 1 + length (getter kind) + 1 in
    record {
      word = record { word = record { at = at; kind = Bracket; text = words (texts inside) }; inside = Some (inside_of (forest_at (at + 1) inside)) };
      next = at + length (bracketed (texts inside)) + 1;
      are = refl;
      no_option = refl;
      given = λ ports.
          objects_given ports (map (named kind) (name ∷ names)) (got (kind_of kind) (at + 1) (forest_at place (braces (words (name ∷ names)) nothing))) _ (rw (getter_is kind) refl)
          (got_all ports kind (at + 1) place (name ∷ names) kept);
    }

list_given : (ports pins clocks : List (List ℕ)) (at : ℕ) (row : Row) → are_kept ports → are_kept pins → are_kept clocks →
    IsObjects (map (named Ports) ports ++ (map (named Pins) pins ++ (map (named Clocks) clocks ++ []))) at (list_row ports pins clocks row) row
unfolding finds_of
list_given ports pins clocks at row first second third =
    let kinds = kinds_row ports pins clocks nothing in
    let inside = bare (codes "list") kinds in
    let place = at + 1 + 4 + 1 in
    record {
      word = record { word = record { at = at; kind = Bracket; text = words (texts inside) }; inside = Some (inside_of (forest_at (at + 1) inside)) };
      next = at + length (bracketed (texts inside)) + 1;
      are = refl;
      no_option = refl;
      given = λ as_ports.
          objects_given as_ports _ (listed (forest_at place kinds)) _ refl
          (kind_listed as_ports Ports ports (kind_row Pins pins (kind_row Clocks clocks nothing)) _ first
          (kind_listed as_ports Pins pins (kind_row Clocks clocks nothing) _ second (kind_listed as_ports Clocks clocks nothing [] third (nothing_listed as_ports))) place);
    }

names_given : (ports pins clocks : List (List ℕ)) (at : ℕ) (row : Row) → are_kept ports → are_kept pins → are_kept clocks → has_some (by_names ports pins clocks) ≡ true →
    IsObjects (by_names ports pins clocks) at (names_row ports pins clocks row) row
names_given [] [] [] at row first second third some = absurd (cc)
names_given [] [] (c ∷ cs) at row first second third some = kind_given Clocks c cs at row third
names_given [] (v ∷ vs) [] at row first second third some = subst (λ xs. IsObjects xs at (kind_row Pins (v ∷ vs) row) row) (sym (append-nil (map (named Pins) (v ∷ vs)))) (kind_given Pins v vs at row second)
names_given [] (v ∷ vs) (c ∷ cs) at row first second third some =
    subst (λ xs. IsObjects (map (named Pins) (v ∷ vs) ++ xs) at (list_row [] (v ∷ vs) (c ∷ cs) row) row) (append-nil (map (named Clocks) (c ∷ cs))) (list_given [] (v ∷ vs) (c ∷ cs) at row first second third)
names_given (p ∷ ps) [] [] at row first second third some = subst (λ xs. IsObjects xs at (kind_row Ports (p ∷ ps) row) row) (sym (append-nil (map (named Ports) (p ∷ ps)))) (kind_given Ports p ps at row first)
names_given (p ∷ ps) [] (c ∷ cs) at row first second third some =
    subst (λ xs. IsObjects (map (named Ports) (p ∷ ps) ++ xs) at (list_row (p ∷ ps) [] (c ∷ cs) row) row) (append-nil (map (named Clocks) (c ∷ cs))) (list_given (p ∷ ps) [] (c ∷ cs) at row first second third)
names_given (p ∷ ps) (v ∷ vs) clocks at row first second third some =
    subst (λ xs. IsObjects (map (named Ports) (p ∷ ps) ++ (map (named Pins) (v ∷ vs) ++ xs)) at (list_row (p ∷ ps) (v ∷ vs) clocks row) row) (append-nil (map (named Clocks) clocks)) (list_given (p ∷ ps) (v ∷ vs) clocks at row first second third)

pub objects_read : (os : List Object) (at : ℕ) (row : Row) → are_written os ≡ true → has_some os ≡ true → IsObjects os at (object_row os row) row
objects_read os at row written some =
    let kinds = by_kind os written in
    subst (λ xs. IsObjects xs at (object_row os row) row) kinds.are
    (names_given (names_as Ports os) (names_as Pins os) (names_as Clocks os) at row kinds.ports kinds.pins kinds.clocks (subst (λ xs. has_some xs ≡ true) (sym kinds.are) some))
