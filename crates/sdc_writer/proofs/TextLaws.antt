-- Words put one behind another.
use Rattle.std.proofs.Common.{◌≡◌, ◌&&◌, ◌||◌, Bool, true, false, ℕ, List, [], ◌∷◌, ◌++◌, codes, refl, ap, ◌∙◌, append_assoc}
use Rattle.std.specs.List.{flat_map}
use Rattle.std.proofs.lemmas.List.{append-nil}
use Rattle.line_text.specs.Written.{spaced}
use Rattle.bud_syntax.specs.declared.constraints.Object.{Object}
use Rattle.sdc_writer.specs.declared.objects.ObjectKind.TheVariants.{Ports, Pins, Clocks}
use Rattle.sdc_writer.specs.Texts.{braced, bracketed, line, names_as, found_by, as_word, object_word}
use Rattle.sdc_writer.specs.Listing.{kinds_of, are_mixed}
use Rattle.sdc_writer.specs.Printable.{has_some}

-- ---- objects of several kinds
abbrev kinds : List (List ℕ) → List (List ℕ) → List (List ℕ) → List (List ℕ)
kinds ports pins clocks = found_by Ports ports ++ (found_by Pins pins ++ found_by Clocks clocks)

abbrev mixed : List (List ℕ) → List (List ℕ) → List (List ℕ) → Bool
mixed ports pins clocks = (has_some ports && (has_some pins || has_some clocks)) || (has_some pins && has_some clocks)

one_word : (ports pins clocks : List (List ℕ)) → mixed ports pins clocks ≡ false → as_word (kinds ports pins clocks) ≡ kinds ports pins clocks
one_word [] [] [] is = refl
one_word [] [] (c ∷ cs) is = refl
one_word [] (v ∷ vs) [] is = refl
one_word [] (v ∷ vs) (c ∷ cs) is = absurd (cc)
one_word (p ∷ ps) [] [] is = refl
one_word (p ∷ ps) [] (c ∷ cs) is = absurd (cc)
one_word (p ∷ ps) (v ∷ vs) clocks is = absurd (cc)

list_word : (ports pins clocks : List (List ℕ)) → mixed ports pins clocks ≡ true → as_word (kinds ports pins clocks) ≡ bracketed (codes "list" ∷ kinds ports pins clocks) ∷ []
list_word [] [] [] is = absurd (cc)
list_word [] [] (c ∷ cs) is = absurd (cc)
list_word [] (v ∷ vs) [] is = absurd (cc)
list_word [] (v ∷ vs) (c ∷ cs) is = refl
list_word (p ∷ ps) [] [] is = absurd (cc)
list_word (p ∷ ps) [] (c ∷ cs) is = refl
list_word (p ∷ ps) (v ∷ vs) clocks is = refl

-- objects of one kind need no list
pub alone : (os : List Object) → are_mixed os ≡ false → object_word os ≡ kinds_of os
alone os is = one_word (names_as Ports os) (names_as Pins os) (names_as Clocks os) is

pub together : (os : List Object) → are_mixed os ≡ true → flat_map spaced (object_word os) ≡ spaced (bracketed (codes "list" ∷ kinds_of os))
together os is =
    ap (flat_map spaced) (list_word (names_as Ports os) (names_as Pins os) (names_as Clocks os) is) ∙ append-nil (spaced (bracketed (codes "list" ∷ kinds_of os)))

-- ---- lines
pub design_line : (out name : List ℕ) → ((out ++ codes "current_design") ++ spaced (braced name)) ++ 10 ∷ [] ≡ out ++ line (codes "current_design" ∷ (braced name ∷ []))
design_line out name = simp (append_assoc, append-nil)

-- the words of a clock
pub clock_line : (out name period edges : List ℕ) (sources : List ℕ) →
    (((((out ++ codes " -name") ++ spaced (braced name)) ++ (spaced (codes "-period") ++ spaced period)) ++ codes " -waveform") ++ spaced edges) ++ sources
    ≡ out ++ (spaced (codes "-name") ++ (spaced (braced name) ++ (spaced (codes "-period") ++ (spaced period ++ (spaced (codes "-waveform") ++ (spaced edges ++ sources))))))
clock_line out name period edges sources = simp append_assoc
