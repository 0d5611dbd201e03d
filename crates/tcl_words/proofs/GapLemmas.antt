-- White space at the front.
use Rattle.std.proofs.Common.{◌≡◌, true, false, List, [], ◌∷◌, ◌++◌, refl, sym, ap, ◌∙◌}
use Rattle.std.proofs.lemmas.Bool.{and_parts}
use Rattle.std.specs.List.{list_all}
use Rattle.text_scan.proofs.Binds.{by_test}
use Rattle.tcl_words.specs.Characters.{is_gap, is_end}
use Rattle.tcl_words.specs.Commands.{behind_gap}
use Rattle.tcl_words.specs.Scanning.{ends_by}
use Rattle.tcl_words.specs.declared.characters.Character.{Character}
use Rattle.tcl_words.specs.declared.characters.Scope.{Scope}
use Rattle.tcl_words.proofs.CharacterLemmas.{end_no_gap}

-- the white space at the front
pub record IsGapped (scope : Scope) (cs : List Character) : Type 0 where
  pub gap : List Character
  pub split : cs ≡ gap ++ behind_gap scope cs
  pub blank : list_all (is_gap scope) gap ≡ true

pub gap_split : (scope : Scope) (cs : List Character) → IsGapped scope cs
gap_split scope [] = record { gap = []; split = refl; blank = refl }
gap_split scope (c ∷ cs) =
    by_test (is_gap scope c)
    (λ is. let given = gap_split scope cs in record { gap = c ∷ given.gap; split = rw is (ap (λ xs. c ∷ xs) given.split); blank = rw is given.blank })
    (λ isnt. record { gap = []; split = rw isnt refl; blank = refl })

pub gap_passed : (scope : Scope) (gap rest : List Character) → list_all (is_gap scope) gap ≡ true → behind_gap scope (gap ++ rest) ≡ behind_gap scope rest
gap_passed scope [] rest blank = refl
gap_passed scope (c ∷ gap) rest blank =
    let parts = and_parts (is_gap scope c) (list_all (is_gap scope) gap) blank in
    rw parts.0 (gap_passed scope gap rest parts.1)

pub behind_twice : (scope : Scope) (cs : List Character) → behind_gap scope (behind_gap scope cs) ≡ behind_gap scope cs
behind_twice scope [] = refl
behind_twice scope (c ∷ cs) =
    by_test (is_gap scope c)
    (λ is. rw is (behind_twice scope cs))
    (λ isnt. rw isnt (rw isnt refl))

-- no white space stands before an end
pub end_kept : (scope : Scope) (rest : List Character) → ends_by (is_end scope) rest ≡ true → behind_gap scope rest ≡ rest
end_kept scope [] ends = refl
end_kept scope (c ∷ rest) ends = rw (end_no_gap scope c ends) refl

-- where none stands at the front, there is none to pass
pub no_gap : (scope : Scope) (gap rest : List Character) → list_all (is_gap scope) gap ≡ true → behind_gap scope (gap ++ rest) ≡ gap ++ rest → (first : Character) (others : List Character) → gap ++ rest ≡ first ∷ others →
    is_gap scope first ≡ false → gap ≡ []
no_gap scope [] rest blank kept first others is isnt = refl
no_gap scope (c ∷ gap) rest blank kept first others is isnt =
    let parts = and_parts (is_gap scope c) (list_all (is_gap scope) gap) blank in
    let same : c ≡ first = cc in
    absurd (let wrong : true ≡ false = sym parts.0 ∙ ap (is_gap scope) same ∙ isnt in cc)
