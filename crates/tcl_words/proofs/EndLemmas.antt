-- What stands behind words that aren't in brackets.
use Rattle.std.proofs.Common.{◌≡◌, ℕ, zero, suc, ◌<◌, ◌&&◌, not, Bool, true, false, Option, Some, None, List, [], ◌∷◌, ◌++◌, length, refl, sym, ap, ◌∙◌, subst, arith, append_assoc, length-append, if◌then◌else◌}
use Rattle.std.proofs.lemmas.Bool.{and_parts, and_from}
use Rattle.std.proofs.lemmas.Option.{same_Some}
use Rattle.std.proofs.lemmas.List.Folds.{list_all-append}
use Rattle.std.specs.List.{list_all}
use Rattle.text_scan.specs.Left.{◌>>=◌}
use Rattle.text_scan.specs.Nesting.{Balanced, closed, onto}
use Rattle.text_scan.proofs.Binds.{step, by_test}
use Rattle.text_scan.proofs.NestingLaws.{closed_complete, closed_sound}
use Rattle.tcl_words.specs.Characters.{is_byte, is_ascii, is_ordinary, is_digit, is_named, is_quotable}
use Rattle.tcl_words.specs.Words.{IsBare}
use Rattle.tcl_words.specs.Words.IsBare.{over, next, index}
use Rattle.tcl_words.specs.Scanning.{is_behind, ends_by, in_index, stage_of, stage_behind, bare_rest, quoted_rest, braced_rest}
use Rattle.tcl_words.specs.declared.characters.Character.{Character}
use Rattle.tcl_words.specs.declared.characters.Character.TheVariants.{Plain}
use Rattle.tcl_words.specs.declared.characters.Scope.{Scope}
use Rattle.tcl_words.specs.declared.characters.Scope.TheVariants.{Line, Brackets}
use Rattle.tcl_words.specs.declared.ends.Stage.{Stage}
use Rattle.tcl_words.specs.declared.ends.Stage.TheVariants.{Other, Name, Index, Digit}
use Rattle.tcl_words.proofs.CharacterLemmas.{byte_is, ordinary_is}

-- an index, from behind a digit or its bracket on
digits_passed : (scope : Scope) (digits cs : List Character) → list_all is_digit digits ≡ true → bare_rest scope Digit (digits ++ Plain 93 ∷ cs) ≡ bare_rest scope Name cs
unfolding bare_rest
digits_passed scope [] cs all = refl
digits_passed scope (d ∷ digits) cs all =
    let parts = and_parts (is_digit d) (list_all is_digit digits) all in
    rw parts.0 (digits_passed scope digits cs parts.1)

index_passed : (scope : Scope) (digits cs : List Character) → list_all is_digit digits ≡ true → 0 < length digits → bare_rest scope Index (digits ++ Plain 93 ∷ cs) ≡ bare_rest scope Name cs
unfolding bare_rest
index_passed scope [] cs all some = absurd (omega arith)
index_passed scope (d ∷ digits) cs all some =
    let parts = and_parts (is_digit d) (list_all is_digit digits) all in
    rw parts.0 (digits_passed scope digits cs parts.1)

index_begun : (scope : Scope) (cs : List Character) → bare_rest scope Name (Plain 91 ∷ cs) ≡ bare_rest scope Index cs
unfolding bare_rest
index_begun Line cs = refl
index_begun Brackets cs = refl

-- an ordinary character is passed
ordinary_passed : (scope : Scope) (named : Bool) (c : Character) (cs : List Character) → is_ordinary scope c ≡ true → bare_rest scope (stage_of named) (c ∷ cs) ≡ bare_rest scope (stage_of (is_named c)) cs
unfolding bare_rest
ordinary_passed scope true c cs is = (let given = ordinary_is scope c is in rw (given.inner.not_behind, is, given.no_bracket) refl)
ordinary_passed scope false c cs is = (let given = ordinary_is scope c is in rw (given.inner.not_behind, is) refl)

bare_over : (scope : Scope) (named : Bool) (rest : List Character) → ends_by (is_behind scope) rest ≡ true → bare_rest scope (stage_of named) rest ≡ Some rest
unfolding bare_rest
bare_over scope true [] ends = refl
bare_over scope false [] ends = refl
bare_over scope true (c ∷ rest) ends = rw ends refl
bare_over scope false (c ∷ rest) ends = rw ends refl

-- a bare word is passed as a whole
pub bare_complete : (scope : Scope) (named : Bool) (cs rest : List Character) → IsBare scope named cs → ends_by (is_behind scope) rest ≡ true → bare_rest scope (stage_of named) (cs ++ rest) ≡ Some rest
bare_complete scope _ _ rest (over named) ends = bare_over scope named rest ends
bare_complete scope _ _ rest (next named c cs is bare) ends = ordinary_passed scope named c (cs ++ rest) is ∙ bare_complete scope (is_named c) cs rest bare ends
bare_complete scope _ _ rest (index digits cs all some bare) ends =
    index_begun scope ((digits ++ Plain 93 ∷ cs) ++ rest)
    ∙ ap (λ xs. bare_rest scope Index xs) (append_assoc digits (Plain 93 ∷ cs) rest)
    ∙ index_passed scope digits (cs ++ rest) all some
    ∙ bare_complete scope true cs rest bare ends

-- how a bare word goes on at a stage
abbrev pub GoesOn : Scope → Stage → List Character → Type 0
GoesOn scope Other cs = IsBare scope false cs
GoesOn scope Name cs = IsBare scope true cs
GoesOn scope Index cs = IsBare scope true (Plain 91 ∷ cs)
GoesOn scope Digit cs = (digits : List Character) → list_all is_digit digits ≡ true → 0 < length digits → IsBare scope true (Plain 91 ∷ (digits ++ cs))

else_is : {A : Type 0} (test : Bool) (x y : A) → test ≡ false → (if test then x else y) ≡ y
else_is test x y e = rw e refl

stage_goes_on : (scope : Scope) (named : Bool) (cs : List Character) → GoesOn scope (stage_of named) cs → IsBare scope named cs
stage_goes_on scope true cs bare = bare
stage_goes_on scope false cs bare = bare

ordinary_goes_on : (scope : Scope) (named : Bool) (c : Character) (cs : List Character) (behind : Stage) → (if is_ordinary scope c then Some (stage_of (is_named c)) else None) ≡ Some behind → GoesOn scope behind cs → IsBare scope named (c ∷ cs)
ordinary_goes_on scope named c cs behind is goes =
    by_test (is_ordinary scope c)
    (λ ordinary. next named c cs ordinary (stage_goes_on scope (is_named c) cs (subst (λ (s : Stage). GoesOn scope s cs) (sym (same_Some _ _ (rw ordinary at is))) goes)))
    (λ isnt. absurd (let wrong = rw isnt at is in cc))

more_digits : (scope : Scope) (c : Character) (cs digits : List Character) → is_digit c ≡ true → list_all is_digit digits ≡ true →
    ((digits : List Character) → list_all is_digit digits ≡ true → 0 < length digits → IsBare scope true (Plain 91 ∷ (digits ++ cs))) → IsBare scope true (Plain 91 ∷ (digits ++ c ∷ cs))
more_digits scope c cs digits is all goes =
    let P : List Character → Type 0 = λ xs. IsBare scope true (Plain 91 ∷ xs) in
    let both : list_all is_digit (digits ++ c ∷ []) ≡ true = rw (list_all-append, all, is) refl in
    subst P (append_assoc digits (c ∷ []) cs) (goes (digits ++ c ∷ []) both (simp length-append (omega arith)))

goes_on_more : (scope : Scope) (stage behind : Stage) (c : Character) (cs : List Character) → stage_behind scope stage c ≡ Some behind → GoesOn scope behind cs → GoesOn scope stage (c ∷ cs)
goes_on_more scope Other behind c cs is goes = ordinary_goes_on scope false c cs behind is goes
goes_on_more scope Name behind c cs is goes =
    by_test (is_byte 91 c)
    (λ bracket.
    let first = byte_is 91 c bracket in
    let stage : Index ≡ behind = same_Some _ _ (rw bracket at is) in
    let given : IsBare scope true (Plain 91 ∷ cs) = subst (λ (s : Stage). GoesOn scope s cs) (sym stage) goes in
    subst (λ (d : Character). IsBare scope true (d ∷ cs)) (sym first) given)
    (λ other. ordinary_goes_on scope true c cs behind (sym (else_is (is_byte 91 c) _ _ other) ∙ is) goes)
goes_on_more scope Index behind c cs is goes =
    by_test (is_digit c)
    (λ digit.
    let stage : Digit ≡ behind = same_Some _ _ (rw digit at is) in
    more_digits scope c cs [] digit refl (subst (λ (s : Stage). GoesOn scope s cs) (sym stage) goes))
    (λ other. absurd (let wrong = rw other at is in cc))
goes_on_more scope Digit behind c cs is goes =
    by_test (is_digit c)
    (λ digit.
    let stage : Digit ≡ behind = same_Some _ _ (rw digit at is) in
    λ digits all some. more_digits scope c cs digits digit all (subst (λ (s : Stage). GoesOn scope s cs) (sym stage) goes))
    (λ other. by_test (is_byte 93 c)
    (λ bracket.
    let stage : Name ≡ behind = same_Some _ _ (rw (other, bracket) at is) in
    let given : IsBare scope true cs = subst (λ (s : Stage). GoesOn scope s cs) (sym stage) goes in
    λ digits all some. subst (λ (d : Character). IsBare scope true (Plain 91 ∷ (digits ++ d ∷ cs))) (sym (byte_is 93 c bracket)) (index digits cs all some given))
    (λ neither. absurd (let wrong = rw (other, neither) at is in cc)))

-- what is passed is a bare word
pub record IsPassed (scope : Scope) (stage : Stage) (cs rest : List Character) : Type 0 where
  pub source : List Character
  pub split : cs ≡ source ++ rest
  pub goes_on : GoesOn scope stage source
  pub ends : ends_by (is_behind scope) rest ≡ true

bare_none : (scope : Scope) (stage : Stage) → in_index stage ≡ false → GoesOn scope stage []
bare_none scope Other outside = over false
bare_none scope Name outside = over true
bare_none scope Index outside = absurd (cc)
bare_none scope Digit outside = absurd (cc)

not_true : (b : Bool) → not b ≡ true → b ≡ false
not_true true e = absurd (cc)
not_true false e = refl

pub bare_sound : (scope : Scope) (stage : Stage) (cs rest : List Character) → bare_rest scope stage cs ≡ Some rest → IsPassed scope stage cs rest
unfolding bare_rest
bare_sound scope stage [] rest found =
    by_test (in_index stage)
    (λ inside. absurd (let wrong = rw inside at found in cc))
    (λ outside.
    let same : [] ≡ rest = same_Some _ _ (rw outside at found) in
    subst (λ (r : List Character). IsPassed scope stage [] r) same (record { source = []; split = refl; goes_on = bare_none scope stage outside; ends = refl }))
bare_sound scope stage (c ∷ cs) rest found =
    by_test (not (in_index stage) && is_behind scope c)
    (λ over_is.
    let parts = and_parts (not (in_index stage)) (is_behind scope c) over_is in
    let same : c ∷ cs ≡ rest = same_Some _ _ (rw over_is at found) in
    subst (λ (r : List Character). IsPassed scope stage (c ∷ cs) r) same (record { source = []; split = refl; goes_on = bare_none scope stage (not_true (in_index stage) parts.0); ends = parts.1 }))
    (λ on.
    step (stage_behind scope stage c) _ _ (rw on at found) (λ behind is others.
    let given = bare_sound scope behind cs rest others in
    record { source = c ∷ given.source; split = ap (λ xs. c ∷ xs) given.split; goes_on = goes_on_more scope stage behind c given.source is given.goes_on; ends = given.ends }))

-- words in quotes
pub quoted_complete : (cs rest : List Character) → list_all is_quotable cs ≡ true → quoted_rest (cs ++ Plain 34 ∷ rest) ≡ Some rest
unfolding quoted_rest
quoted_complete [] rest all = refl
quoted_complete (c ∷ cs) rest all =
    let parts = and_parts (is_quotable c) (list_all is_quotable cs) all in
    let tests = and_parts (not (is_byte 34 c)) (not (is_byte 36 c)) parts.0 in
    rw (not_true (is_byte 34 c) tests.0, not_true (is_byte 36 c) tests.1) (quoted_complete cs rest parts.1)

-- the characters up to one that closes, which all pass a test
pub record IsClosedBy (b : ℕ) (test : Character → Bool) (cs rest : List Character) : Type 0 where
  pub inside : List Character
  pub split : cs ≡ inside ++ Plain b ∷ rest
  pub pass : list_all test inside ≡ true

pub quoted_sound : (cs rest : List Character) → quoted_rest cs ≡ Some rest → IsClosedBy 34 is_quotable cs rest
unfolding quoted_rest
quoted_sound [] rest found = absurd (cc)
quoted_sound (c ∷ cs) rest found =
    by_test (is_byte 34 c)
    (λ quote.
    let same : cs ≡ rest = same_Some _ _ (rw quote at found) in
    record { inside = []; split = ap (λ d. d ∷ cs) (byte_is 34 c quote) ∙ ap (λ xs. Plain 34 ∷ xs) same; pass = refl })
    (λ other. by_test (is_byte 36 c)
    (λ dollar. absurd (let wrong = rw (other, dollar) at found in cc))
    (λ neither.
    let given = quoted_sound cs rest (rw (other, neither) at found) in
    let quotable : is_quotable c ≡ true = rw (other, neither) refl in
    record { inside = c ∷ given.inside; split = ap (λ xs. c ∷ xs) given.split; pass = and_from _ _ quotable given.pass }))

-- words in braces: their end by a counter, without a byte past 127
abbrev guarded : List Character × List Character → Option (List Character)
guarded r = if list_all is_ascii r.0 then Some r.1 else None

onto_guarded : (c : Character) (read : Option (List Character × List Character)) → (onto c read >>= guarded) ≡ (if is_ascii c then (read >>= guarded) else None)
onto_guarded c None = by_test (is_ascii c) (λ is. rw is refl) (λ isnt. rw isnt refl)
onto_guarded c (Some r) = by_test (is_ascii c) (λ is. rw is refl) (λ isnt. rw isnt refl)

brace_ascii : (c : Character) → is_ascii c ≡ false → is_byte 125 c ≡ false
brace_ascii c isnt = by_test (is_byte 125 c) (λ brace. absurd (let wrong : true ≡ false = sym (ap is_ascii (byte_is 125 c brace)) ∙ isnt in cc)) (λ other. other)

braced_closed : (depth : ℕ) (cs : List Character) → braced_rest depth cs ≡ (closed (is_byte 123) (is_byte 125) depth cs >>= guarded)
unfolding braced_rest closed
braced_closed depth [] = refl
braced_closed zero (c ∷ cs) =
    by_test (is_ascii c)
    (λ ascii. by_test (is_byte 123 c)
    (λ opens. rw (ascii, opens) (braced_closed 1 cs ∙ sym (onto_guarded c _ ∙ rw ascii refl)))
    (λ other. by_test (is_byte 125 c)
    (λ closes. rw (ascii, other, closes) refl)
    (λ neither. rw (ascii, other, neither) (braced_closed zero cs ∙ sym (onto_guarded c _ ∙ rw ascii refl)))))
    (λ far. by_test (is_byte 123 c)
    (λ opens. rw (far, opens) (sym (onto_guarded c _ ∙ rw far refl)))
    (λ other. rw (far, other, brace_ascii c far) (sym (onto_guarded c _ ∙ rw far refl))))
braced_closed (suc depth) (c ∷ cs) =
    by_test (is_ascii c)
    (λ ascii. by_test (is_byte 123 c)
    (λ opens. rw (ascii, opens) (braced_closed (suc (suc depth)) cs ∙ sym (onto_guarded c _ ∙ rw ascii refl)))
    (λ other. by_test (is_byte 125 c)
    (λ closes. rw (ascii, other, closes) (braced_closed depth cs ∙ sym (onto_guarded c _ ∙ rw ascii refl)))
    (λ neither. rw (ascii, other, neither) (braced_closed (suc depth) cs ∙ sym (onto_guarded c _ ∙ rw ascii refl)))))
    (λ far. by_test (is_byte 123 c)
    (λ opens. rw (far, opens) (sym (onto_guarded c _ ∙ rw far refl)))
    (λ other. rw (far, other, brace_ascii c far) (sym (onto_guarded c _ ∙ rw far refl))))

pub braced_complete : (cs rest : List Character) → Balanced (is_byte 123) (is_byte 125) cs → list_all is_ascii cs ≡ true → braced_rest 0 (cs ++ Plain 125 ∷ rest) ≡ Some rest
braced_complete cs rest balanced ascii =
    braced_closed 0 (cs ++ Plain 125 ∷ rest)
    ∙ ap (λ read. read >>= guarded) (closed_complete (is_byte 123) (is_byte 125) cs rest (Plain 125) balanced refl refl)
    ∙ rw ascii refl

pub record IsBracedFront (cs rest : List Character) : Type 0 where
  pub inside : List Character
  pub split : cs ≡ inside ++ Plain 125 ∷ rest
  pub balanced : Balanced (is_byte 123) (is_byte 125) inside
  pub ascii : list_all is_ascii inside ≡ true

pub braced_sound : (cs rest : List Character) → braced_rest 0 cs ≡ Some rest → IsBracedFront cs rest
braced_sound cs rest found =
    step (closed (is_byte 123) (is_byte 125) 0 cs) guarded rest (sym (braced_closed 0 cs) ∙ found) (λ r is guard.
    let given = closed_sound (is_byte 123) (is_byte 125) cs r.0 r.1 is in
    by_test (list_all is_ascii r.0)
    (λ ascii.
    let same : r.1 ≡ rest = same_Some _ _ (rw ascii at guard) in
    record {
      inside = r.0;
      split = given.whole ∙ ap (λ d. r.0 ++ d ∷ r.1) (byte_is 125 given.by given.close_is) ∙ ap (λ xs. r.0 ++ Plain 125 ∷ xs) same;
      balanced = given.balanced;
      ascii = ascii;
    })
    (λ far. absurd (let wrong = rw far at guard in cc)))
