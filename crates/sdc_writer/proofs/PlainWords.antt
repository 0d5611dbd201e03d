-- Bare words of letters, digits, `-` and `_`, and texts that may stand in braces.
use Rattle.std.proofs.Common.{◌≡◌, ℕ, ◌==◌, ◌&&◌, ◌||◌, not, nat_le, Bool, true, false, List, [], ◌∷◌, ◌++◌, map, refl, sym, ap, ◌∙◌, subst, arith}
use Rattle.std.proofs.lemmas.Bool.{and_parts, eqb-true}
use Rattle.std.proofs.lemmas.Bool.Decides.{nat_tests}
use Rattle.std.proofs.lemmas.List.Folds.{list_all-append}
use Rattle.std.specs.List.{list_all, flat_map, AllByRecursion}
use Rattle.text_scan.proofs.Binds.{by_test}
use Rattle.text_scan.specs.Nesting.{Balanced}
use Rattle.text_scan.specs.Nesting.Balanced.{none, plain}
use Rattle.line_text.specs.Written.{spaced}
use Rattle.tcl_words.specs.Characters.{characters, is_byte, meaning, is_ascii, is_ordinary, is_named}
use Rattle.tcl_words.specs.Words.{IsBare, IsWord, opens_word}
use Rattle.tcl_words.specs.Words.IsBare.{over, next}
use Rattle.tcl_words.specs.Words.IsWord.{bare, braced as in_braces}
use Rattle.tcl_words.specs.declared.characters.Character.{Character}
use Rattle.tcl_words.specs.declared.characters.Character.TheVariants.{Plain, Escaped}
use Rattle.tcl_words.specs.declared.characters.Scope.{Scope}
use Rattle.tcl_words.specs.declared.characters.Scope.TheVariants.{Line, Brackets}
use Rattle.tcl_words.specs.declared.words.WordKind.TheVariants.{Bare, Braced}
use Rattle.tcl_words.proofs.CharacterLemmas.{spelling_characters}
use Rattle.sdc_reader.specs.Words.{is_empty, is_name_byte, is_clock_name}
use Rattle.sdc_writer.specs.Texts.{words, braced}
use Rattle.sdc_writer.specs.Printable.{has_some, is_visible, is_brace, is_kept, is_kept_name}
use Rattle.sdc_writer.proofs.ClosedTexts.{IsClosed, plain_on, escaped_on, closed_none, closed_plain, closed_escaped, closed_both, characters_braced}

abbrev pub is_plain : ℕ → Bool
is_plain b = (nat_le 48 b && nat_le b 57) || ((nat_le 65 b && nat_le b 90) || ((nat_le 97 b && nat_le b 122) || (b == 45 || b == 95)))

abbrev pub is_plain_word : List ℕ → Bool
is_plain_word text = has_some text && list_all is_plain text

pub not_true : (b : Bool) → not b ≡ true → b ≡ false
not_true true is = absurd (cc)
not_true false is = refl

-- ---- bare words
plain_no_slash : (b : ℕ) → is_plain b ≡ true → (b == 92) ≡ false
plain_no_slash b is = grind (arith, nat_tests)

plain_no_hash : (b : ℕ) → is_plain b ≡ true → (b == 35) ≡ false
plain_no_hash b is = grind (arith, nat_tests)

plain_opens_none : (b : ℕ) → is_plain b ≡ true → opens_word (Plain b) ≡ false
plain_opens_none b is = grind (arith, nat_tests)

plain_ordinary : (scope : Scope) (b : ℕ) → is_plain b ≡ true → is_ordinary scope (Plain b) ≡ true
plain_ordinary Line b is = grind (arith, nat_tests)
plain_ordinary Brackets b is = grind (arith, nat_tests)

characters_plain : (text : List ℕ) → list_all is_plain text ≡ true → characters text ≡ map (λ b. Plain b) text
unfolding characters
characters_plain [] all = refl
characters_plain (b ∷ bs) all =
    let parts = and_parts (is_plain b) (list_all is_plain bs) all in
    plain_on b bs (plain_no_slash b parts.0) ∙ ap (λ cs. Plain b ∷ cs) (characters_plain bs parts.1)

plain_closed : (text : List ℕ) → list_all is_plain text ≡ true → IsClosed text
plain_closed [] all = closed_none
plain_closed (b ∷ bs) all =
    let parts = and_parts (is_plain b) (list_all is_plain bs) all in
    closed_plain b bs (plain_no_slash b parts.0) (plain_closed bs parts.1)

pub closed_word : (text : List ℕ) → is_plain_word text ≡ true → IsClosed text
closed_word text is = plain_closed text (and_parts (has_some text) (list_all is_plain text) is).1

plain_bare : (scope : Scope) (named : Bool) (text : List ℕ) → list_all is_plain text ≡ true → IsBare scope named (map (λ b. Plain b) text)
plain_bare scope named [] all = over named
plain_bare scope named (b ∷ bs) all =
    let parts = and_parts (is_plain b) (list_all is_plain bs) all in
    next named (Plain b) (map (λ b. Plain b) bs) (plain_ordinary scope b parts.0) (plain_bare scope (is_named (Plain b)) bs parts.1)

meaning_plain : (text : List ℕ) → map meaning (map (λ b. Plain b) text) ≡ text
meaning_plain [] = refl
meaning_plain (b ∷ bs) = ap (λ xs. b ∷ xs) (meaning_plain bs)

plain_word : (scope : Scope) (at : ℕ) (text : List ℕ) → is_plain_word text ≡ true → IsWord scope at (map (λ b. Plain b) text) (record { at = at; kind = Bare; text = map meaning (map (λ b. Plain b) text) })
plain_word scope at [] is = absurd (cc)
plain_word scope at (b ∷ bs) is =
    bare scope at (Plain b) (map (λ b. Plain b) bs) (plain_opens_none b (and_parts (is_plain b) (list_all is_plain bs) is).0) (plain_bare scope false (b ∷ bs) is)

pub bare_word : (scope : Scope) (at : ℕ) (text : List ℕ) → is_plain_word text ≡ true → IsWord scope at (characters text) (record { at = at; kind = Bare; text = text })
bare_word scope at text is =
    subst (λ cs. IsWord scope at cs (record { at = at; kind = Bare; text = text })) (sym (characters_plain text (and_parts (has_some text) (list_all is_plain text) is).1))
    (subst (λ t. IsWord scope at (map (λ b. Plain b) text) (record { at = at; kind = Bare; text = t })) (meaning_plain text) (plain_word scope at text is))

-- a bare word begins no comment
pub record IsFirst (text others : List ℕ) : Type 0 where
  pub first : ℕ
  pub behind : List Character
  pub is_plain_first : is_plain first ≡ true
  pub are : characters (text ++ others) ≡ Plain first ∷ behind

pub first_of : (text others : List ℕ) → is_plain_word text ≡ true → IsFirst text others
first_of [] others is = absurd (cc)
first_of (b ∷ bs) others is =
    let first = (and_parts (is_plain b) (list_all is_plain bs) is).0 in
    record { first = b; behind = characters (bs ++ others); is_plain_first = first; are = plain_on b (bs ++ others) (plain_no_slash b first) }

-- ---- texts in braces
abbrev pub is_free : Character → Bool
is_free c = is_ascii c && (not (is_byte 123 c) && not (is_byte 125 c))

pub record IsKeptText (text : List ℕ) : Type 0 where
  pub closed : IsClosed text
  pub free : list_all is_free (characters text) ≡ true

pub kept_none : IsKeptText []
unfolding characters
kept_none = record { closed = closed_none; free = refl }

pub kept_both : (a b : List ℕ) → IsKeptText a → IsKeptText b → IsKeptText (a ++ b)
kept_both a b first second = record {
  closed = closed_both a b first.closed second.closed;
  free = rw (first.closed.on b, list_all-append is_free (characters a) (characters b), first.free, second.free) refl;
}

kept_plain : (b : ℕ) (bs : List ℕ) → (b == 92) ≡ false → is_free (Plain b) ≡ true → IsKeptText bs → IsKeptText (b ∷ bs)
kept_plain b bs other free kept = record { closed = closed_plain b bs other kept.closed; free = rw (plain_on b bs other, free, kept.free) refl }

kept_escaped : (c : ℕ) (bs : List ℕ) → is_free (Escaped c) ≡ true → IsKeptText bs → IsKeptText (92 ∷ (c ∷ bs))
kept_escaped c bs free kept = record { closed = closed_escaped c bs kept.closed; free = rw (escaped_on c bs, free, kept.free) refl }

pub kept_spaced : (ws : List (List ℕ)) → AllByRecursion IsKeptText ws → IsKeptText (flat_map spaced ws)
kept_spaced [] all = kept_none
kept_spaced (w ∷ ws) all = kept_plain 32 (w ++ flat_map spaced ws) refl refl (kept_both w (flat_map spaced ws) all.0 (kept_spaced ws all.1))

pub kept_words : (ws : List (List ℕ)) → AllByRecursion IsKeptText ws → IsKeptText (words ws)
kept_words [] all = kept_none
kept_words (w ∷ ws) all = kept_both w (flat_map spaced ws) all.0 (kept_spaced ws all.1)

visible_free : (b : ℕ) → is_visible b ≡ true → not (is_brace b) ≡ true → is_free (Plain b) ≡ true
visible_free b visible no_brace = grind (arith, nat_tests)

visible_escaped : (b : ℕ) → is_visible b ≡ true → is_free (Escaped b) ≡ true
visible_escaped b visible = grind (arith, nat_tests)

-- a name, or the rest of one, and with the backslash before it
mutual
  rest_kept : (bs : List ℕ) → is_kept false bs ≡ true → IsKeptText bs
  rest_kept [] is = kept_none
  rest_kept (b ∷ bs) is =
      let parts = and_parts (is_visible b) (not (is_brace b) && is_kept (b == 92) bs) is in
      let others = and_parts (not (is_brace b)) (is_kept (b == 92) bs) parts.1 in
      by_test (b == 92)
      (λ slash.
      let same : 92 ≡ b = sym (eqb-true b 92 slash) in
      subst (λ x. IsKeptText (x ∷ bs)) same (behind_slash bs (rw slash at others.1)))
      (λ other. kept_plain b bs other (visible_free b parts.0 others.0) (rest_kept bs (rw other at others.1)))

  behind_slash : (bs : List ℕ) → is_kept true bs ≡ true → IsKeptText (92 ∷ bs)
  behind_slash [] is = absurd (cc)
  behind_slash (b ∷ bs) is =
      let parts = and_parts (is_visible b) (is_kept false bs) is in
      kept_escaped b bs (visible_escaped b parts.0) (rest_kept bs parts.1)

pub name_is_kept : (name : List ℕ) → is_kept_name name ≡ true → IsKeptText name
name_is_kept name is = rest_kept name (and_parts (has_some name) (is_kept false name) is).1

byte_free : (b : ℕ) → is_name_byte b ≡ true → is_free (Plain b) ≡ true
byte_free b is = grind (arith, nat_tests)

byte_no_slash : (b : ℕ) → is_name_byte b ≡ true → (b == 92) ≡ false
byte_no_slash b is = grind (arith, nat_tests)

bytes_kept : (bs : List ℕ) → list_all is_name_byte bs ≡ true → IsKeptText bs
bytes_kept [] all = kept_none
bytes_kept (b ∷ bs) all =
    let parts = and_parts (is_name_byte b) (list_all is_name_byte bs) all in
    kept_plain b bs (byte_no_slash b parts.0) (byte_free b parts.0) (bytes_kept bs parts.1)

pub clock_name_kept : (name : List ℕ) → is_clock_name name ≡ true → IsKeptText name
clock_name_kept name is = bytes_kept name (and_parts (not (is_empty name)) (list_all is_name_byte name) is).1

plain_free : (b : ℕ) → is_plain b ≡ true → is_free (Plain b) ≡ true
plain_free b is = grind (arith, nat_tests)

plain_kept : (bs : List ℕ) → list_all is_plain bs ≡ true → IsKeptText bs
plain_kept [] all = kept_none
plain_kept (b ∷ bs) all =
    let parts = and_parts (is_plain b) (list_all is_plain bs) all in
    kept_plain b bs (plain_no_slash b parts.0) (plain_free b parts.0) (plain_kept bs parts.1)

pub word_kept : (text : List ℕ) → is_plain_word text ≡ true → IsKeptText text
word_kept text is = plain_kept text (and_parts (has_some text) (list_all is_plain text) is).1

free_balanced : (cs : List Character) → list_all is_free cs ≡ true → Balanced (is_byte 123) (is_byte 125) cs
free_balanced [] all = none
free_balanced (c ∷ cs) all =
    let parts = and_parts (is_free c) (list_all is_free cs) all in
    let others = and_parts (not (is_byte 123 c)) (not (is_byte 125 c)) (and_parts (is_ascii c) _ parts.0).1 in
    plain c cs (not_true (is_byte 123 c) others.0) (not_true (is_byte 125 c) others.1) (free_balanced cs parts.1)

free_ascii : (cs : List Character) → list_all is_free cs ≡ true → list_all is_ascii cs ≡ true
free_ascii [] all = refl
free_ascii (c ∷ cs) all =
    let parts = and_parts (is_free c) (list_all is_free cs) all in
    rw ((and_parts (is_ascii c) _ parts.0).0, free_ascii cs parts.1) refl

pub braced_word : (scope : Scope) (at : ℕ) (text : List ℕ) → IsKeptText text → IsWord scope at (characters (braced text)) (record { at = at; kind = Braced; text = text })
braced_word scope at text kept =
    let cs = characters text in
    subst (λ xs. IsWord scope at xs (record { at = at; kind = Braced; text = text })) (sym (characters_braced text kept.closed))
    (subst (λ t. IsWord scope at (Plain 123 ∷ (cs ++ Plain 125 ∷ [])) (record { at = at; kind = Braced; text = t })) (spelling_characters text)
    (in_braces scope at cs (free_balanced cs kept.free) (free_ascii cs kept.free)))
