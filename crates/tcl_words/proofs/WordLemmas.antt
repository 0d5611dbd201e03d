-- What stands behind a word, and that it is one word.
use Rattle.std.proofs.Common.{◌≡◌, ℕ, suc, ◌+◌, ◌-◌, ◌||◌, Bool, true, false, Some, List, [], ◌∷◌, ◌++◌, length, map, refl, sym, ap, ◌∙◌, subst, arith, append_assoc, length-append}
use Rattle.std.proofs.Math.Seq.{take-append_seam}
use Rattle.std.proofs.lemmas.List.{append_cancel_right}
use Rattle.std.proofs.lemmas.Option.{same_Some}
use Rattle.std.specs.List.{list_all}
use Rattle.text_scan.specs.Nesting.{Balanced}
use Rattle.text_scan.proofs.Binds.{by_test}
use Rattle.tcl_words.specs.Characters.{spelling, size, is_byte, meaning, is_gap, is_end, is_ascii, is_ordinary, is_named, is_quotable}
use Rattle.tcl_words.specs.Words.{IsBare, IsWord, AreWords, opens_word, begins_gap}
use Rattle.tcl_words.specs.Words.IsWord.{bare, quoted, braced, bracket}
use Rattle.tcl_words.specs.Words.AreWords.{none, more}
use Rattle.tcl_words.specs.Scanning.{is_behind, ends_by, simple_rest, first_part, next_part, AreClosed, Stands}
use Rattle.tcl_words.specs.Scanning.AreClosed.{last, closes, opens, passes}
use Rattle.tcl_words.specs.Answers.{kind_of, between}
use Rattle.tcl_words.specs.declared.characters.Character.{Character}
use Rattle.tcl_words.specs.declared.characters.Character.TheVariants.{Plain, Escaped}
use Rattle.tcl_words.specs.declared.characters.Scope.{Scope}
use Rattle.tcl_words.specs.declared.characters.Scope.TheVariants.{Brackets}
use Rattle.tcl_words.specs.declared.brackets.Part.TheVariants.{Opens, Closes, Whole}
use Rattle.tcl_words.specs.declared.words.Word.{Word}
use Rattle.tcl_words.specs.declared.words.WordKind.{WordKind}
use Rattle.tcl_words.specs.declared.words.WordKind.TheVariants.{Bare, Quoted, Braced, Bracket}
use Rattle.tcl_words.proofs.CharacterLemmas.{IsInner, ordinary_is, quote_inner, brace_inner, bracket_inner}
use Rattle.tcl_words.proofs.GapLemmas.{gap_passed}
use Rattle.tcl_words.proofs.EndLemmas.{bare_complete, quoted_complete, braced_complete}
use Rattle.tcl_words.proofs.ClosedLemmas.{closed_once}

or_false : (x y : Bool) → (x || y) ≡ false → (x ≡ false) × (y ≡ false)
or_false true y e = absurd (cc)
or_false false y e = (refl, e)

-- a character that opens no word
record IsBareFirst (c : Character) : Type 0 where
  quote : is_byte 34 c ≡ false
  brace : is_byte 123 c ≡ false
  bracket : is_byte 91 c ≡ false

bare_first : (c : Character) → opens_word c ≡ false → IsBareFirst c
bare_first c e =
    let first = or_false (is_byte 34 c) _ e in
    let second = or_false (is_byte 123 c) _ first.1 in
    record { quote = first.0; brace = second.0; bracket = second.1 }

bare_step : (scope : Scope) (named : Bool) (c : Character) (cs : List Character) → IsBare scope named (c ∷ cs) → named ≡ false → (is_ordinary scope c ≡ true) × IsBare scope (is_named c) cs
bare_step scope _ _ _ (IsBare.next named c cs is goes) e = (is, goes)
bare_step scope _ _ _ (IsBare.index digits cs all some goes) e = absurd (cc)

no_closing : (c : Character) → is_end Brackets c ≡ false → is_byte 93 c ≡ false
no_closing (Plain b) e = e
no_closing (Escaped b) e = refl

-- a word has a first character, which is neither white space nor an end
pub record HasFirst (scope : Scope) (source : List Character) : Type 0 where
  pub first : Character
  pub others : List Character
  pub split : source ≡ first ∷ others
  pub inner : IsInner scope first

pub word_first : (scope : Scope) (at : ℕ) (source : List Character) (word : Word) → IsWord scope at source word → HasFirst scope source
word_first _ _ _ _ (bare scope at c cs opens_is is) = record { first = c; others = cs; split = refl; inner = (ordinary_is scope c (bare_step scope false c cs is refl).0).inner }
word_first _ _ _ _ (quoted scope at cs all) = record { first = Plain 34; others = cs ++ Plain 34 ∷ []; split = refl; inner = quote_inner scope }
word_first _ _ _ _ (braced scope at cs balanced ascii) = record { first = Plain 123; others = cs ++ Plain 125 ∷ []; split = refl; inner = brace_inner scope }
word_first _ _ _ _ (bracket scope at cs words are) = record { first = Plain 91; others = cs ++ Plain 93 ∷ []; split = refl; inner = bracket_inner scope }

-- what stands behind a word: found by its characters, or by counting brackets
pub data IsBehind (scope : Scope) : List Character → List Character → Type 0 where
  simple : (c : Character) (cs rest : List Character) → is_byte 91 c ≡ false → simple_rest scope (c ∷ cs) ≡ Some rest → IsBehind scope (c ∷ cs) rest
  in_brackets : (cs rest : List Character) → AreClosed 0 cs rest → ends_by (is_behind scope) rest ≡ true → IsBehind scope (Plain 91 ∷ cs) rest

pub behind_once : (scope : Scope) (cs first second : List Character) → IsBehind scope cs first → IsBehind scope cs second → first ≡ second
behind_once scope _ _ _ (simple c cs first isnt found) (simple _ _ second also other) = same_Some _ _ (sym found ∙ other)
behind_once scope _ _ _ (simple _ cs first isnt found) (in_brackets _ second closed ends) = absurd (cc)
behind_once scope _ _ _ (in_brackets cs first closed ends) (simple _ _ second isnt found) = absurd (cc)
behind_once scope _ _ _ (in_brackets cs first closed ends) (in_brackets _ second other also) = closed_once 0 cs first second closed other

closing_split : (b : ℕ) (cs rest : List Character) → (cs ++ Plain b ∷ []) ++ rest ≡ cs ++ Plain b ∷ rest
closing_split b cs rest = append_assoc cs (Plain b ∷ []) rest

bare_simple : (scope : Scope) (c : Character) (cs rest : List Character) → opens_word c ≡ false → IsBare scope false (c ∷ cs) → ends_by (is_behind scope) rest ≡ true → simple_rest scope (c ∷ (cs ++ rest)) ≡ Some rest
unfolding simple_rest
bare_simple scope c cs rest opens_is is ends =
    let first = bare_first c opens_is in
    let parts = bare_step scope false c cs is refl in
    rw (parts.0, first.quote, first.brace, first.bracket, bare_complete scope (is_named c) cs rest parts.1 ends, ends) refl

quoted_simple : (scope : Scope) (cs rest : List Character) → list_all is_quotable cs ≡ true → ends_by (is_behind scope) rest ≡ true → simple_rest scope (Plain 34 ∷ ((cs ++ Plain 34 ∷ []) ++ rest)) ≡ Some rest
unfolding simple_rest
quoted_simple scope cs rest all ends = rw (closing_split 34 cs rest, quoted_complete cs rest all, ends) refl

braced_simple : (scope : Scope) (cs rest : List Character) → Balanced (is_byte 123) (is_byte 125) cs → list_all is_ascii cs ≡ true → ends_by (is_behind scope) rest ≡ true →
    simple_rest scope (Plain 123 ∷ ((cs ++ Plain 125 ∷ []) ++ rest)) ≡ Some rest
unfolding simple_rest
braced_simple scope cs rest balanced ascii ends = rw (closing_split 125 cs rest, braced_complete cs rest balanced ascii, ends) refl

-- a word that isn't in brackets is a part of what stands in brackets
simple_part : (c : Character) (cs rest : List Character) → is_byte 91 c ≡ false → is_byte 93 c ≡ false → is_gap Brackets c ≡ false → simple_rest Brackets (c ∷ cs) ≡ Some rest → next_part (c ∷ cs) ≡ Some (Whole, rest)
unfolding next_part
simple_part c cs rest isnt closing gap found = rw (gap, isnt, closing, found) refl

part_behind_gap : (gap cs : List Character) → list_all (is_gap Brackets) gap ≡ true → next_part (gap ++ cs) ≡ next_part cs
unfolding next_part
part_behind_gap gap cs blank = ap first_part (gap_passed Brackets gap cs blank)

closed_behind_gap : (depth : ℕ) (gap cs rest : List Character) → list_all (is_gap Brackets) gap ≡ true → AreClosed depth cs rest → AreClosed depth (gap ++ cs) rest
closed_behind_gap _ gap _ _ blank (last cs rest e) = last (gap ++ cs) rest (part_behind_gap gap cs blank ∙ e)
closed_behind_gap _ gap _ _ blank (closes depth cs next rest e ends closed) = closes depth (gap ++ cs) next rest (part_behind_gap gap cs blank ∙ e) ends closed
closed_behind_gap _ gap _ _ blank (opens depth cs next rest e closed) = opens depth (gap ++ cs) next rest (part_behind_gap gap cs blank ∙ e) closed
closed_behind_gap _ gap _ _ blank (passes depth cs next rest e closed) = passes depth (gap ++ cs) next rest (part_behind_gap gap cs blank ∙ e) closed

opening_part : (cs : List Character) → next_part (Plain 91 ∷ cs) ≡ Some (Opens, cs)
unfolding next_part
opening_part cs = refl

closing_part : (cs : List Character) → next_part (Plain 93 ∷ cs) ≡ Some (Closes, cs)
unfolding next_part
closing_part cs = refl

-- white space, or what follows, is behind a word
pub gap_behind : (scope : Scope) (cs rest : List Character) → begins_gap scope cs ≡ true → ends_by (is_end scope) rest ≡ true → ends_by (is_behind scope) (cs ++ rest) ≡ true
gap_behind scope [] [] gap ends = refl
gap_behind scope [] (c ∷ rest) gap ends = by_test (is_gap scope c) (λ is. rw is refl) (λ isnt. rw (isnt, ends) refl)
gap_behind scope (c ∷ cs) rest gap ends = rw gap refl

mutual
  -- a word in brackets is passed as a whole, whatever is open
  word_passed : (scope : Scope) (at : ℕ) (source : List Character) (word : Word) → IsWord scope at source word → scope ≡ Brackets → (depth : ℕ) (tail rest : List Character) → ends_by (is_behind Brackets) tail ≡ true →
      AreClosed depth tail rest → AreClosed depth (source ++ tail) rest
  word_passed _ _ _ _ (bare scope at c cs opens_is is) inside depth tail rest ends closed =
      let given = subst (λ (s : Scope). IsBare s false (c ∷ cs)) inside is in
      let first = bare_first c opens_is in
      let inner = (ordinary_is Brackets c (bare_step Brackets false c cs given refl).0).inner in
      passes depth (c ∷ (cs ++ tail)) tail rest (simple_part c (cs ++ tail) tail first.bracket (no_closing c inner.no_end) inner.no_gap (bare_simple Brackets c cs tail opens_is given ends)) closed
  word_passed _ _ _ _ (quoted scope at cs all) inside depth tail rest ends closed =
      passes depth (Plain 34 ∷ ((cs ++ Plain 34 ∷ []) ++ tail)) tail rest (simple_part (Plain 34) _ tail refl refl refl (quoted_simple Brackets cs tail all ends)) closed
  word_passed _ _ _ _ (braced scope at cs balanced ascii) inside depth tail rest ends closed =
      passes depth (Plain 123 ∷ ((cs ++ Plain 125 ∷ []) ++ tail)) tail rest (simple_part (Plain 123) _ tail refl refl refl (braced_simple Brackets cs tail balanced ascii ends)) closed
  word_passed _ _ _ _ (bracket scope at cs words are) inside depth tail rest ends closed =
      let P : List Character → Type 0 = λ xs. AreClosed depth (Plain 91 ∷ xs) rest in
      subst P (sym (closing_split 93 cs tail))
      (opens depth (Plain 91 ∷ (cs ++ Plain 93 ∷ tail)) (cs ++ Plain 93 ∷ tail) rest (opening_part _)
      (words_passed Brackets (at + 1) cs words are refl (suc depth) (Plain 93 ∷ tail) rest refl (closes depth (Plain 93 ∷ tail) tail rest (closing_part tail) ends closed)))

  words_passed : (scope : Scope) (at : ℕ) (source : List Character) (words : List Word) → AreWords scope at source words → scope ≡ Brackets → (depth : ℕ) (tail rest : List Character) → ends_by (is_end Brackets) tail ≡ true →
      AreClosed depth tail rest → AreClosed depth (source ++ tail) rest
  words_passed _ _ _ _ (none scope at gap blank) inside depth tail rest ends closed =
      closed_behind_gap depth gap tail rest (subst (λ (s : Scope). list_all (is_gap s) gap ≡ true) inside blank) closed
  words_passed _ _ _ _ (more scope at gap source others word words blank is gap_is are) inside depth tail rest ends closed =
      let P : List Character → Type 0 = λ xs. AreClosed depth xs rest in
      let split : (gap ++ (source ++ others)) ++ tail ≡ gap ++ (source ++ (others ++ tail)) = simp append_assoc in
      subst P (sym split)
      (closed_behind_gap depth gap (source ++ (others ++ tail)) rest (subst (λ (s : Scope). list_all (is_gap s) gap ≡ true) inside blank)
      (word_passed scope (at + size gap) source word is inside depth (others ++ tail) rest
      (gap_behind Brackets others tail (subst (λ (s : Scope). begins_gap s others ≡ true) inside gap_is) ends)
      (words_passed scope (at + size gap + size source) others words are inside depth tail rest ends closed)))

-- what is behind a word is found
pub word_behind : (scope : Scope) (at : ℕ) (source rest : List Character) (word : Word) → IsWord scope at source word → ends_by (is_behind scope) rest ≡ true → IsBehind scope (source ++ rest) rest
word_behind _ _ _ rest _ (bare scope at c cs opens_is is) ends = simple c (cs ++ rest) rest (bare_first c opens_is).bracket (bare_simple scope c cs rest opens_is is ends)
word_behind _ _ _ rest _ (quoted scope at cs all) ends = simple (Plain 34) _ rest refl (quoted_simple scope cs rest all ends)
word_behind _ _ _ rest _ (braced scope at cs balanced ascii) ends = simple (Plain 123) _ rest refl (braced_simple scope cs rest balanced ascii ends)
word_behind _ _ _ rest _ (bracket scope at cs words are) ends =
    let P : List Character → Type 0 = λ xs. IsBehind scope (Plain 91 ∷ xs) rest in
    subst P (sym (closing_split 93 cs rest))
    (in_brackets (cs ++ Plain 93 ∷ rest) rest (words_passed Brackets (at + 1) cs words are refl 0 (Plain 93 ∷ rest) rest refl (last (Plain 93 ∷ rest) rest (closing_part rest))) ends)

pub stands_behind : (scope : Scope) (at : ℕ) (cs rest : List Character) (word : Word) → Stands scope at cs rest word → IsBehind scope cs rest
stands_behind scope at cs rest word given =
    subst (λ (xs : List Character). IsBehind scope xs rest) (sym given.split) (word_behind scope at given.source rest word given.is_word given.ends)

-- the word that some characters are
abbrev characters_text : WordKind → List Character → List ℕ
characters_text Bare cs = map meaning cs
characters_text Quoted cs = map meaning (between cs)
characters_text Braced cs = spelling (between cs)
characters_text Bracket cs = spelling (between cs)

abbrev word_from : ℕ → List Character → Word
word_from at [] = record { at = at; kind = Bare; text = [] }
word_from at (c ∷ cs) = record { at = at; kind = kind_of c; text = characters_text (kind_of c) (c ∷ cs) }

pub between_is : {A : Type 0} (x y : A) (xs : List A) → between (x ∷ (xs ++ y ∷ [])) ≡ xs
between_is x y xs =
    let count : length (x ∷ (xs ++ y ∷ [])) - 1 - 1 ≡ length xs = simp length-append (omega arith) in
    rw count (take-append_seam xs (y ∷ []))

pub bare_kind : (c : Character) → opens_word c ≡ false → kind_of c ≡ Bare
bare_kind c e = (let first = bare_first c e in rw (first.quote, first.brace, first.bracket) refl)

word_is : (scope : Scope) (at : ℕ) (source : List Character) (word : Word) → IsWord scope at source word → word ≡ word_from at source
word_is _ _ _ _ (bare scope at c cs opens_is is) = rw (bare_kind c opens_is) refl
word_is _ _ _ _ (quoted scope at cs all) = ap (λ xs. record { at = at; kind = Quoted; text = map meaning xs }) (sym (between_is (Plain 34) (Plain 34) cs))
word_is _ _ _ _ (braced scope at cs balanced ascii) = ap (λ xs. record { at = at; kind = Braced; text = spelling xs }) (sym (between_is (Plain 123) (Plain 125) cs))
word_is _ _ _ _ (bracket scope at cs words are) = ap (λ xs. record { at = at; kind = Bracket; text = spelling xs }) (sym (between_is (Plain 91) (Plain 93) cs))

-- one word stands in one place
pub stands_once : (scope : Scope) (at : ℕ) (cs first second : List Character) (word other : Word) (a : Stands scope at cs first word) (b : Stands scope at cs second other) → (first ≡ second) × ((word ≡ other) × (a.source ≡ b.source))
stands_once scope at cs first second word other a b =
    let same = behind_once scope cs first second (stands_behind scope at cs first word a) (stands_behind scope at cs second other b) in
    let sources : a.source ≡ b.source = append_cancel_right a.source b.source second (ap (λ xs. a.source ++ xs) (sym same) ∙ sym a.split ∙ b.split) in
    (same, (word_is scope at a.source word a.is_word ∙ ap (word_from at) sources ∙ sym (word_is scope at b.source other b.is_word), sources))
