-- Words that stand at the front of some characters.
use Rattle.std.proofs.Common.{◌≡◌, ℕ, zero, suc, ◌+◌, Bool, true, false, Option, Some, None, List, [], ◌∷◌, ◌++◌, map, refl, sym, ap, ◌∙◌, subst, append_assoc, if◌then◌else◌}
use Rattle.std.proofs.lemmas.Bool.{and_parts}
use Rattle.std.proofs.lemmas.List.{append_cancel_right}
use Rattle.std.proofs.lemmas.Option.{same_Some}
use Rattle.std.specs.List.{list_all}
use Rattle.std.specs.Option.{option_map}
use Rattle.text_scan.specs.Left.{◌>>=◌}
use Rattle.text_scan.proofs.Binds.{step, by_test}
use Rattle.tcl_words.specs.Characters.{spelling, size, is_byte, meaning, is_gap, is_end, is_ordinary, is_named}
use Rattle.tcl_words.specs.Words.{IsBare, AreWords, opens_word, begins_gap}
use Rattle.tcl_words.specs.Words.IsWord.{bare, quoted, braced, bracket}
use Rattle.tcl_words.specs.Words.AreWords.{none, more}
use Rattle.tcl_words.specs.Commands.{behind_gap}
use Rattle.tcl_words.specs.Scanning.{is_behind, ends_by, stage_of, stage_behind, bare_rest, rest_behind, ended, simple_rest, quoted_rest, braced_rest, first_part, next_part, AreClosed, Stands, StandAll}
use Rattle.tcl_words.specs.Scanning.AreClosed.{last, closes, opens, passes}
use Rattle.tcl_words.specs.Answers.{kind_of}
use Rattle.tcl_words.specs.declared.characters.Character.{Character}
use Rattle.tcl_words.specs.declared.characters.Character.TheVariants.{Plain}
use Rattle.tcl_words.specs.declared.characters.Scope.{Scope}
use Rattle.tcl_words.specs.declared.characters.Scope.TheVariants.{Brackets}
use Rattle.tcl_words.specs.declared.ends.Stage.TheVariants.{Other}
use Rattle.tcl_words.specs.declared.brackets.Part.{Part}
use Rattle.tcl_words.specs.declared.brackets.Part.TheVariants.{Opens, Closes, Whole}
use Rattle.tcl_words.specs.declared.words.Word.{Word}
use Rattle.tcl_words.specs.declared.words.WordKind.{WordKind}
use Rattle.tcl_words.specs.declared.words.WordKind.TheVariants.{Bare, Quoted, Braced, Bracket}
use Rattle.tcl_words.proofs.CharacterLemmas.{byte_is}
use Rattle.tcl_words.proofs.GapLemmas.{gap_split, gap_passed, end_kept}
use Rattle.tcl_words.proofs.EndLemmas.{GoesOn, bare_sound, quoted_sound, braced_sound}
use Rattle.tcl_words.proofs.WordLemmas.{HasFirst, stands_once, word_first, bare_kind, gap_behind}

then_is : {A : Type 0} (test : Bool) (x y : A) → test ≡ true → (if test then x else y) ≡ x
then_is test x y e = rw e refl

else_is : {A : Type 0} (test : Bool) (x y : A) → test ≡ false → (if test then x else y) ≡ y
else_is test x y e = rw e refl

named_goes : (scope : Scope) (named : Bool) (source : List Character) → GoesOn scope (stage_of named) source → IsBare scope named source
named_goes scope true source goes = goes
named_goes scope false source goes = goes

regrouped : {A : Type 0} (a b c d : List A) → a ++ (b ++ (c ++ d)) ≡ (a ++ (b ++ c)) ++ d
regrouped a b c d = simp append_assoc

-- words that follow a word directly begin with white space
pub begins_gap_is : (scope : Scope) (at : ℕ) (source rest : List Character) (words : List Word) → AreWords scope at source words → ends_by (is_behind scope) (source ++ rest) ≡ true → begins_gap scope source ≡ true
begins_gap_is _ _ _ rest _ (none scope at [] blank) behind = refl
begins_gap_is _ _ _ rest _ (none scope at (c ∷ gap) blank) behind = (and_parts (is_gap scope c) _ blank).0
begins_gap_is _ _ _ rest _ (more scope at (c ∷ gap) source others word words blank is gap_is are) behind = (and_parts (is_gap scope c) _ blank).0
begins_gap_is _ _ _ rest _ (more scope at [] source others word words blank is gap_is are) behind =
    let first = word_first scope _ source word is in
    let wrong : ends_by (is_behind scope) (((first.first ∷ first.others) ++ others) ++ rest) ≡ true =
    subst (λ (xs : List Character). ends_by (is_behind scope) ((xs ++ others) ++ rest) ≡ true) first.split behind in
    absurd (let apart : true ≡ false = sym wrong ∙ first.inner.not_behind in cc)

-- a word of this kind stands at the front
pub record HasWord (scope : Scope) (at : ℕ) (cs rest : List Character) (kind : WordKind) : Type 0 where
  pub word : Word
  pub stands : Stands scope at cs rest word
  pub kind_is : word.kind ≡ kind

quoted_stands : (scope : Scope) (at : ℕ) (cs rest : List Character) → quoted_rest cs ≡ Some rest → ends_by (is_behind scope) rest ≡ true → HasWord scope at (Plain 34 ∷ cs) rest Quoted
quoted_stands scope at cs rest found ends =
    let given = quoted_sound cs rest found in
    record {
      word = record { at = at; kind = Quoted; text = map meaning given.inside };
      stands = record {
        source = Plain 34 ∷ (given.inside ++ Plain 34 ∷ []);
        split = ap (λ xs. Plain 34 ∷ xs) (given.split ∙ sym (append_assoc given.inside (Plain 34 ∷ []) rest));
        is_word = quoted scope at given.inside given.pass;
        ends = ends;
      };
      kind_is = refl;
    }

braced_stands : (scope : Scope) (at : ℕ) (cs rest : List Character) → braced_rest 0 cs ≡ Some rest → ends_by (is_behind scope) rest ≡ true → HasWord scope at (Plain 123 ∷ cs) rest Braced
braced_stands scope at cs rest found ends =
    let given = braced_sound cs rest found in
    record {
      word = record { at = at; kind = Braced; text = spelling given.inside };
      stands = record {
        source = Plain 123 ∷ (given.inside ++ Plain 125 ∷ []);
        split = ap (λ xs. Plain 123 ∷ xs) (given.split ∙ sym (append_assoc given.inside (Plain 125 ∷ []) rest));
        is_word = braced scope at given.inside given.balanced given.ascii;
        ends = ends;
      };
      kind_is = refl;
    }

goes_on_bare : (scope : Scope) (c : Character) (source : List Character) → is_ordinary scope c ≡ true → IsBare scope (is_named c) source → IsBare scope false (c ∷ source)
goes_on_bare scope c source is goes = IsBare.next false c source is goes

no_opening : (c : Character) → is_byte 34 c ≡ false → is_byte 123 c ≡ false → is_byte 91 c ≡ false → opens_word c ≡ false
no_opening c quote brace bracket_is = rw (quote, brace, bracket_is) refl

bare_stands : (scope : Scope) (at : ℕ) (c : Character) (cs rest : List Character) → opens_word c ≡ false → is_ordinary scope c ≡ true → bare_rest scope (stage_of (is_named c)) cs ≡ Some rest → ends_by (is_behind scope) rest ≡ true →
    HasWord scope at (c ∷ cs) rest Bare
bare_stands scope at c cs rest opening is found ends =
    let given = bare_sound scope (stage_of (is_named c)) cs rest found in
    let goes : IsBare scope (is_named c) given.source = named_goes scope (is_named c) given.source given.goes_on in
    record {
      word = record { at = at; kind = Bare; text = map meaning (c ∷ given.source) };
      stands = record {
        source = c ∷ given.source;
        split = ap (λ xs. c ∷ xs) given.split;
        is_word = bare scope at c given.source opening (goes_on_bare scope c given.source is goes);
        ends = ends;
      };
      kind_is = refl;
    }

-- what is found behind a word that isn't in brackets is behind a word
pub simple_stands : (scope : Scope) (at : ℕ) (c : Character) (cs rest : List Character) → simple_rest scope (c ∷ cs) ≡ Some rest → HasWord scope at (c ∷ cs) rest (kind_of c)
unfolding simple_rest
simple_stands scope at c cs rest found =
    step (rest_behind scope c cs) (ended scope) rest found (λ r behind guard.
    by_test (ends_by (is_behind scope) r)
    (λ over.
    let same : r ≡ rest = same_Some _ _ (rw over at guard) in
    subst (λ (xs : List Character). HasWord scope at (c ∷ cs) xs (kind_of c)) same (by_test (is_byte 34 c)
    (λ quote.
    let P : Character → Type 0 = λ d. HasWord scope at (d ∷ cs) r (kind_of d) in
    subst P (sym (byte_is 34 c quote)) (quoted_stands scope at cs r (sym (then_is (is_byte 34 c) _ _ quote) ∙ behind) over))
    (λ no_quote. by_test (is_byte 123 c)
    (λ brace.
    let P : Character → Type 0 = λ d. HasWord scope at (d ∷ cs) r (kind_of d) in
    subst P (sym (byte_is 123 c brace)) (braced_stands scope at cs r (sym (then_is (is_byte 123 c) _ _ brace) ∙ sym (else_is (is_byte 34 c) _ _ no_quote) ∙ behind) over))
    (λ no_brace. by_test (is_byte 91 c)
    (λ opening. absurd (let wrong : None ≡ Some r = sym (then_is (is_byte 91 c) _ _ opening) ∙ sym (else_is (is_byte 123 c) _ _ no_brace) ∙ sym (else_is (is_byte 34 c) _ _ no_quote) ∙ behind in cc))
    (λ no_bracket.
    let opening = no_opening c no_quote no_brace no_bracket in
    let chain : (stage_behind scope Other c >>= λ stage. bare_rest scope stage cs) ≡ Some r =
    sym (else_is (is_byte 91 c) _ _ no_bracket) ∙ sym (else_is (is_byte 123 c) _ _ no_brace) ∙ sym (else_is (is_byte 34 c) _ _ no_quote) ∙ behind in
    step (stage_behind scope Other c) (λ stage. bare_rest scope stage cs) r chain (λ stage begun goes.
    by_test (is_ordinary scope c)
    (λ ordinary.
    let stage_is : stage_of (is_named c) ≡ stage = same_Some _ _ (sym (then_is (is_ordinary scope c) _ _ ordinary) ∙ begun) in
    let kind : Bare ≡ kind_of c = sym (bare_kind c opening) in
    subst (λ (k : WordKind). HasWord scope at (c ∷ cs) r k) kind
    (bare_stands scope at c cs r opening ordinary (ap (λ s. bare_rest scope s cs) stage_is ∙ goes) over))
    (λ isnt. absurd (let wrong : None ≡ Some stage = sym (else_is (is_ordinary scope c) _ _ isnt) ∙ begun in cc))))))))
    (λ on. absurd (let wrong : None ≡ Some rest = sym (else_is (ends_by (is_behind scope) r) _ _ on) ∙ guard in cc)))

-- a word before words
pub more_words : (scope : Scope) (at : ℕ) (gap cs next rest : List Character) (word : Word) (words : List Word) → list_all (is_gap scope) gap ≡ true → (first : Stands scope (at + size gap) cs next word) →
    StandAll scope (at + size gap + size first.source) next rest words → StandAll scope at (gap ++ cs) rest (word ∷ words)
more_words scope at gap cs next rest word words blank first others =
    let behind : ends_by (is_behind scope) (others.source ++ rest) ≡ true = subst (λ (xs : List Character). ends_by (is_behind scope) xs ≡ true) others.split first.ends in
    record {
      source = gap ++ (first.source ++ others.source);
      split =
          ap (λ xs. gap ++ xs) (first.split ∙ ap (λ xs. first.source ++ xs) others.split)
          ∙ regrouped gap first.source others.source rest;
      are_words = more scope at gap first.source others.source word words blank first.is_word
          (begins_gap_is scope _ others.source rest words others.are_words behind) others.are_words;
      ends = others.ends;
    }

no_whole : (o : Option (List Character)) (next : List Character) → option_map {U = Part × List Character} (λ rest. (Whole, rest)) o ≡ Some (Opens, next) → ⊥
no_whole None next found = cc
no_whole (Some rest) next found = let wrong : Whole ≡ Opens = ap (λ p. p.0) (same_Some _ _ found) in cc

not_closing : (o : Option (List Character)) (next : List Character) → option_map {U = Part × List Character} (λ rest. (Whole, rest)) o ≡ Some (Closes, next) → ⊥
not_closing None next found = cc
not_closing (Some rest) next found = let wrong : Whole ≡ Closes = ap (λ p. p.0) (same_Some _ _ found) in cc

whole_found : (o : Option (List Character)) (next : List Character) → option_map {U = Part × List Character} (λ rest. (Whole, rest)) o ≡ Some (Whole, next) → o ≡ Some next
whole_found None next found = absurd (cc)
whole_found (Some rest) next found = ap (λ p. Some p.1) (same_Some _ _ found)

opening_is : (cs next : List Character) → first_part cs ≡ Some (Opens, next) → cs ≡ Plain 91 ∷ next
opening_is [] next found = absurd (cc)
opening_is (c ∷ cs) next found =
    by_test (is_byte 91 c)
    (λ bracket_is.
    let same : cs ≡ next = ap (λ p. p.1) (same_Some _ _ (sym (then_is (is_byte 91 c) _ _ bracket_is) ∙ found)) in
    ap (λ d. d ∷ cs) (byte_is 91 c bracket_is) ∙ ap (λ xs. Plain 91 ∷ xs) same)
    (λ other. by_test (is_byte 93 c)
    (λ closing. absurd (let wrong : Closes ≡ Opens = ap (λ p. p.0) (same_Some _ _ (sym (then_is (is_byte 93 c) _ _ closing) ∙ sym (else_is (is_byte 91 c) _ _ other) ∙ found)) in cc))
    (λ neither. absurd (no_whole (simple_rest Brackets (c ∷ cs)) next (sym (else_is (is_byte 93 c) _ _ neither) ∙ sym (else_is (is_byte 91 c) _ _ other) ∙ found))))

closing_is : (cs next : List Character) → first_part cs ≡ Some (Closes, next) → cs ≡ Plain 93 ∷ next
closing_is [] next found = absurd (cc)
closing_is (c ∷ cs) next found =
    by_test (is_byte 91 c)
    (λ bracket_is. absurd (let wrong : Opens ≡ Closes = ap (λ p. p.0) (same_Some _ _ (sym (then_is (is_byte 91 c) _ _ bracket_is) ∙ found)) in cc))
    (λ other. by_test (is_byte 93 c)
    (λ closing.
    let same : cs ≡ next = ap (λ p. p.1) (same_Some _ _ (sym (then_is (is_byte 93 c) _ _ closing) ∙ sym (else_is (is_byte 91 c) _ _ other) ∙ found)) in
    ap (λ d. d ∷ cs) (byte_is 93 c closing) ∙ ap (λ xs. Plain 93 ∷ xs) same)
    (λ neither. absurd (not_closing (simple_rest Brackets (c ∷ cs)) next (sym (else_is (is_byte 93 c) _ _ neither) ∙ sym (else_is (is_byte 91 c) _ _ other) ∙ found))))

record IsWhole (cs next : List Character) : Type 0 where
  first : Character
  others : List Character
  split : cs ≡ first ∷ others
  found : simple_rest Brackets (first ∷ others) ≡ Some next

whole_is : (cs next : List Character) → first_part cs ≡ Some (Whole, next) → IsWhole cs next
whole_is [] next found = absurd (cc)
whole_is (c ∷ cs) next found =
    by_test (is_byte 91 c)
    (λ bracket_is. absurd (let wrong : Opens ≡ Whole = ap (λ p. p.0) (same_Some _ _ (sym (then_is (is_byte 91 c) _ _ bracket_is) ∙ found)) in cc))
    (λ other. by_test (is_byte 93 c)
    (λ closing. absurd (let wrong : Closes ≡ Whole = ap (λ p. p.0) (same_Some _ _ (sym (then_is (is_byte 93 c) _ _ closing) ∙ sym (else_is (is_byte 91 c) _ _ other) ∙ found)) in cc))
    (λ neither. record {
      first = c;
      others = cs;
      split = refl;
      found = whole_found (simple_rest Brackets (c ∷ cs)) next (sym (else_is (is_byte 93 c) _ _ neither) ∙ sym (else_is (is_byte 91 c) _ _ other) ∙ found);
    }))

-- words up to a bracket that closes, at whatever offset they begin
abbrev pub Inner : List Character → List Character → Type 0
Inner cs next = (at : ℕ) → (words : List Word) × StandAll Brackets at cs (Plain 93 ∷ next) words

-- the same for each of the brackets that are open
abbrev Tail : ℕ → List Character → List Character → Type 0
Tail zero cs rest = Inner cs rest
Tail (suc depth) cs rest = (next : List Character) × (Inner cs next × ((ends_by (is_behind Brackets) next ≡ true) × Tail depth next rest))

inner_more : (gap cs next rest : List Character) (kind : WordKind) → list_all (is_gap Brackets) gap ≡ true → ((at : ℕ) → HasWord Brackets at cs next kind) → Inner next rest → Inner (gap ++ cs) rest
inner_more gap cs next rest kind blank first inner = λ at.
    let found : HasWord Brackets (at + size gap) cs next kind = first (at + size gap) in
    let others : (words : List Word) × StandAll Brackets (at + size gap + size found.stands.source) next (Plain 93 ∷ rest) words = inner (at + size gap + size found.stands.source) in
    (found.word ∷ others.0, more_words Brackets at gap cs next (Plain 93 ∷ rest) found.word others.0 blank found.stands others.1)

tail_more : (depth : ℕ) (gap cs next rest : List Character) (kind : WordKind) → list_all (is_gap Brackets) gap ≡ true → ((at : ℕ) → HasWord Brackets at cs next kind) → Tail depth next rest → Tail depth (gap ++ cs) rest
tail_more zero gap cs next rest kind blank first tail = inner_more gap cs next rest kind blank first tail
tail_more (suc depth) gap cs next rest kind blank first tail = (tail.0, (inner_more gap cs next tail.0 kind blank first tail.1.0, tail.1.1))

pub bracket_stands : (scope : Scope) (at : ℕ) (cs rest : List Character) → Inner cs rest → ends_by (is_behind scope) rest ≡ true → HasWord scope at (Plain 91 ∷ cs) rest Bracket
bracket_stands scope at cs rest inner ends =
    let given : (words : List Word) × StandAll Brackets (at + 1) cs (Plain 93 ∷ rest) words = inner (at + 1) in
    record {
      word = record { at = at; kind = Bracket; text = spelling given.1.source };
      stands = record {
        source = Plain 91 ∷ (given.1.source ++ Plain 93 ∷ []);
        split = ap (λ xs. Plain 91 ∷ xs) (given.1.split ∙ sym (append_assoc given.1.source (Plain 93 ∷ []) rest));
        is_word = bracket scope at given.1.source given.0 given.1.are_words;
        ends = ends;
      };
      kind_is = refl;
    }

gapped : (cs others : List Character) (P : List Character → Type 0) → behind_gap Brackets cs ≡ others → ((gap : List Character) → list_all (is_gap Brackets) gap ≡ true → P (gap ++ others)) → P cs
gapped cs others P is holds =
    let given = gap_split Brackets cs in
    subst P (sym (given.split ∙ ap (λ xs. given.gap ++ xs) is)) (holds given.gap given.blank)

inner_over : (cs next : List Character) → behind_gap Brackets cs ≡ Plain 93 ∷ next → Inner cs next
inner_over cs next is = λ at.
    let given = gap_split Brackets cs in
    ([], record { source = given.gap; split = given.split ∙ ap (λ xs. given.gap ++ xs) is; are_words = none Brackets at given.gap given.blank; ends = refl })

closed_tail : (depth : ℕ) (cs rest : List Character) → AreClosed depth cs rest → Tail depth cs rest
unfolding next_part
closed_tail _ _ _ (last cs rest e) = inner_over cs rest (closing_is _ _ e)
closed_tail _ _ _ (closes depth cs next rest e ends closed) = (next, (inner_over cs next (closing_is _ _ e), (ends, closed_tail depth next rest closed)))
closed_tail _ _ _ (opens depth cs next rest e closed) =
    let tail = closed_tail (suc depth) next rest closed in
    gapped cs (Plain 91 ∷ next) (λ xs. Tail depth xs rest) (opening_is _ _ e) (λ gap blank.
    tail_more depth gap (Plain 91 ∷ next) tail.0 rest Bracket blank (λ at. bracket_stands Brackets at next tail.0 tail.1.0 tail.1.1.0) tail.1.1.1)
closed_tail _ _ _ (passes depth cs next rest e closed) =
    let whole = whole_is _ _ e in
    gapped cs (whole.first ∷ whole.others) (λ xs. Tail depth xs rest) whole.split (λ gap blank.
    tail_more depth gap (whole.first ∷ whole.others) next rest (kind_of whole.first) blank (λ at. simple_stands Brackets at whole.first whole.others next whole.found) (closed_tail depth next rest closed))

-- where brackets are found to close, words stand in them
pub closed_inner : (cs rest : List Character) → AreClosed 0 cs rest → Inner cs rest
closed_inner cs rest closed = closed_tail 0 cs rest closed

-- the first word of those that stand at the front
pub record HasFirstWord (scope : Scope) (at : ℕ) (gap cs rest : List Character) (all : List Word) : Type 0 where
  pub word : Word
  pub others : List Word
  pub next : List Character
  pub all_is : all ≡ word ∷ others
  pub stands : Stands scope (at + size gap) cs next word
  pub behind : StandAll scope (at + size gap + size stands.source) next rest others

first_kept : (scope : Scope) (source rest : List Character) → HasFirst scope source → behind_gap scope (source ++ rest) ≡ source ++ rest
first_kept scope source rest first =
    let P : List Character → Type 0 = λ xs. behind_gap scope (xs ++ rest) ≡ xs ++ rest in
    let kept : P (first.first ∷ first.others) = rw first.inner.no_gap refl in
    subst P (sym first.split) kept

first_on : (scope : Scope) (source rest : List Character) → HasFirst scope source → ends_by (is_end scope) (source ++ rest) ≡ false
first_on scope source rest first =
    let P : List Character → Type 0 = λ xs. ends_by (is_end scope) (xs ++ rest) ≡ false in
    subst P (sym first.split) first.inner.no_end

first_in : (scope : Scope) (at : ℕ) (source : List Character) (all : List Word) → AreWords scope at source all → (gap cs rest : List Character) → gap ++ cs ≡ source ++ rest → ends_by (is_end scope) rest ≡ true →
    list_all (is_gap scope) gap ≡ true → behind_gap scope cs ≡ cs → ends_by (is_end scope) cs ≡ false → HasFirstWord scope at gap cs rest all
first_in _ _ _ _ (none scope at blanks blank) gap cs rest split ends gap_is kept on =
    let same : cs ≡ rest = sym kept ∙ sym (gap_passed scope gap cs gap_is) ∙ ap (behind_gap scope) split ∙ gap_passed scope blanks rest blank ∙ end_kept scope rest ends in
    absurd (let wrong : false ≡ true = sym on ∙ ap (ends_by (is_end scope)) same ∙ ends in cc)
first_in _ _ _ all (more scope at blanks source others word words blank is gap_is are) gap cs rest split ends gap_blank kept on =
    let first = word_first scope _ source word is in
    let regroup : (blanks ++ (source ++ others)) ++ rest ≡ blanks ++ (source ++ (others ++ rest)) = simp append_assoc in
    let whole : gap ++ cs ≡ blanks ++ (source ++ (others ++ rest)) = split ∙ regroup in
    let same : cs ≡ source ++ (others ++ rest) =
    sym kept ∙ sym (gap_passed scope gap cs gap_blank) ∙ ap (behind_gap scope) whole ∙ gap_passed scope blanks (source ++ (others ++ rest)) blank ∙ first_kept scope source (others ++ rest) first in
    let gaps : gap ≡ blanks = append_cancel_right gap blanks cs (whole ∙ ap (λ xs. blanks ++ xs) (sym same)) in
    subst (λ (xs : List Character). HasFirstWord scope at xs cs rest (word ∷ words)) (sym gaps) (record {
      word = word;
      others = words;
      next = others ++ rest;
      all_is = refl;
      stands = record { source = source; split = same; is_word = is; ends = gap_behind scope others rest gap_is ends };
      behind = record { source = others; split = refl; are_words = are; ends = ends };
    })

pub first_word : (scope : Scope) (at : ℕ) (gap cs rest : List Character) (all : List Word) → StandAll scope at (gap ++ cs) rest all → list_all (is_gap scope) gap ≡ true → behind_gap scope cs ≡ cs → ends_by (is_end scope) cs ≡ false →
    HasFirstWord scope at gap cs rest all
first_word scope at gap cs rest all given blank kept on = first_in scope at given.source all given.are_words gap cs rest given.split given.ends blank kept on

-- where an end stands at the front behind white space, there are no words
over_in : (scope : Scope) (at : ℕ) (source : List Character) (all : List Word) → AreWords scope at source all → (gap cs rest : List Character) → gap ++ cs ≡ source ++ rest → ends_by (is_end scope) rest ≡ true →
    list_all (is_gap scope) gap ≡ true → ends_by (is_end scope) cs ≡ true → (cs ≡ rest) × ([] ≡ all)
over_in _ _ _ _ (none scope at blanks blank) gap cs rest split ends gap_is over =
    (sym (end_kept scope cs over) ∙ sym (gap_passed scope gap cs gap_is) ∙ ap (behind_gap scope) split ∙ gap_passed scope blanks rest blank ∙ end_kept scope rest ends, refl)
over_in _ _ _ all (more scope at blanks source others word words blank is gap_is are) gap cs rest split ends gap_blank over =
    let first = word_first scope _ source word is in
    let regroup : (blanks ++ (source ++ others)) ++ rest ≡ blanks ++ (source ++ (others ++ rest)) = simp append_assoc in
    let same : cs ≡ source ++ (others ++ rest) =
    sym (end_kept scope cs over) ∙ sym (gap_passed scope gap cs gap_blank) ∙ ap (behind_gap scope) (split ∙ regroup) ∙ gap_passed scope blanks (source ++ (others ++ rest)) blank ∙ first_kept scope source (others ++ rest) first in
    absurd (let wrong : true ≡ false = sym over ∙ ap (ends_by (is_end scope)) same ∙ first_on scope source (others ++ rest) first in cc)

once_in : (scope : Scope) (at : ℕ) (source : List Character) (words : List Word) → AreWords scope at source words → (cs rest other_rest : List Character) (others : List Word) → cs ≡ source ++ rest → ends_by (is_end scope) rest ≡ true →
    StandAll scope at cs other_rest others → (rest ≡ other_rest) × (words ≡ others)
once_in _ _ _ _ (none scope at gap blank) cs rest other_rest others split ends given = over_in scope at given.source others given.are_words gap rest other_rest (sym split ∙ given.split) given.ends blank ends
once_in _ _ _ _ (more scope at gap source behind word words blank is gap_is are) cs rest other_rest others split ends given =
    let first = word_first scope _ source word is in
    let regroup : (gap ++ (source ++ behind)) ++ rest ≡ gap ++ (source ++ (behind ++ rest)) = simp append_assoc in
    let other = first_in scope at given.source others given.are_words gap (source ++ (behind ++ rest)) other_rest (sym (split ∙ regroup) ∙ given.split) given.ends blank (first_kept scope source (behind ++ rest) first) (first_on scope source (behind ++ rest) first) in
    let stands : Stands scope (at + size gap) (source ++ (behind ++ rest)) (behind ++ rest) word = record { source = source; split = refl; is_word = is; ends = gap_behind scope behind rest gap_is ends } in
    let same = stands_once scope _ _ _ _ word other.word stands other.stands in
    let P : List Character → Type 0 = λ xs. StandAll scope (at + size gap + size xs) (behind ++ rest) other_rest other.others in
    let Q : List Character → Type 0 = λ xs. StandAll scope (at + size gap + size other.stands.source) xs other_rest other.others in
    let left_over = once_in scope (at + size gap + size source) behind words are (behind ++ rest) rest other_rest other.others refl ends (subst P (sym same.1.1) (subst Q (sym same.0) other.behind)) in
    (left_over.0, ap (λ w. w ∷ words) same.1.0 ∙ ap (λ ws. other.word ∷ ws) left_over.1 ∙ sym other.all_is)

-- the words that stand at the front are determined, and so is what is behind them
pub all_once : (scope : Scope) (at : ℕ) (cs first second : List Character) (words others : List Word) → StandAll scope at cs first words → StandAll scope at cs second others → (first ≡ second) × (words ≡ others)
all_once scope at cs first second words others a b = once_in scope at a.source words a.are_words cs first second others a.split a.ends b
