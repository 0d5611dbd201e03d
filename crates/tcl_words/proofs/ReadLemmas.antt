-- What is read from an offset of a text.
use Rattle.std.proofs.Common.{◌≡◌, ℕ, ◌+◌, ◌-◌, ◌≤◌, true, false, Some, None, List, [], ◌∷◌, ◌++◌, length, take, drop, map, refl, sym, ap, ◌∙◌, subst, arith, Err}
use Rattle.std.specs.List.{list_all}
use Rattle.tcl_words.specs.Characters.{characters, spelling, size, is_byte, meaning, is_gap, is_end}
use Rattle.tcl_words.specs.Words.{IsWord}
use Rattle.tcl_words.specs.Words.IsWord.{bare, quoted, braced, bracket}
use Rattle.tcl_words.specs.Words.AreWords.{none}
use Rattle.tcl_words.specs.Commands.{behind_gap}
use Rattle.tcl_words.specs.Scanning.{left, is_behind, ends_by, simple_rest, AreClosed, Stands, StandAll}
use Rattle.tcl_words.specs.Answers.{kind_of, between, text_of, IsEnclosed, IsWordAnswer, IsWordsAnswer}
use Rattle.tcl_words.specs.declared.words.TclFault.{TclFault}
use Rattle.tcl_words.specs.declared.words.TclFault.TheVariants.{Syntax, NoMemory}
use Rattle.tcl_words.specs.declared.characters.Character.{Character}
use Rattle.tcl_words.specs.declared.characters.Character.TheVariants.{Plain}
use Rattle.tcl_words.specs.declared.characters.Scope.{Scope}
use Rattle.tcl_words.specs.declared.words.Word.{Word}
use Rattle.tcl_words.specs.declared.words.WordKind.{WordKind}
use Rattle.tcl_words.specs.declared.words.WordKind.TheVariants.{Bare, Quoted, Braced, Bracket}
use Rattle.text_scan.proofs.Binds.{by_test}
use Rattle.tcl_words.proofs.CharacterLemmas.{byte_is, spelling-append, size-append, front_characters, behind_characters, stretch_is}
use Rattle.tcl_words.proofs.GapLemmas.{gap_split, behind_twice}
use Rattle.tcl_words.proofs.ClosedLemmas.{closed_once}
use Rattle.tcl_words.proofs.WordLemmas.{IsBehind, stands_behind, stands_once, between_is}
use Rattle.tcl_words.proofs.WordLemmas.IsBehind.{simple, in_brackets}
use Rattle.tcl_words.proofs.StandLemmas.{bracket_stands, simple_stands, closed_inner, more_words, first_word}

bracket_kind : (c : Character) → kind_of c ≡ Bracket → c ≡ Plain 91
bracket_kind c kind =
    by_test (is_byte 34 c)
    (λ quote. absurd (let wrong : Quoted ≡ Bracket = rw quote at kind in cc))
    (λ no_quote. by_test (is_byte 123 c)
    (λ brace. absurd (let wrong : Braced ≡ Bracket = rw (no_quote, brace) at kind in cc))
    (λ no_brace. by_test (is_byte 91 c)
    (λ opening. byte_is 91 c opening)
    (λ neither. absurd (let wrong : Bare ≡ Bracket = rw (no_quote, no_brace, neither) at kind in cc))))

no_bracket : (c : Character) → (kind_of c ≡ Bracket → ⊥) → is_byte 91 c ≡ false
no_bracket c isnt = by_test (is_byte 91 c) (λ is. absurd (isnt (ap kind_of (byte_is 91 c is)))) (λ other. other)

-- what is behind a word in brackets
behind_bracket : (scope : Scope) (cs rest : List Character) → IsBehind scope cs rest → (others : List Character) → cs ≡ Plain 91 ∷ others → AreClosed 0 others rest × (ends_by (is_behind scope) rest ≡ true)
behind_bracket scope _ _ (simple c cs rest isnt found) others is =
    absurd (let same : c ≡ Plain 91 = cc in let wrong : true ≡ false = sym (ap (is_byte 91) same) ∙ isnt in cc)
behind_bracket scope _ _ (in_brackets cs rest closed ends) others is =
    let same : cs ≡ others = cc in
    (subst (λ (xs : List Character). AreClosed 0 xs rest) same closed, ends)

behind_simple : (scope : Scope) (cs rest : List Character) → IsBehind scope cs rest → (c : Character) (others : List Character) → cs ≡ c ∷ others → is_byte 91 c ≡ false → simple_rest scope cs ≡ Some rest
behind_simple scope _ _ (simple c cs rest isnt found) first others is not_open = found
behind_simple scope _ _ (in_brackets cs rest closed ends) first others is not_open =
    absurd (let same : Plain 91 ≡ first = cc in let wrong : true ≡ false = ap (is_byte 91) same ∙ not_open in cc)

pub bracket_found : (scope : Scope) (at : ℕ) (cs others rest : List Character) (c : Character) (kind : WordKind) → cs ≡ c ∷ others → kind ≡ kind_of c → kind ≡ Bracket → AreClosed 0 others rest → ends_by (is_behind scope) rest ≡ true →
    (word : Word) × (Stands scope at cs rest word × (word.kind ≡ Bracket))
bracket_found scope at cs others rest c kind split kind_is is closed ends =
    let first = bracket_kind c (sym kind_is ∙ is) in
    let given = bracket_stands scope at others rest (closed_inner others rest closed) ends in
    let whole : Plain 91 ∷ others ≡ cs = ap (λ d. d ∷ others) (sym first) ∙ sym split in
    (given.word, (subst (λ (xs : List Character). Stands scope at xs rest given.word) whole given.stands, given.kind_is))

pub bracket_missing : (scope : Scope) (at : ℕ) (cs others : List Character) (c : Character) (kind : WordKind) → cs ≡ c ∷ others → kind ≡ kind_of c → kind ≡ Bracket → ((rest : List Character) → AreClosed 0 others rest → ⊥) →
    (rest : List Character) (word : Word) → Stands scope at cs rest word → ⊥
bracket_missing scope at cs others c kind split kind_is is unclosed rest word given =
    let first = bracket_kind c (sym kind_is ∙ is) in
    unclosed rest (behind_bracket scope cs rest (stands_behind scope at cs rest word given) others (split ∙ ap (λ d. d ∷ others) first)).0

pub bracket_joined : (scope : Scope) (at : ℕ) (cs others end : List Character) (c : Character) (kind : WordKind) → cs ≡ c ∷ others → kind ≡ kind_of c → kind ≡ Bracket → AreClosed 0 others end → ends_by (is_behind scope) end ≡ false →
    (rest : List Character) (word : Word) → Stands scope at cs rest word → ⊥
bracket_joined scope at cs others end c kind split kind_is is closed on rest word given =
    let first = bracket_kind c (sym kind_is ∙ is) in
    let behind = behind_bracket scope cs rest (stands_behind scope at cs rest word given) others (split ∙ ap (λ d. d ∷ others) first) in
    let same = closed_once 0 others end rest closed behind.0 in
    let wrong : false ≡ true = sym on ∙ ap (ends_by (is_behind scope)) same ∙ behind.1 in
    cc

pub simple_found : (scope : Scope) (at : ℕ) (cs others rest : List Character) (c : Character) (kind : WordKind) → cs ≡ c ∷ others → kind ≡ kind_of c → simple_rest scope cs ≡ Some rest →
    (word : Word) × (Stands scope at cs rest word × (word.kind ≡ kind))
simple_found scope at cs others rest c kind split kind_is found =
    let given = simple_stands scope at c others rest (ap (simple_rest scope) (sym split) ∙ found) in
    (given.word, (subst (λ (xs : List Character). Stands scope at xs rest given.word) (sym split) given.stands, given.kind_is ∙ sym kind_is))

pub simple_missing : (scope : Scope) (at : ℕ) (cs others : List Character) (c : Character) (kind : WordKind) → cs ≡ c ∷ others → kind ≡ kind_of c → (kind ≡ Bracket → ⊥) → simple_rest scope cs ≡ None →
    (rest : List Character) (word : Word) → Stands scope at cs rest word → ⊥
simple_missing scope at cs others c kind split kind_is isnt missing rest word given =
    let found = behind_simple scope cs rest (stands_behind scope at cs rest word given) c others split (no_bracket c (λ e. isnt (kind_is ∙ e))) in
    let wrong : None ≡ Some rest = sym missing ∙ found in
    cc

enclosed_size : (x y : Character) (cs : List Character) (a b : ℕ) → x ≡ Plain a → y ≡ Plain b → 2 ≤ size (x ∷ (cs ++ y ∷ []))
enclosed_size x y cs a b first last = rw (first, last) (let whole = size-append cs (Plain b ∷ []) in omega (arith, whole))

-- a word that isn't bare has a first and a last byte
pub word_enclosed : (scope : Scope) (at : ℕ) (source : List Character) (word : Word) → IsWord scope at source word → IsEnclosed word.kind (size source)
word_enclosed _ _ _ _ (bare scope at c cs opens_is is) = tt
word_enclosed _ _ _ _ (quoted scope at cs all) = enclosed_size (Plain 34) (Plain 34) cs 34 34 refl refl
word_enclosed _ _ _ _ (braced scope at cs balanced ascii) = enclosed_size (Plain 123) (Plain 125) cs 123 125 refl refl
word_enclosed _ _ _ _ (bracket scope at cs words are) = enclosed_size (Plain 91) (Plain 93) cs 91 93 refl refl

between_spelled : (a b : ℕ) (cs : List Character) → between (a ∷ spelling (cs ++ Plain b ∷ [])) ≡ spelling cs
between_spelled a b cs = rw (spelling-append cs (Plain b ∷ [])) (between_is a b (spelling cs))

-- the text of a word, from its bytes
pub word_text : (scope : Scope) (at : ℕ) (source : List Character) (word : Word) → IsWord scope at source word → characters (spelling source) ≡ source → text_of word.kind (spelling source) ≡ word.text
word_text _ _ _ _ (bare scope at c cs opens_is is) own = ap (map meaning) own
word_text _ _ _ _ (quoted scope at cs all) own =
    ap (λ bs. map meaning (characters bs)) (between_spelled 34 34 cs)
    ∙ ap (map meaning) (front_characters cs (Plain 34 ∷ []) (behind_characters (Plain 34) (cs ++ Plain 34 ∷ []) own))
word_text _ _ _ _ (braced scope at cs balanced ascii) own = between_spelled 123 125 cs
word_text _ _ _ _ (bracket scope at cs words are) own = between_spelled 91 93 cs

pub word_at : (scope : Scope) (at : ℕ) (source : List Character) (word : Word) → IsWord scope at source word → at ≡ word.at
word_at _ _ _ _ (bare scope at c cs opens_is is) = refl
word_at _ _ _ _ (quoted scope at cs all) = refl
word_at _ _ _ _ (braced scope at cs balanced ascii) = refl
word_at _ _ _ _ (bracket scope at cs words are) = refl

-- the bytes of a word are enough for its kind
pub word_bytes : (scope : Scope) (text : List ℕ) (place at end : ℕ) (kind : WordKind) (word : Word) → Stands scope place (left text at) (left text end) word → word.kind ≡ kind → at ≤ length text → end ≤ length text →
    IsEnclosed kind (length (take (end - at) (drop at text)))
word_bytes scope text place at end kind word given kind_is from within =
    let stretch = stretch_is text at end given.source given.split from within in
    rw (stretch.bytes) (subst (λ (k : WordKind). IsEnclosed k (size given.source)) kind_is (word_enclosed scope place given.source word given.is_word))

-- the word is made of its place, its kind and its text
pub word_made : (scope : Scope) (text : List ℕ) (place at end : ℕ) (kind : WordKind) (word : Word) (bytes : List ℕ) → Stands scope place (left text at) (left text end) word → word.kind ≡ kind → at ≤ length text → end ≤ length text →
    bytes ≡ text_of kind (take (end - at) (drop at text)) → Stands scope place (left text at) (left text end) (record { at = place; kind = kind; text = bytes })
word_made scope text place at end kind word bytes given kind_is from within bytes_is =
    let stretch = stretch_is text at end given.source given.split from within in
    let text_is : word.text ≡ bytes =
    sym (word_text scope place given.source word given.is_word stretch.own) ∙ ap (λ k. text_of k (spelling given.source)) kind_is ∙ ap (text_of kind) (sym stretch.bytes) ∙ sym bytes_is in
    let P : Word → Type 0 = λ w. Stands scope place (left text at) (left text end) w in
    let made : record { at = word.at; kind = word.kind; text = word.text } ≡ record { at = place; kind = kind; text = bytes } = λ i. record { at = sym (word_at scope place given.source word given.is_word) i; kind = kind_is i; text = text_is i } in
    subst P made given

-- a turn of the loop: a word, and words behind it
pub record IsWordTurn (scope : Scope) (at behind : ℕ) (cs next : List Character) (word : Word) : Type 0 where
  pub enough : (rest : List Character) (others : List Word) → StandAll scope behind next rest others → StandAll scope at cs rest (word ∷ others)
  pub needed : (rest : List Character) (all : List Word) → StandAll scope at cs rest all → (others : List Word) × ((all ≡ word ∷ others) × StandAll scope behind next rest others)

-- white space up to an offset
record IsGapTo (scope : Scope) (text : List ℕ) (at start : ℕ) : Type 0 where
  gap : List Character
  blank : list_all (is_gap scope) gap ≡ true
  split : left text at ≡ gap ++ left text start
  place : start ≡ at + size gap
  kept : behind_gap scope (left text start) ≡ left text start

gap_to : (scope : Scope) (text : List ℕ) (at start : ℕ) → left text start ≡ behind_gap scope (left text at) → at ≤ length text → start ≤ length text → IsGapTo scope text at start
gap_to scope text at start is from within =
    let given = gap_split scope (left text at) in
    let split : left text at ≡ given.gap ++ left text start = given.split ∙ ap (λ xs. given.gap ++ xs) (sym is) in
    record {
      gap = given.gap;
      blank = given.blank;
      split = split;
      place = (stretch_is text at start given.gap split from within).place;
      kept = ap (behind_gap scope) is ∙ behind_twice scope (left text at) ∙ sym is;
    }

pub word_turn : (scope : Scope) (text : List ℕ) (base at start behind : ℕ) (word : Word) → left text start ≡ behind_gap scope (left text at) → ends_by (is_end scope) (left text start) ≡ false → Stands scope (base + start) (left text start) (left text behind) word →
    at ≤ length text → start ≤ length text → behind ≤ length text → IsWordTurn scope (base + at) (base + behind) (left text at) (left text behind) word
word_turn scope text base at start behind word is on stands from within after =
    let gap = gap_to scope text at start is from within in
    let begin : base + start ≡ base + at + size gap.gap = omega (arith, gap.place) in
    let moved : Stands scope (base + at + size gap.gap) (left text start) (left text behind) word =
    record { source = stands.source; split = stands.split; is_word = subst (λ (n : ℕ). IsWord scope n stands.source word) begin stands.is_word; ends = stands.ends } in
    let stretch = stretch_is text start behind stands.source stands.split within after in
    let place : base + behind ≡ base + at + size gap.gap + size stands.source = omega (arith, gap.place, stretch.place) in
    record {
      enough = λ rest others given.
          let there = subst (λ (n : ℕ). StandAll scope n (left text behind) rest others) place given in
          subst (λ (xs : List Character). StandAll scope (base + at) xs rest (word ∷ others)) (sym gap.split)
          (more_words scope (base + at) gap.gap (left text start) (left text behind) rest word others gap.blank moved there);
      needed = λ rest all given.
          let first = first_word scope (base + at) gap.gap (left text start) rest all (subst (λ (xs : List Character). StandAll scope (base + at) xs rest all) gap.split given) gap.blank gap.kept on in
          let same = stands_once scope (base + at + size gap.gap) (left text start) (left text behind) first.next word first.word moved first.stands in
          let Q : List Character → Type 0 = λ xs. StandAll scope (base + at + size gap.gap + size first.stands.source) xs rest first.others in
          let R : List Character → Type 0 = λ xs. StandAll scope (base + at + size gap.gap + size xs) (left text behind) rest first.others in (
            first.others,
            (
              first.all_is ∙ ap (λ w. w ∷ first.others) (sym same.1.0),
              subst (λ (n : ℕ). StandAll scope n (left text behind) rest first.others) (sym place) (subst R (sym same.1.1) (subst Q (sym same.0) first.behind)),
            ),
          );
    }

-- no words stand where no first word does
pub no_words : (scope : Scope) (text : List ℕ) (base at start : ℕ) → left text start ≡ behind_gap scope (left text at) → ends_by (is_end scope) (left text start) ≡ false → at ≤ length text → start ≤ length text →
    ((rest : List Character) (word : Word) → Stands scope (base + start) (left text start) rest word → ⊥) → (rest : List Character) (all : List Word) → StandAll scope (base + at) (left text at) rest all → ⊥
no_words scope text base at start is on from within missing rest all given =
    let gap = gap_to scope text at start is from within in
    let begin : base + start ≡ base + at + size gap.gap = omega (arith, gap.place) in
    let first = first_word scope (base + at) gap.gap (left text start) rest all (subst (λ (xs : List Character). StandAll scope (base + at) xs rest all) gap.split given) gap.blank gap.kept on in
    missing first.next first.word (record { source = first.stands.source; split = first.stands.split; is_word = subst (λ (n : ℕ). IsWord scope n first.stands.source first.word) (sym begin) first.stands.is_word; ends = first.stands.ends })

-- at an end there are no words left
pub words_over : (scope : Scope) (text : List ℕ) (place at start : ℕ) → left text start ≡ behind_gap scope (left text at) → ends_by (is_end scope) (left text start) ≡ true → StandAll scope place (left text at) (left text start) []
words_over scope text place at start is over =
    let given = gap_split scope (left text at) in
    record { source = given.gap; split = given.split ∙ ap (λ xs. given.gap ++ xs) (sym is); are_words = none scope place given.gap given.blank; ends = over }

pub words_refused : (scope : Scope) (text : List ℕ) (base at start : ℕ) (fault : TclFault) →
    (((rest : List Character) (word : Word) → Stands scope (base + start) (left text start) rest word → ⊥) → (rest : List Character) (all : List Word) → StandAll scope (base + at) (left text at) rest all → ⊥) →
    IsWordAnswer scope text base start (Err fault) → IsWordsAnswer scope text base at (Err fault)
words_refused scope text base at start (Syntax place) missing answer = (missing answer.0, answer.1)
words_refused scope text base at start NoMemory missing answer = tt
