-- Commands and words as parts of a text.
use Rattle.std.proofs.Common.{◌≡◌, ℕ, ◌+◌, ◌<◌, ◌≤◌, List, [], ◌∷◌, ◌++◌, length, map, sym, ap, ◌∙◌, subst, arith, append_assoc, length-append}
use Rattle.std.proofs.lemmas.List.{length-map}
use Rattle.std.specs.List.{AllByRecursion}
use Rattle.tcl_words.specs.Characters.{characters, spelled, spelling, size, meaning}
use Rattle.tcl_words.specs.Words.{IsWord, AreWords}
use Rattle.tcl_words.specs.Words.IsWord.{bare, quoted, braced, bracket}
use Rattle.tcl_words.specs.Words.AreWords.{none, more}
use Rattle.tcl_words.specs.Commands.{kept, AreCommands, IsWordOf, AreWordsOf, AreCommandsOf, AreBracketWords}
use Rattle.tcl_words.specs.declared.characters.Character.{Character}
use Rattle.tcl_words.specs.declared.characters.Character.TheVariants.{Plain, Escaped}
use Rattle.tcl_words.specs.declared.characters.Scope.{Scope}
use Rattle.tcl_words.specs.declared.characters.Scope.TheVariants.{Line, Brackets}
use Rattle.tcl_words.specs.declared.words.Word.{Word}
use Rattle.tcl_words.proofs.CharacterLemmas.{size-append, spelling_characters, front_characters, behind_characters}
use Rattle.tcl_words.proofs.WordLemmas.{word_first}

-- characters that are those of their spelling
abbrev IsOwn : List Character → Type 0
IsOwn cs = characters (spelling cs) ≡ cs

own_behind : (xs ys : List Character) → IsOwn (xs ++ ys) → IsOwn ys
own_behind [] ys own = own
own_behind (x ∷ xs) ys own = own_behind xs ys (behind_characters x (xs ++ ys) own)

spelled_some : (c : Character) → 1 ≤ length (spelled c)
spelled_some (Plain b) = omega arith
spelled_some (Escaped b) = omega arith

count_size : (cs : List Character) → length cs ≤ size cs
count_size [] = omega arith
count_size (c ∷ cs) =
    let rest = count_size cs in
    let first = spelled_some c in
    let whole = length-append (spelled c) (spelling cs) in
    omega arith

meaning_size : (cs : List Character) → length (map meaning cs) ≤ size cs
meaning_size cs = (let count = count_size cs in let same : length (map meaning cs) ≡ length cs = length-map cs meaning in omega arith)

enclosed_size : (a b : ℕ) (cs : List Character) → size (Plain a ∷ (cs ++ Plain b ∷ [])) ≡ 1 + (size cs + 1)
enclosed_size a b cs = (let whole = size-append cs (Plain b ∷ []) in omega (arith, whole))

pub word_of : (scope : Scope) (at : ℕ) (source : List Character) (word : Word) → IsWord scope at source word → IsOwn source → (stop : ℕ) → at + size source ≤ stop → IsWordOf stop word
word_of _ _ _ _ (bare scope at c cs opens_is is) own stop room =
    record { within = (let text = meaning_size (c ∷ cs) in omega arith); brackets = λ is. absurd (cc) }
word_of _ _ _ _ (quoted scope at cs all) own stop room =
    record { within = (let text = meaning_size cs in let whole = enclosed_size 34 34 cs in omega arith); brackets = λ is. absurd (cc) }
word_of _ _ _ _ (braced scope at cs balanced ascii) own stop room =
    record { within = (let whole = enclosed_size 123 125 cs in omega arith); brackets = λ is. absurd (cc) }
word_of _ _ _ _ (bracket scope at cs words are) own stop room =
    let inside : IsOwn cs = front_characters cs (Plain 93 ∷ []) (behind_characters (Plain 91) (cs ++ Plain 93 ∷ []) own) in
    record { within = (let whole = enclosed_size 91 93 cs in omega arith); brackets = λ is. (words, subst (λ (xs : List Character). AreWords Brackets (at + 1) xs words) (sym inside) are) }

-- each word is one of the text, and there are no more than bytes
record AreParts (stop most : ℕ) (words : List Word) : Type 0 where
  each : AllByRecursion (IsWordOf stop) words
  count : length words ≤ most

some_size : (cs : List Character) (first : Character) (others : List Character) → cs ≡ first ∷ others → 1 ≤ size cs
some_size cs first others is = rw is (let begin = spelled_some first in let whole = length-append (spelled first) (spelling others) in omega arith)

words_of : (scope : Scope) (at : ℕ) (source : List Character) (words : List Word) → AreWords scope at source words → IsOwn source → (stop : ℕ) → at + size source ≤ stop → AreParts stop (size source) words
words_of _ _ _ _ (none scope at gap blank) own stop room = record { each = tt; count = omega arith }
words_of _ _ _ _ (more scope at gap source rest word words blank is gap_is are) own stop room =
    let sizes : size (gap ++ (source ++ rest)) ≡ size gap + (size source + size rest) = size-append gap (source ++ rest) ∙ ap (λ n. size gap + n) (size-append source rest) in
    let behind = own_behind gap (source ++ rest) own in
    let first = word_first scope (at + size gap) source word is in
    let some = some_size source first.first first.others first.split in
    let others = words_of scope (at + size gap + size source) rest words are (own_behind source rest behind) stop (omega arith) in
    record {
      each = (word_of scope (at + size gap) source word is (front_characters source rest behind) stop (omega arith), others.each);
      count = (let count = others.count in omega arith);
    }

record AreAllParts (stop most : ℕ) (commands : List (List Word)) : Type 0 where
  each : AllByRecursion (AreWordsOf stop) commands
  named : AllByRecursion (λ words. 0 < length words) commands
  count : length commands ≤ most

kept_parts : (stop most : ℕ) (words : List Word) → AreParts stop most words → most ≤ stop → AreAllParts stop most (kept words)
kept_parts stop most [] parts room = record { each = tt; named = tt; count = omega arith }
kept_parts stop most (word ∷ words) parts room =
    let count = parts.count in
    record { each = (record { count = omega arith; each = parts.each }, tt); named = (omega arith, tt); count = omega arith }

both : {X : Type 0} (P : X → Type 0) (xs ys : List X) → AllByRecursion P xs → AllByRecursion P ys → AllByRecursion P (xs ++ ys)
both P [] ys first second = second
both P (x ∷ xs) ys first second = (first.0, both P xs ys first.1 second)

joined_parts : (stop m n most : ℕ) (xs ys : List (List Word)) → AreAllParts stop m xs → AreAllParts stop n ys → m + n ≤ most → AreAllParts stop most (xs ++ ys)
joined_parts stop m n most xs ys first second room =
    let front = first.count in
    let back = second.count in
    let whole = length-append xs ys in
    record {
      each = both (AreWordsOf stop) xs ys first.each second.each;
      named = both (λ words. 0 < length words) xs ys first.named second.named;
      count = omega arith;
    }

all_of : (at : ℕ) (cs : List Character) (commands : List (List Word)) → AreCommands at cs commands → IsOwn cs → (stop : ℕ) → at + size cs ≤ stop → AreAllParts stop (size cs) commands
all_of _ _ _ (AreCommands.command at cs words is) own stop room = kept_parts stop (size cs) words (words_of Line at cs words is.are_words own stop room) (omega arith)
all_of _ _ _ (AreCommands.comment at cs is) own stop room = record { each = tt; named = tt; count = omega arith }
all_of _ _ _ (AreCommands.behind_command at cs rest end words commands is ends given) own stop room =
    let sizes : size (cs ++ end ∷ rest) ≡ size (cs ++ end ∷ []) + size rest = ap size (sym (append_assoc cs (end ∷ []) rest)) ∙ size-append (cs ++ end ∷ []) rest in
    let front : size (cs ++ end ∷ []) ≡ size cs + size (end ∷ []) = size-append cs (end ∷ []) in
    let first = kept_parts stop (size cs) words (words_of Line at cs words is.are_words (front_characters cs (end ∷ rest) own) stop (omega arith)) (omega arith) in
    let others = all_of (at + size (cs ++ end ∷ [])) rest commands given (own_behind (cs ++ end ∷ []) rest (subst IsOwn (sym (append_assoc cs (end ∷ []) rest)) own)) stop (omega arith) in
    joined_parts stop (size cs) (size rest) (size (cs ++ end ∷ rest)) (kept words) commands first others (omega arith)
all_of _ _ _ (AreCommands.behind_comment at cs rest end commands is ends given) own stop room =
    let sizes : size (cs ++ end ∷ rest) ≡ size (cs ++ end ∷ []) + size rest = ap size (sym (append_assoc cs (end ∷ []) rest)) ∙ size-append (cs ++ end ∷ []) rest in
    let others = all_of (at + size (cs ++ end ∷ [])) rest commands given (own_behind (cs ++ end ∷ []) rest (subst IsOwn (sym (append_assoc cs (end ∷ []) rest)) own)) stop (omega arith) in
    let none : AreAllParts stop 0 [] = record { each = tt; named = tt; count = omega arith } in
    joined_parts stop 0 (size rest) (size (cs ++ end ∷ rest)) [] commands none others (omega arith)

own_characters : (text : List ℕ) → IsOwn (characters text)
own_characters text = ap characters (spelling_characters text)

size_characters : (text : List ℕ) → size (characters text) ≡ length text
size_characters text = ap length (spelling_characters text)

pub commands_of : (text : List ℕ) (commands : List (List Word)) → AreCommands 0 (characters text) commands → AreCommandsOf (length text) commands
commands_of text commands given =
    let whole = size_characters text in
    let parts = all_of 0 (characters text) commands given (own_characters text) (length text) (omega arith) in
    let count = parts.count in
    record { count = omega arith; named = parts.named; each = parts.each }

pub brackets_of : (at : ℕ) (text : List ℕ) (words : List Word) → AreBracketWords at text words → AreWordsOf (at + length text) words
brackets_of at text words given =
    let whole = size_characters text in
    let parts = words_of Brackets at (characters text) words given (own_characters text) (at + length text) (omega arith) in
    let count = parts.count in
    record { count = omega arith; each = parts.each }
