-- What is answered of a whole text.
use Rattle.std.proofs.Common.{◌≡◌, ℕ, ◌+◌, ◌<◌, ◌≤◌, List, [], length, drop, Ok, Err, Result, refl, sym, ap, ◌∙◌, subst, arith, add-zero, length-drop, ◌-◌}
use Rattle.std.proofs.lemmas.List.{append-nil, drop_all}
use Rattle.std.specs.Prelude.{IfOk}
use Rattle.tcl_words.specs.Characters.{characters, spelling}
use Rattle.tcl_words.specs.Words.{AreWords}
use Rattle.tcl_words.specs.Commands.{Splits, IsCommandsAnswer, AreBracketWords, IsBracketAnswer, UnlessMemory, AreCommandsOf, AreWordsOf}
use Rattle.tcl_words.specs.Scanning.{left, StandAll}
use Rattle.tcl_words.specs.Answers.{IsWordsAnswer, IsBracketsAnswer}
use Rattle.tcl_words.specs.declared.characters.Character.{Character}
use Rattle.tcl_words.specs.declared.characters.Scope.TheVariants.{Brackets}
use Rattle.tcl_words.specs.declared.words.Word.{Word}
use Rattle.tcl_words.specs.declared.words.TclFault.{TclFault}
use Rattle.tcl_words.specs.declared.words.TclFault.TheVariants.{Syntax, NoMemory}
use Rattle.tcl_words.proofs.CharacterLemmas.{spelling_characters}
use Rattle.tcl_words.proofs.StandLemmas.{all_once}
use Rattle.tcl_words.proofs.LineLemmas.{commands_once}
use Rattle.tcl_words.proofs.PartLemmas.{commands_of, brackets_of}

-- the text of a word in brackets is one list of words
pub brackets_once : (at : ℕ) (text : List ℕ) (a b : List Word) → AreBracketWords at text a → AreBracketWords at text b → a ≡ b
brackets_once at text a b first second =
    (all_once Brackets at (characters text) [] [] a b
    (record { source = characters text; split = sym (append-nil (characters text)); are_words = first; ends = refl })
    (record { source = characters text; split = sym (append-nil (characters text)); are_words = second; ends = refl })).1

pub commands_found : (text : List ℕ) (result : Result (List (List Word)) TclFault) → IsCommandsAnswer text result → (all : List (List Word)) → Splits text all → UnlessMemory result (result ≡ Ok all)
commands_found text (Ok commands) answer all given = ap (λ found. Ok found) (commands_once 0 (characters text) commands all answer given)
commands_found text (Err (Syntax at)) answer all given = absurd (answer all given)
commands_found text (Err NoMemory) answer all given = tt

pub commands_parts : (text : List ℕ) (result : Result (List (List Word)) TclFault) → IsCommandsAnswer text result → IfOk result (AreCommandsOf (length text))
commands_parts text (Ok commands) answer = commands_of text commands answer
commands_parts text (Err fault) answer = tt

pub brackets_found : (at : ℕ) (text : List ℕ) (result : Result (List Word) TclFault) → IsBracketAnswer at text result → (all : List Word) → AreBracketWords at text all → UnlessMemory result (result ≡ Ok all)
brackets_found at text (Ok words) answer all given = ap (λ found. Ok found) (brackets_once at text words all answer given)
brackets_found at text (Err (Syntax fault)) answer all given = absurd (answer all given)
brackets_found at text (Err NoMemory) answer all given = tt

pub brackets_parts : (at : ℕ) (text : List ℕ) (result : Result (List Word) TclFault) → IsBracketAnswer at text result → IfOk result (AreWordsOf (at + length text))
brackets_parts at text (Ok words) answer = brackets_of at text words answer
brackets_parts at text (Err fault) answer = tt

-- nothing is left at the end of a text, and only there
left_none : (text : List ℕ) (end : ℕ) → length text ≤ end → left text end ≡ []
unfolding left characters
left_none text end past = (let none = drop_all end text past in rw none refl)

left_some : (text : List ℕ) (end : ℕ) → end < length text → left text end ≡ [] → ⊥
unfolding left
left_some text end within none =
    let bytes : [] ≡ drop end text = ap spelling (sym none) ∙ spelling_characters (drop end text) in
    let count : 0 ≡ length text - end = ap length bytes ∙ length-drop end text in
    omega arith

whole_words : (at : ℕ) (text : List ℕ) (words : List Word) → StandAll Brackets at (characters text) [] words → AreBracketWords at text words
whole_words at text words given = subst (λ (xs : List Character). AreWords Brackets at xs words) (sym (given.split ∙ append-nil given.source)) given.are_words

pub brackets_over : (at : ℕ) (text : List ℕ) (end : ℕ) (words : List Word) → StandAll Brackets (at + 0) (left text 0) (left text end) words → length text ≤ end → IsBracketsAnswer at text (Ok words)
unfolding left
brackets_over at text end words given past =
    let place : StandAll Brackets at (characters text) (left text end) words = subst (λ (n : ℕ). StandAll Brackets n (characters text) (left text end) words) (add-zero at) given in
    record { answer = whole_words at text words (subst (λ (xs : List Character). StandAll Brackets at (characters text) xs words) (left_none text end past) place); within = tt }

pub brackets_closed : (at : ℕ) (text : List ℕ) (end : ℕ) (words : List Word) → StandAll Brackets (at + 0) (left text 0) (left text end) words → end < length text → IsBracketsAnswer at text (Err (Syntax (at + end)))
unfolding left
brackets_closed at text end words given within =
    let place : StandAll Brackets at (characters text) (left text end) words = subst (λ (n : ℕ). StandAll Brackets n (characters text) (left text end) words) (add-zero at) given in
    record {
      answer = λ all are. left_some text end within
          (all_once Brackets at (characters text) (left text end) [] words all place (record { source = characters text; split = sym (append-nil (characters text)); are_words = are; ends = refl })).0;
      within = omega arith;
    }

pub brackets_refused : (at : ℕ) (text : List ℕ) (fault : TclFault) → IsWordsAnswer Brackets text at 0 (Err fault) → IsBracketsAnswer at text (Err fault)
unfolding left
brackets_refused at text (Syntax place) answer =
    record {
      answer = λ all are. answer.0 [] all (subst (λ (n : ℕ). StandAll Brackets n (characters text) [] all) (sym (add-zero at))
          (record { source = characters text; split = sym (append-nil (characters text)); are_words = are; ends = refl }));
      within = answer.1;
    }
brackets_refused at text NoMemory answer = record { answer = tt; within = tt }
