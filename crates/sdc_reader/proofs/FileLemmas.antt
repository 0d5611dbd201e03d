-- Whole texts, command by command.
use Rattle.std.proofs.Common.{◌≡◌, ℕ, zero, suc, ◌+◌, ◌^◌, ◌<◌, ◌≤◌, true, false, List, [], ◌∷◌, ◌++◌, map, reverse, length, Option, Some, None, Result, Ok, Err, refl, sym, ap, ◌∙◌, subst, arith, append_assoc}
use Rattle.std.specs.List.{AllByRecursion}
use Rattle.std.proofs.lemmas.List.{append-nil, reverse-append, reverse-reverse}
use Rattle.text_scan.proofs.Binds.{by_test}
use Rattle.tcl_words.specs.Commands.{IsWordOf, AreWordsOf, AreCommandsOf, Splits}
use Rattle.tcl_words.specs.declared.words.Word.{Word}
use Rattle.tcl_words.specs.declared.words.WordKind.{WordKind}
use Rattle.tcl_words.specs.declared.words.WordKind.TheVariants.{Bare, Quoted, Braced, Bracket}
use Rattle.tcl_words.specs.Characters.{characters}
use Rattle.tcl_words.proofs.PartLemmas.{brackets_of, commands_of}
use Rattle.tcl_words.proofs.LineLemmas.{commands_once}
use Rattle.bud_syntax.specs.declared.constraints.SdcCommand.{SdcCommand}
use Rattle.bud_syntax.specs.declared.constraints.SdcFile.{SdcFile}
use Rattle.sdc_reader.specs.declared.faults.SdcFault.{SdcFault}
use Rattle.sdc_reader.specs.declared.faults.SdcFault.TheVariants.{Syntax, UnknownCommand, UnknownOption, Value, NoMemory}
use Rattle.sdc_reader.specs.declared.given.TimeUnit.TheVariants.{Nanoseconds}
use Rattle.sdc_reader.specs.declared.given.Line.{Line}
use Rattle.sdc_reader.specs.declared.given.Line.TheVariants as does
use Rattle.sdc_reader.specs.declared.reader.Progress.{Progress}
use Rattle.sdc_reader.specs.Answers.{Answer, Fails, Gives, UnlessMemory, IsSyntax, ◌>>=◌}
use Rattle.sdc_reader.specs.Words.{is_bracket}
use Rattle.sdc_reader.specs.Brackets.{Forest, Opens, opened}
use Rattle.sdc_reader.specs.Brackets.Forest.{nothing, plain_word, in_brackets}
use Rattle.sdc_reader.specs.Commands.{command, either, single}
use Rattle.sdc_reader.specs.Rooms.{HasRoom, HaveRoom, weight, weights}
use Rattle.sdc_reader.specs.Files.{unit_after, with_line, file, OpenAll, HasAnswer, IsTorn, IsSyntaxAt, IsReadAnswer, advanced, behind_progress, GoesOn, only, IsCommandSyntax, IsCommandAnswer}
use Rattle.sdc_reader.proofs.AnswerLemmas.{fails_behind}
use Rattle.sdc_reader.proofs.OpenLemmas.{brackets_weight, weight_more, opens_once}

either_twice : (a b : Option (List ℕ)) (name : List ℕ) → either (either a (Some name)) b ≡ either a (Some name)
either_twice None b name = refl
either_twice (Some x) b name = refl

either_none : (a : Option (List ℕ)) → either a None ≡ a
either_none None = refl
either_none (Some x) = refl

advance_read : (p : Progress) (line : Line) (rest : SdcFile) → behind_progress (advanced p line) (Ok rest) ≡ behind_progress p (Ok (with_line line rest))
advance_read p does.Nothing rest = refl
advance_read p (does.Unit unit) rest = refl
advance_read p (does.Design name) rest = ap (λ d. Ok (record { design = d; commands = p.commands ++ rest.commands })) (sym (either_twice rest.design p.design name))
advance_read p (does.Timing command) rest = ap (λ cs. Ok (record { design = either rest.design p.design; commands = cs })) (append_assoc p.commands (command ∷ []) rest.commands)

advance_behind : (p : Progress) (line : Line) (read : Answer SdcFile) → behind_progress (advanced p line) read ≡ behind_progress p (read >>= λ rest. Ok (with_line line rest))
advance_behind p line (Ok rest) = advance_read p line rest
advance_behind p line (Err fault) = refl

advance_unit : (p : Progress) (line : Line) → (advanced p line).unit ≡ unit_after p.unit line
advance_unit p does.Nothing = refl
advance_unit p (does.Unit unit) = refl
advance_unit p (does.Design name) = refl
advance_unit p (does.Timing command) = refl

-- the first of the commands that are left
record IsFirst (p : Progress) (words : List Word) (others : List (List Word)) (whole : Answer SdcFile) : Type 0 where
  pub first : Forest
  pub rest : List Forest
  pub opens : Opens words first
  pub open_all : OpenAll others rest
  pub says : behind_progress p (command p.unit (opened first) >>= λ line. (file (unit_after p.unit line) (map opened rest) >>= λ behind. Ok (with_line line behind))) ≡ whole

first_for : (p : Progress) (words : List Word) (others : List (List Word)) (whole : Answer SdcFile) (fs : List Forest) → OpenAll (words ∷ others) fs → behind_progress p (file p.unit (map opened fs)) ≡ whole → IsFirst p words others whole
unfolding file
first_for p words others whole [] open_all says = absurd open_all
first_for p words others whole (f ∷ fs) open_all says = record { first = f; rest = fs; opens = open_all.0; open_all = open_all.1; says = says }

first_of : (p : Progress) (left : List (List Word)) (words : List Word) (others : List (List Word)) (whole : Answer SdcFile) → left ≡ others ++ words ∷ [] → GoesOn p (reverse left) whole → IsFirst p words (reverse others) whole
first_of p left words others whole is given =
    let order : reverse left ≡ words ∷ reverse others = rw is (reverse-append others (words ∷ [])) in
    first_for p words (reverse others) whole given.0 (rw order at given.1.0) given.1.1

pub file_turn : (p next : Progress) (left : List (List Word)) (words : List Word) (others : List (List Word)) (line : Line) (whole : Answer SdcFile) → left ≡ others ++ words ∷ [] →
    ((f : Forest) → Opens words f → command p.unit (opened f) ≡ Ok line) → ◌≡◌ {A = Answer Progress} (Ok (advanced p line)) (Ok next) → GoesOn p (reverse left) whole → GoesOn next (reverse others) whole
file_turn p next left words others line whole is reads advances given =
    let first = first_of p left words others whole is given in
    let next_is : advanced p line ≡ next = cc in
    let rest = map opened first.rest in
    let read = reads first.first first.opens in
    let says : behind_progress p (file (unit_after p.unit line) rest >>= λ behind. Ok (with_line line behind)) ≡ whole = rw read at first.says in
    let P : Progress → Type 0 = λ q. behind_progress q (file q.unit rest) ≡ whole in
    let same : behind_progress (advanced p line) (file (advanced p line).unit rest) ≡ whole =
    ap (λ unit. behind_progress (advanced p line) (file unit rest)) (advance_unit p line) ∙ advance_behind p line (file (unit_after p.unit line) rest) ∙ says in
    (first.rest, (first.open_all, subst P next_is same))

pub file_fails : (p : Progress) (left : List (List Word)) (words : List Word) (others : List (List Word)) (fault : SdcFault) (whole : Answer SdcFile) → left ≡ others ++ words ∷ [] →
    ((f : Forest) → Opens words f → Fails fault (command p.unit (opened f))) → GoesOn p (reverse left) whole → Fails fault whole
file_fails p left words others fault whole is fails given =
    let first = first_of p left words others whole is given in
    let P : Answer SdcFile → Type 0 = λ read. Fails fault read in
    let go = (λ (line : Line). file (unit_after p.unit line) (map opened first.rest) >>= λ behind. Ok (with_line line behind)) in
    subst P first.says
    (fails_behind fault (command p.unit (opened first.first) >>= go) (λ rest. Ok (record { design = either rest.design p.design; commands = p.commands ++ rest.commands }))
    (fails_behind fault (command p.unit (opened first.first)) go (fails first.first first.opens)))

end_for : (p : Progress) (whole : Answer SdcFile) (fs : List Forest) → OpenAll [] fs → behind_progress p (file p.unit (map opened fs)) ≡ whole → whole ≡ Ok (record { design = p.design; commands = p.commands })
unfolding file
end_for p whole [] open_all says = sym says ∙ ap (λ cs. Ok (record { design = p.design; commands = cs })) (append-nil p.commands)
end_for p whole (f ∷ fs) open_all says = absurd open_all

pub file_end : (p : Progress) (left : List (List Word)) (whole : Answer SdcFile) → left ≡ [] → GoesOn p (reverse left) whole → whole ≡ Ok (record { design = p.design; commands = p.commands })
file_end p left whole is given = end_for p whole given.0 (rw is at given.1.0) given.1.1

behind_begun : (p : Progress) (read : Answer SdcFile) → p.design ≡ None → p.commands ≡ [] → behind_progress p read ≡ read
behind_begun p (Ok rest) none empty = rw (none, empty) (ap (λ d. Ok (record { design = d; commands = rest.commands })) (either_none rest.design))
behind_begun p (Err fault) none empty = refl

pub file_begun : (p : Progress) (commands left : List (List Word)) (fs : List Forest) → left ≡ reverse commands → p.unit ≡ Nanoseconds → p.design ≡ None → p.commands ≡ [] → OpenAll commands fs → GoesOn p (reverse left) (file Nanoseconds (map opened fs))
file_begun p commands left fs is unit none empty open_all =
    rw (is, reverse-reverse commands) (fs, (open_all, behind_begun p (file p.unit (map opened fs)) none empty ∙ ap (λ u. file u (map opened fs)) unit))

-- a fact about each element
each_both : {X : Type 0} (P : X → Type 0) (xs ys : List X) → AllByRecursion P xs → AllByRecursion P ys → AllByRecursion P (xs ++ ys)
each_both P [] ys first second = second
each_both P (x ∷ xs) ys first second = (first.0, each_both P xs ys first.1 second)

pub each_reversed : {X : Type 0} (P : X → Type 0) (xs ys : List X) → ys ≡ reverse xs → AllByRecursion P xs → AllByRecursion P ys
each_reversed {X} P [] ys is all = rw is tt
each_reversed {X} P (x ∷ xs) ys is all =
    subst (λ (zs : List X). AllByRecursion P zs) (sym (is ∙ reverse-append (x ∷ []) xs)) (each_both P (reverse xs) (x ∷ []) (each_reversed P xs (reverse xs) refl all.1) (all.0, tt))

each_parts : {X : Type 0} (P : X → Type 0) (xs : List X) (x : X) → AllByRecursion P (xs ++ x ∷ []) → P x × AllByRecursion P xs
each_parts P [] x all = (all.0, tt)
each_parts P (y ∷ xs) x all = (let rest = each_parts P xs x all.1 in (rest.0, (all.0, rest.1)))

pub each_last : {X : Type 0} (P : X → Type 0) (all xs : List X) (x : X) → all ≡ xs ++ x ∷ [] → AllByRecursion P all → P x × AllByRecursion P xs
each_last {X} P all xs x is given = each_parts P xs x (subst (λ (zs : List X). AllByRecursion P zs) is given)

-- there is room in the words of a text
word_room : (stop : ℕ) (ws : List Word) → stop < 2 ^ 31 → AllByRecursion (IsWordOf stop) ws → AllByRecursion HasRoom ws
word_room stop [] room parts = tt
word_room stop (w ∷ ws) room parts = (let within = parts.0.within in (λ is. omega arith, word_room stop ws room parts.1))

pub commands_room : (stop : ℕ) (commands : List (List Word)) → stop < 2 ^ 31 → AllByRecursion (AreWordsOf stop) commands → AllByRecursion HaveRoom commands
commands_room stop [] room parts = tt
commands_room stop (ws ∷ commands) room parts = (record { each = word_room stop ws room parts.0.each }, commands_room stop commands room parts.1)

bracket_kind : (kind : WordKind) → is_bracket kind ≡ true → kind ≡ Bracket
bracket_kind Bare is = cc
bracket_kind Quoted is = cc
bracket_kind Braced is = cc
bracket_kind Bracket is = refl

weight_plain : (w : Word) → is_bracket w.kind ≡ false → weight w ≡ 1
weight_plain w is = rw is refl

-- the words of a text have an opening
open_words : (n stop : ℕ) (ws : List Word) → weights ws ≤ n → AllByRecursion (IsWordOf stop) ws → (f : Forest) × Opens ws f
open_words zero stop [] light parts = (nothing, Opens.none)
open_words zero stop (w ∷ ws) light parts =
    by_test (is_bracket w.kind)
    (λ is. absurd (let heavy = weight_more w is in omega arith))
    (λ plain. absurd (let one = weight_plain w plain in omega arith))
open_words (suc n) stop [] light parts = (nothing, Opens.none)
open_words (suc n) stop (w ∷ ws) light parts =
    by_test (is_bracket w.kind)
    (λ is.
    let heavy = weight_more w is in
    let inner = parts.0.brackets (bracket_kind w.kind is) in
    let less = brackets_weight (w.at + 1) w.text inner.0 inner.1 in
    let inside = open_words n (w.at + 1 + length w.text) inner.0 (omega arith) (brackets_of (w.at + 1) w.text inner.0 inner.1).each in
    let rest = open_words n stop ws (omega arith) parts.1 in
    (in_brackets w inside.0 rest.0, Opens.nested w ws inner.0 inside.0 rest.0 is inner.1 inside.1 rest.1))
    (λ plain.
    let one = weight_plain w plain in
    let rest = open_words n stop ws (omega arith) parts.1 in
    (plain_word w rest.0, Opens.plain w ws rest.0 plain rest.1))

open_commands : (stop : ℕ) (commands : List (List Word)) → AllByRecursion (AreWordsOf stop) commands → (fs : List Forest) × OpenAll commands fs
open_commands stop [] parts = ([], tt)
open_commands stop (ws ∷ commands) parts =
    let first = open_words (weights ws) stop ws (omega arith) parts.0.each in
    let rest = open_commands stop commands parts.1 in
    (first.0 ∷ rest.0, (first.1, rest.1))

answer_for : (text : List ℕ) (commands : List (List Word)) (fs : List Forest) (result : Result SdcFile SdcFault) → Splits text commands → OpenAll commands fs → Gives (λ value. value) result (file Nanoseconds (map opened fs)) → IsReadAnswer text result
answer_for text commands fs (Ok value) splits open_all gives = record { commands = commands; splits = splits; forests = fs; open_all = open_all; says = gives }
answer_for text commands fs (Err (Syntax at)) splits open_all gives = IsSyntaxAt.refused (record { commands = commands; splits = splits; forests = fs; open_all = open_all; says = gives })
answer_for text commands fs (Err (UnknownCommand name at)) splits open_all gives = record { commands = commands; splits = splits; forests = fs; open_all = open_all; says = gives }
answer_for text commands fs (Err (UnknownOption name at)) splits open_all gives = record { commands = commands; splits = splits; forests = fs; open_all = open_all; says = gives }
answer_for text commands fs (Err (Value at)) splits open_all gives = record { commands = commands; splits = splits; forests = fs; open_all = open_all; says = gives }
answer_for text commands fs (Err NoMemory) splits open_all gives = tt

-- what is read of the commands of a text is the text's answer
pub answer_is : (text : List ℕ) (commands : List (List Word)) (result : Result SdcFile SdcFault) → Splits text commands → ((fs : List Forest) → OpenAll commands fs → Gives (λ value. value) result (file Nanoseconds (map opened fs))) → IsReadAnswer text result
answer_is text commands result splits gives =
    let opening = open_commands (length text) commands (commands_of text commands splits).each in
    answer_for text commands opening.0 result splits opening.1 (gives opening.0 opening.1)

commands_opened_once : (commands : List (List Word)) (fs gs : List Forest) → OpenAll commands fs → OpenAll commands gs → fs ≡ gs
commands_opened_once [] [] [] first second = refl
commands_opened_once [] (f ∷ fs) gs first second = absurd first
commands_opened_once [] [] (g ∷ gs) first second = absurd second
commands_opened_once (ws ∷ commands) [] gs first second = absurd first
commands_opened_once (ws ∷ commands) (f ∷ fs) [] first second = absurd second
commands_opened_once (ws ∷ commands) (f ∷ fs) (g ∷ gs) first second =
    let one = opens_once ws f g first.0 second.0 in
    let others = commands_opened_once commands fs gs first.1 second.1 in
    rw (one, others) refl

-- a text has at most one answer
pub one_answer_of : (text : List ℕ) (a b : Answer SdcFile) → HasAnswer text a → HasAnswer text b → a ≡ b
one_answer_of text a b first second =
    let commands = commands_once 0 (characters text) first.commands second.commands first.splits second.splits in
    let opens : OpenAll second.commands first.forests = subst (λ (cs : List (List Word)). OpenAll cs first.forests) commands first.open_all in
    let forests = commands_opened_once second.commands first.forests second.forests opens second.open_all in
    sym first.says ∙ ap (λ fs. file Nanoseconds (map opened fs)) forests ∙ second.says

syntax_answer : (text : List ℕ) (at : ℕ) (answer : Answer SdcFile) → IsSyntaxAt text at → HasAnswer text answer → Err (Syntax at) ≡ answer
syntax_answer text at answer (IsSyntaxAt.torn none) given = absurd (none given.commands given.splits)
syntax_answer text at answer (IsSyntaxAt.refused has) given = one_answer_of text (Err (Syntax at)) answer has given

-- the answer of a text that has one is given, unless memory runs out
pub answer_given : (text : List ℕ) (result answer : Answer SdcFile) → IsReadAnswer text result → HasAnswer text answer → UnlessMemory result (result ≡ answer)
answer_given text (Ok value) answer is has = one_answer_of text (Ok value) answer is has
answer_given text (Err (Syntax at)) answer is has = syntax_answer text at answer is has
answer_given text (Err (UnknownCommand name at)) answer is has = one_answer_of text (Err (UnknownCommand name at)) answer is has
answer_given text (Err (UnknownOption name at)) answer is has = one_answer_of text (Err (UnknownOption name at)) answer is has
answer_given text (Err (Value at)) answer is has = one_answer_of text (Err (Value at)) answer is has
answer_given text (Err NoMemory) answer is has = tt

-- and a text that isn't made of words is refused as that
pub torn_given : (text : List ℕ) (result : Answer SdcFile) → IsReadAnswer text result → IsTorn text → UnlessMemory result (IsSyntax result)
torn_given text (Ok value) is torn = absurd (torn is.commands is.splits)
torn_given text (Err (Syntax at)) is torn = tt
torn_given text (Err (UnknownCommand name at)) is torn = absurd (torn is.commands is.splits)
torn_given text (Err (UnknownOption name at)) is torn = absurd (torn is.commands is.splits)
torn_given text (Err (Value at)) is torn = absurd (torn is.commands is.splits)
torn_given text (Err NoMemory) is torn = tt

command_for : (text : List ℕ) (first : List Word) (others : List (List Word)) (f : Forest) (result : Result SdcCommand SdcFault) → Splits text (first ∷ others) → Opens first f → Gives (λ value. value) result (only (single (opened f)) others) → IsCommandAnswer text result
command_for text first others f (Ok value) splits opens gives = record { first = first; others = others; splits = splits; forest = f; opens = opens; says = gives }
command_for text first others f (Err (Syntax at)) splits opens gives = IsCommandSyntax.refused (record { first = first; others = others; splits = splits; forest = f; opens = opens; says = gives })
command_for text first others f (Err (UnknownCommand name at)) splits opens gives = record { first = first; others = others; splits = splits; forest = f; opens = opens; says = gives }
command_for text first others f (Err (UnknownOption name at)) splits opens gives = record { first = first; others = others; splits = splits; forest = f; opens = opens; says = gives }
command_for text first others f (Err (Value at)) splits opens gives = record { first = first; others = others; splits = splits; forest = f; opens = opens; says = gives }
command_for text first others f (Err NoMemory) splits opens gives = tt

-- what is read of the first command of a text, and of what stands behind it, is the text's answer
pub command_is : (text : List ℕ) (commands : List (List Word)) (first : List Word) (others : List (List Word)) (result : Result SdcCommand SdcFault) → commands ≡ first ∷ others → Splits text commands →
    ((f : Forest) → Opens first f → Gives (λ value. value) result (only (single (opened f)) others)) → IsCommandAnswer text result
command_is text commands first others result is splits gives =
    let given : Splits text (first ∷ others) = rw is at splits in
    let parts = (commands_of text (first ∷ others) given).each.0 in
    let opening = open_words (weights first) (length text) first (omega arith) parts.each in
    command_for text first others opening.0 result given opening.1 (gives opening.0 opening.1)

pub first_room : (text : List ℕ) (commands : List (List Word)) (first : List Word) (others : List (List Word)) → length text < 2 ^ 31 → commands ≡ first ∷ others → AreCommandsOf (length text) commands → HaveRoom first
first_room text commands first others room is parts =
    let each : AllByRecursion (AreWordsOf (length text)) (first ∷ others) = rw is at parts.each in
    record { each = word_room (length text) first room each.0.each }
