-- Texts of one command.
use Rattle.std.proofs.Common.{◌≡◌, ℕ, List, [], ◌∷◌, Ok, Err, sym, ap, ◌∙◌, subst}
use Rattle.tcl_words.specs.Characters.{characters}
use Rattle.tcl_words.specs.declared.words.Word.{Word}
use Rattle.tcl_words.proofs.LineLemmas.{commands_once}
use Rattle.bud_syntax.specs.declared.constraints.SdcCommand.{SdcCommand}
use Rattle.sdc_reader.specs.declared.faults.SdcFault.TheVariants.{Syntax, UnknownCommand, UnknownOption, Value, NoMemory}
use Rattle.sdc_reader.specs.Answers.{Answer, UnlessMemory, IsSyntax}
use Rattle.sdc_reader.specs.Brackets.{Opens, opened}
use Rattle.sdc_reader.specs.Commands.{single}
use Rattle.sdc_reader.specs.Files.{only, HasCommand, HasNone, IsCommandSyntax, IsCommandAnswer}
use Rattle.sdc_reader.proofs.OpenLemmas.{opens_once}

-- the first command and what stands behind it
head_of : (first second : List Word) (others behind : List (List Word)) → ◌≡◌ {A = List (List Word)} (first ∷ others) (second ∷ behind) → first ≡ second
head_of first second others behind same = cc

rest_of : (first second : List Word) (others behind : List (List Word)) → ◌≡◌ {A = List (List Word)} (first ∷ others) (second ∷ behind) → others ≡ behind
rest_of first second others behind same = cc

-- a text has at most one answer
pub one_command_of : (text : List ℕ) (a b : Answer SdcCommand) → HasCommand text a → HasCommand text b → a ≡ b
one_command_of text a b one two =
    let same = commands_once 0 (characters text) (one.first ∷ one.others) (two.first ∷ two.others) one.splits two.splits in
    let first : one.first ≡ two.first = head_of one.first two.first one.others two.others same in
    let others : one.others ≡ two.others = rest_of one.first two.first one.others two.others same in
    let opens : Opens two.first one.forest = subst (λ (ws : List Word). Opens ws one.forest) first one.opens in
    let forest : one.forest ≡ two.forest = opens_once two.first one.forest two.forest opens two.opens in
    sym one.says ∙ ap (λ others. only (single (opened one.forest)) others) others ∙ ap (λ f. only (single (opened f)) two.others) forest ∙ two.says

-- a text with an answer has a command
none_apart : (text : List ℕ) (answer : Answer SdcCommand) → HasNone text → HasCommand text answer → ⊥
none_apart text answer (HasNone.torn torn) has = torn (has.first ∷ has.others) has.splits
none_apart text answer (HasNone.empty empty) has =
    let same = commands_once 0 (characters text) [] (has.first ∷ has.others) empty has.splits in cc

syntax_command : (text : List ℕ) (at : ℕ) (answer : Answer SdcCommand) → IsCommandSyntax text at → HasCommand text answer → Err (Syntax at) ≡ answer
syntax_command text at answer (IsCommandSyntax.none none) has = absurd (none_apart text answer none has)
syntax_command text at answer (IsCommandSyntax.refused given) has = one_command_of text (Err (Syntax at)) answer given has

-- the answer of a text that has one is given, unless memory runs out
pub command_given : (text : List ℕ) (result answer : Answer SdcCommand) → IsCommandAnswer text result → HasCommand text answer → UnlessMemory result (result ≡ answer)
command_given text (Ok value) answer is has = one_command_of text (Ok value) answer is has
command_given text (Err (Syntax at)) answer is has = syntax_command text at answer is has
command_given text (Err (UnknownCommand name at)) answer is has = one_command_of text (Err (UnknownCommand name at)) answer is has
command_given text (Err (UnknownOption name at)) answer is has = one_command_of text (Err (UnknownOption name at)) answer is has
command_given text (Err (Value at)) answer is has = one_command_of text (Err (Value at)) answer is has
command_given text (Err NoMemory) answer is has = tt

-- and a text without a command is refused as that
pub none_given : (text : List ℕ) (result : Answer SdcCommand) → IsCommandAnswer text result → HasNone text → UnlessMemory result (IsSyntax result)
none_given text (Ok value) is none = absurd (none_apart text (Ok value) none is)
none_given text (Err (Syntax at)) is none = tt
none_given text (Err (UnknownCommand name at)) is none = absurd (none_apart text (Err (UnknownCommand name at)) none is)
none_given text (Err (UnknownOption name at)) is none = absurd (none_apart text (Err (UnknownOption name at)) none is)
none_given text (Err (Value at)) is none = absurd (none_apart text (Err (Value at)) none is)
none_given text (Err NoMemory) is none = tt
