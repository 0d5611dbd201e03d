-- Commands and comments, one after the other.
use Rattle.std.proofs.Common.{◌≡◌, ℕ, ◌+◌, ◌≤◌, not, Bool, true, false, List, [], ◌∷◌, ◌++◌, length, Ok, Err, Result, refl, sym, ap, ◌∙◌, subst, arith, append_assoc, zero-add}
use Rattle.std.proofs.lemmas.Bool.{and_parts, and_from}
use Rattle.std.proofs.lemmas.Bool.Decides.{nat_tests}
use Rattle.std.proofs.lemmas.List.{append-nil, append_cancel_right}
use Rattle.std.specs.List.{list_all}
use Rattle.text_scan.proofs.Binds.{by_test}
use Rattle.tcl_words.specs.Characters.{size, is_byte, is_gap, is_end, is_feed}
use Rattle.tcl_words.specs.Commands.{behind_gap, begins_hash, IsComment, kept, AreCommands, Splits}
use Rattle.tcl_words.specs.Scanning.{left, ends_by, StandAll, from_feed, IsUpTo, IsLine}
use Rattle.tcl_words.specs.Scanning.IsUpTo.{command, comment}
use Rattle.tcl_words.specs.Answers.{IsWordsAnswer, IsLineAnswer, IsSplitAnswer}
use Rattle.tcl_words.specs.declared.characters.Character.{Character}
use Rattle.tcl_words.specs.declared.characters.Character.TheVariants.{Plain, Escaped}
use Rattle.tcl_words.specs.declared.characters.Scope.TheVariants.{Line}
use Rattle.tcl_words.specs.declared.words.Word.{Word}
use Rattle.tcl_words.specs.declared.words.TclFault.{TclFault}
use Rattle.tcl_words.specs.declared.words.TclFault.TheVariants.{Syntax, NoMemory}
use Rattle.tcl_words.proofs.CharacterLemmas.{byte_is, stretch_is}
use Rattle.tcl_words.proofs.GapLemmas.{gap_split, gap_passed, end_kept}
use Rattle.tcl_words.proofs.StandLemmas.{all_once}

not_true : (b : Bool) → not b ≡ true → b ≡ false
not_true true e = absurd (cc)
not_true false e = refl

-- characters up to one with a line feed
pub record IsFed (cs : List Character) : Type 0 where
  pub body : List Character
  pub split : cs ≡ body ++ from_feed cs
  pub on_line : list_all (λ c. not (is_feed c)) body ≡ true
  pub ends : ends_by is_feed (from_feed cs) ≡ true

pub feed_split : (cs : List Character) → IsFed cs
unfolding from_feed
feed_split [] = record { body = []; split = refl; on_line = refl; ends = refl }
feed_split (c ∷ cs) =
    by_test (is_feed c)
    (λ is. record { body = []; split = rw is refl; on_line = refl; ends = rw is is })
    (λ isnt.
    let given = feed_split cs in
    let first : not (is_feed c) ≡ true = rw isnt refl in
    record { body = c ∷ given.body; split = rw isnt (ap (λ xs. c ∷ xs) given.split); on_line = and_from _ _ first given.on_line; ends = rw isnt given.ends })

pub feed_found : (body rest : List Character) → list_all (λ c. not (is_feed c)) body ≡ true → ends_by is_feed rest ≡ true → from_feed (body ++ rest) ≡ rest
unfolding from_feed
feed_found [] [] all ends = refl
feed_found [] (c ∷ rest) all ends = rw ends refl
feed_found (c ∷ body) rest all ends =
    let parts = and_parts (not (is_feed c)) _ all in
    let isnt : is_feed c ≡ false = not_true (is_feed c) parts.0 in
    rw isnt (feed_found body rest parts.1 ends)

-- what begins with a hash
hash_first : (cs : List Character) → begins_hash cs ≡ true → (others : List Character) × (cs ≡ Plain 35 ∷ others)
hash_first [] is = absurd (cc)
hash_first (c ∷ cs) is = (cs, ap (λ d. d ∷ cs) (byte_is 35 c is))

-- a hash behind white space stays where it is in front of more characters
pub hash_front : (source rest : List Character) → begins_hash (behind_gap Line source) ≡ true → behind_gap Line (source ++ rest) ≡ behind_gap Line source ++ rest
hash_front source rest is =
    let given = gap_split Line source in
    let first = hash_first (behind_gap Line source) is in
    let whole : source ++ rest ≡ given.gap ++ (Plain 35 ∷ (first.0 ++ rest)) =
    ap (λ xs. xs ++ rest) (given.split ∙ ap (λ xs. given.gap ++ xs) first.1) ∙ append_assoc given.gap (Plain 35 ∷ first.0) rest in
    ap (behind_gap Line) whole ∙ gap_passed Line given.gap (Plain 35 ∷ (first.0 ++ rest)) given.blank ∙ ap (λ xs. xs ++ rest) (sym first.1)

end_no_hash : (c : Character) → is_end Line c ≡ true → is_byte 35 c ≡ false
end_no_hash (Plain b) is = grind (arith, nat_tests)
end_no_hash (Escaped b) is = refl

over_no_hash : (rest : List Character) → ends_by (is_end Line) rest ≡ true → begins_hash rest ≡ false
over_no_hash [] ends = refl
over_no_hash (c ∷ rest) ends = end_no_hash c ends

-- in front of an end there is a hash behind white space or none
pub hash_kept : (source rest : List Character) → ends_by (is_end Line) rest ≡ true → begins_hash (behind_gap Line (source ++ rest)) ≡ begins_hash (behind_gap Line source)
hash_kept [] rest ends = ap begins_hash (end_kept Line rest ends) ∙ over_no_hash rest ends
hash_kept (c ∷ source) rest ends =
    by_test (is_gap Line c)
    (λ is. rw is (hash_kept source rest ends))
    (λ isnt. rw isnt refl)

comment_hash : (cs source rest : List Character) → cs ≡ source ++ rest → IsComment source → begins_hash (behind_gap Line cs) ≡ true
comment_hash cs source rest split is =
    let first = hash_first (behind_gap Line source) is.hash in
    ap (λ xs. begins_hash (behind_gap Line xs)) split ∙ ap begins_hash (hash_front source rest is.hash) ∙ ap (λ xs. begins_hash (xs ++ rest)) first.1

body_begins : (body rest : List Character) → begins_hash (body ++ rest) ≡ true → ends_by is_feed rest ≡ true → begins_hash body ≡ true
body_begins [] [] is ends = is
body_begins [] (c ∷ rest) is ends = absurd (let first = byte_is 35 c is in let wrong : true ≡ false = sym ends ∙ ap is_feed first in cc)
body_begins (c ∷ body) rest is ends = is

hash_stays : (cs : List Character) → begins_hash cs ≡ true → behind_gap Line cs ≡ cs
hash_stays [] is = refl
hash_stays (c ∷ cs) is = (let isnt : is_gap Line c ≡ false = ap (is_gap Line) (byte_is 35 c is) in rw isnt refl)

-- words up to an end are a command, where no hash stands before them
command_line : (text : List ℕ) (at : ℕ) (rest : List Character) (words : List Word) → begins_hash (behind_gap Line (left text at)) ≡ false → StandAll Line at (left text at) rest words → IsLine at (left text at) rest words
command_line text at rest words bare given =
    record {
      source = given.source;
      split = given.split;
      up_to = command at given.source rest words (record {
        no_comment = sym (hash_kept given.source rest given.ends) ∙ ap (λ xs. begins_hash (behind_gap Line xs)) (sym given.split) ∙ bare;
        are_words = given.are_words;
      }) given.ends;
    }

up_to_words : (at : ℕ) (cs source rest : List Character) (words : List Word) → cs ≡ source ++ rest → begins_hash (behind_gap Line cs) ≡ false → IsUpTo at source rest words → StandAll Line at cs rest words
up_to_words _ cs _ _ _ split bare (command at source rest words is ends) = record { source = source; split = split; are_words = is.are_words; ends = ends }
up_to_words _ cs _ _ _ split bare (comment at source rest is ends) =
    let whole : begins_hash (behind_gap Line cs) ≡ true = comment_hash cs source rest split is in
    absurd (let wrong : true ≡ false = sym whole ∙ bare in cc)

pub line_is : (text : List ℕ) (at : ℕ) (result : Result (List Word × ℕ) TclFault) → begins_hash (behind_gap Line (left text at)) ≡ false → IsWordsAnswer Line text 0 at result → IsLineAnswer text at result
line_is text at (Ok r) bare answer = command_line text at (left text r.1) r.0 bare (subst (λ (n : ℕ). StandAll Line n (left text at) (left text r.1) r.0) (zero-add at) answer)
line_is text at (Err (Syntax place)) bare answer =
    (λ rest words given. answer.0 rest words (subst (λ (n : ℕ). StandAll Line n (left text at) rest words) (sym (zero-add at)) (up_to_words at (left text at) given.source rest words given.split bare given.up_to)), omega (arith, answer.1))
line_is text at (Err NoMemory) bare answer = tt

-- a comment stands where a hash does
pub comment_line : (text : List ℕ) (at start end : ℕ) (words : List Word) → left text start ≡ behind_gap Line (left text at) → begins_hash (left text start) ≡ true → left text end ≡ from_feed (left text start) → words ≡ [] → IsLine at (left text at) (left text end) words
comment_line text at start end words start_is hash end_is none =
    let gap = gap_split Line (left text at) in
    let fed = feed_split (left text start) in
    let behind : left text start ≡ fed.body ++ left text end = fed.split ∙ ap (λ xs. fed.body ++ xs) (sym end_is) in
    let ends : ends_by is_feed (left text end) ≡ true = ap (ends_by is_feed) end_is ∙ fed.ends in
    let body_hash : begins_hash fed.body ≡ true = body_begins fed.body (left text end) (ap begins_hash (sym behind) ∙ hash) ends in
    let body_kept : behind_gap Line (gap.gap ++ fed.body) ≡ fed.body = gap_passed Line gap.gap fed.body gap.blank ∙ hash_stays fed.body body_hash in
    subst (λ (ws : List Word). IsLine at (left text at) (left text end) ws) (sym none) (record {
      source = gap.gap ++ fed.body;
      split = gap.split ∙ ap (λ xs. gap.gap ++ xs) (sym start_is ∙ behind) ∙ sym (append_assoc gap.gap fed.body (left text end));
      up_to = comment at (gap.gap ++ fed.body) (left text end) (record {
        hash = ap begins_hash body_kept ∙ body_hash;
        on_line = ap (list_all (λ c. not (is_feed c))) body_kept ∙ fed.on_line;
      }) ends;
    })

comment_rest : (cs source rest : List Character) → cs ≡ source ++ rest → IsComment source → ends_by is_feed rest ≡ true → from_feed (behind_gap Line cs) ≡ rest
comment_rest cs source rest split is ends =
    ap (λ xs. from_feed (behind_gap Line xs)) split ∙ ap from_feed (hash_front source rest is.hash) ∙ feed_found (behind_gap Line source) rest is.on_line ends

once_up_to : (at : ℕ) (cs source rest : List Character) (words : List Word) → cs ≡ source ++ rest → IsUpTo at source rest words → (other : ℕ) (other_source other_rest : List Character) (others : List Word) → at ≡ other → cs ≡ other_source ++ other_rest →
    IsUpTo other other_source other_rest others → (rest ≡ other_rest) × (words ≡ others)
once_up_to _ cs _ _ _ split (command at source rest words is ends) _ _ _ _ same other_split (command other other_source other_rest others is_other other_ends) =
    all_once Line at cs rest other_rest words others (record { source = source; split = split; are_words = is.are_words; ends = ends })
    (subst (λ (n : ℕ). StandAll Line n cs other_rest others) (sym same) (record { source = other_source; split = other_split; are_words = is_other.are_words; ends = other_ends }))
once_up_to _ cs _ _ _ split (command at source rest words is ends) _ _ _ _ same other_split (comment other other_source other_rest is_other other_ends) =
    let bare : begins_hash (behind_gap Line cs) ≡ false = ap (λ xs. begins_hash (behind_gap Line xs)) split ∙ hash_kept source rest ends ∙ is.no_comment in
    absurd (let wrong : true ≡ false = sym (comment_hash cs other_source other_rest other_split is_other) ∙ bare in cc)
once_up_to _ cs _ _ _ split (comment at source rest is ends) _ _ _ _ same other_split (command other other_source other_rest others is_other other_ends) =
    let bare : begins_hash (behind_gap Line cs) ≡ false = ap (λ xs. begins_hash (behind_gap Line xs)) other_split ∙ hash_kept other_source other_rest other_ends ∙ is_other.no_comment in
    absurd (let wrong : true ≡ false = sym (comment_hash cs source rest split is) ∙ bare in cc)
once_up_to _ cs _ _ _ split (comment at source rest is ends) _ _ _ _ same other_split (comment other other_source other_rest is_other other_ends) =
    (sym (comment_rest cs source rest split is ends) ∙ comment_rest cs other_source other_rest other_split is_other other_ends, refl)

-- one command or comment stands at the front
pub line_once : (at : ℕ) (cs first second : List Character) (words others : List Word) → IsLine at cs first words → IsLine at cs second others → (first ≡ second) × (words ≡ others)
line_once at cs first second words others a b = once_up_to at cs a.source first words a.split a.up_to at b.source second others refl b.split b.up_to

-- what is left of commands behind their first
data Remain (at : ℕ) (source : List Character) (words : List Word) : List Character → List (List Word) → Type 0 where
  no_others : Remain at source words [] (kept words)
  others : (end : Character) (next : List Character) (behind : List (List Word)) → AreCommands (at + size (source ++ end ∷ [])) next behind → Remain at source words (end ∷ next) (kept words ++ behind)

record HasFirstLine (at : ℕ) (cs : List Character) (all : List (List Word)) : Type 0 where
  words : List Word
  rest : List Character
  line : IsLine at cs rest words
  remain : Remain at line.source words rest all

first_line : (at : ℕ) (cs : List Character) (all : List (List Word)) → AreCommands at cs all → HasFirstLine at cs all
first_line _ _ _ (AreCommands.command at cs words is) =
    record { words = words; rest = []; line = record { source = cs; split = sym (append-nil cs); up_to = command at cs [] words is refl }; remain = no_others }
first_line _ _ _ (AreCommands.comment at cs is) =
    record { words = []; rest = []; line = record { source = cs; split = sym (append-nil cs); up_to = comment at cs [] is refl }; remain = no_others }
first_line _ _ _ (AreCommands.behind_command at cs rest end words commands is ends more) =
    record { words = words; rest = end ∷ rest; line = record { source = cs; split = refl; up_to = command at cs (end ∷ rest) words is ends }; remain = others end rest commands more }
first_line _ _ _ (AreCommands.behind_comment at cs rest end commands is ends more) =
    record { words = []; rest = end ∷ rest; line = record { source = cs; split = refl; up_to = comment at cs (end ∷ rest) is ends }; remain = others end rest commands more }

-- no commands where no line stands
pub no_commands : (at : ℕ) (cs : List Character) → ((rest : List Character) (words : List Word) → IsLine at cs rest words → ⊥) → (all : List (List Word)) → AreCommands at cs all → ⊥
no_commands at cs missing all given = (let first = first_line at cs all given in missing first.rest first.words first.line)

up_to_last : (at : ℕ) (cs source rest : List Character) (words : List Word) → cs ≡ source ++ rest → rest ≡ [] → IsUpTo at source rest words → AreCommands at cs (kept words)
up_to_last _ cs _ _ _ split over (command at source rest words is ends) =
    subst (λ (xs : List Character). AreCommands at xs (kept words)) (sym (split ∙ ap (λ xs. source ++ xs) over ∙ append-nil source)) (AreCommands.command at source words is)
up_to_last _ cs _ _ _ split over (comment at source rest is ends) =
    subst (λ (xs : List Character). AreCommands at xs []) (sym (split ∙ ap (λ xs. source ++ xs) over ∙ append-nil source)) (AreCommands.comment at source is)

-- the last line of a text
pub line_last : (at : ℕ) (cs rest : List Character) (words : List Word) → IsLine at cs rest words → rest ≡ [] → AreCommands at cs (kept words)
line_last at cs rest words given over = up_to_last at cs given.source rest words given.split over given.up_to

up_to_more : (at : ℕ) (cs source rest : List Character) (words : List Word) (end : Character) (next : List Character) (behind : List (List Word)) → cs ≡ source ++ rest → rest ≡ end ∷ next → IsUpTo at source rest words →
    AreCommands (at + size (source ++ end ∷ [])) next behind → AreCommands at cs (kept words ++ behind)
up_to_more _ cs _ _ _ end next behind split is_rest (command at source rest words is ends) given =
    subst (λ (xs : List Character). AreCommands at xs (kept words ++ behind)) (sym (split ∙ ap (λ xs. source ++ xs) is_rest))
    (AreCommands.behind_command at source next end words behind is (ap (ends_by (is_end Line)) (sym is_rest) ∙ ends) given)
up_to_more _ cs _ _ _ end next behind split is_rest (comment at source rest is ends) given =
    subst (λ (xs : List Character). AreCommands at xs behind) (sym (split ∙ ap (λ xs. source ++ xs) is_rest))
    (AreCommands.behind_comment at source next end behind is (ap (ends_by is_feed) (sym is_rest) ∙ ends) given)

-- a turn of the loop: a line, and commands behind it
pub record IsLineTurn (at place : ℕ) (cs next : List Character) (words : List Word) : Type 0 where
  pub enough : (behind : List (List Word)) → AreCommands place next behind → AreCommands at cs (kept words ++ behind)
  pub needed : (all : List (List Word)) → AreCommands at cs all → (behind : List (List Word)) × ((all ≡ kept words ++ behind) × AreCommands place next behind)

remain_more : (at : ℕ) (source : List Character) (words : List Word) (rest : List Character) (all : List (List Word)) → Remain at source words rest all → (end : Character) (next : List Character) → rest ≡ end ∷ next →
    (behind : List (List Word)) × ((all ≡ kept words ++ behind) × AreCommands (at + size (source ++ end ∷ [])) next behind)
remain_more at source words _ _ no_others end next is = absurd (cc)
remain_more at source words _ _ (others other rest behind given) end next is =
    let first : other ≡ end = cc in
    let tail : rest ≡ next = cc in
    let P : Character → Type 0 = λ c. AreCommands (at + size (source ++ c ∷ [])) next behind in
    (behind, (refl, subst P first (subst (λ (xs : List Character). AreCommands (at + size (source ++ other ∷ [])) xs behind) tail given)))

-- what stands behind the first line
line_needed : (at : ℕ) (cs rest : List Character) (words : List Word) (line : IsLine at cs rest words) (end : Character) (next : List Character) → rest ≡ end ∷ next → (all : List (List Word)) → AreCommands at cs all →
    (behind : List (List Word)) × ((all ≡ kept words ++ behind) × AreCommands (at + size (line.source ++ end ∷ [])) next behind)
line_needed at cs rest words line end next is all given =
    let first = first_line at cs all given in
    let same = line_once at cs first.rest rest first.words words first.line line in
    let sources : first.line.source ≡ line.source = append_cancel_right first.line.source line.source rest (ap (λ xs. first.line.source ++ xs) (sym same.0) ∙ sym first.line.split ∙ line.split) in
    let more = remain_more at first.line.source first.words first.rest all first.remain end next (same.0 ∙ is) in
    let P : List Character → Type 0 = λ xs. AreCommands (at + size (xs ++ end ∷ [])) next more.0 in
    (more.0, (more.1.0 ∙ ap (λ ws. kept ws ++ more.0) same.1, subst P sources more.1.1))

pub line_turn : (text : List ℕ) (at end place : ℕ) (words : List Word) (c : Character) → IsLine at (left text at) (left text end) words → left text end ≡ c ∷ left text place → at ≤ length text → place ≤ length text →
    IsLineTurn at place (left text at) (left text place) words
line_turn text at end place words c line behind from within =
    let whole : left text at ≡ (line.source ++ c ∷ []) ++ left text place = line.split ∙ ap (λ xs. line.source ++ xs) behind ∙ sym (append_assoc line.source (c ∷ []) (left text place)) in
    let place_is : place ≡ at + size (line.source ++ c ∷ []) = (stretch_is text at place (line.source ++ c ∷ []) whole from within).place in
    record {
      enough = λ others given. up_to_more at (left text at) line.source (left text end) words c (left text place) others line.split behind line.up_to (subst (λ (n : ℕ). AreCommands n (left text place) others) place_is given);
      needed = λ all given.
          let more = line_needed at (left text at) (left text end) words line c (left text place) behind all given in
          (more.0, (more.1.0, subst (λ (n : ℕ). AreCommands n (left text place) more.0) (sym place_is) more.1.1));
    }

remain_none : (at : ℕ) (source : List Character) (words : List Word) (rest : List Character) (all : List (List Word)) → Remain at source words rest all → rest ≡ [] → all ≡ kept words
remain_none at source words _ _ no_others is = refl
remain_none at source words _ _ (others end next behind given) is = absurd (cc)

-- a last line leaves no other commands
last_once : (at : ℕ) (cs : List Character) (words : List Word) → IsLine at cs [] words → (all : List (List Word)) → AreCommands at cs all → kept words ≡ all
last_once at cs words line all given =
    let first = first_line at cs all given in
    let same = line_once at cs first.rest [] first.words words first.line line in
    sym (remain_none at first.line.source first.words first.rest all first.remain same.0 ∙ ap kept same.1)

-- a text is one list of commands
pub commands_once : (at : ℕ) (cs : List Character) (first second : List (List Word)) → AreCommands at cs first → AreCommands at cs second → first ≡ second
commands_once _ _ _ second (AreCommands.command at cs words is) other =
    last_once at cs words (record { source = cs; split = sym (append-nil cs); up_to = command at cs [] words is refl }) second other
commands_once _ _ _ second (AreCommands.comment at cs is) other =
    last_once at cs [] (record { source = cs; split = sym (append-nil cs); up_to = comment at cs [] is refl }) second other
commands_once _ _ _ second (AreCommands.behind_command at cs rest end words commands is ends given) other =
    let line : IsLine at (cs ++ end ∷ rest) (end ∷ rest) words = record { source = cs; split = refl; up_to = command at cs (end ∷ rest) words is ends } in
    let more = line_needed at (cs ++ end ∷ rest) (end ∷ rest) words line end rest refl second other in
    ap (λ ws. kept words ++ ws) (commands_once (at + size (cs ++ end ∷ [])) rest commands more.0 given more.1.1) ∙ sym more.1.0
commands_once _ _ _ second (AreCommands.behind_comment at cs rest end commands is ends given) other =
    let line : IsLine at (cs ++ end ∷ rest) (end ∷ rest) [] = record { source = cs; split = refl; up_to = comment at cs (end ∷ rest) is ends } in
    let more = line_needed at (cs ++ end ∷ rest) (end ∷ rest) [] line end rest refl second other in
    commands_once (at + size (cs ++ end ∷ [])) rest commands more.0 given more.1.1 ∙ sym more.1.0

pub commands_refused : (text : List ℕ) (at : ℕ) (fault : TclFault) → (((rest : List Character) (words : List Word) → IsLine at (left text at) rest words → ⊥) → (all : List (List Word)) → Splits text all → ⊥) →
    IsLineAnswer text at (Err fault) → IsSplitAnswer text (Err fault)
commands_refused text at (Syntax place) missing answer = record { answer = missing answer.0; within = answer.1 }
commands_refused text at NoMemory missing answer = record { answer = tt; within = tt }

-- at first the whole text is left
pub record IsLeft (text : List ℕ) (found : List (List Word)) (at : ℕ) : Type 0 where
  pub enough : (more : List (List Word)) → AreCommands at (left text at) more → Splits text (found ++ more)
  pub needed : (all : List (List Word)) → Splits text all → (more : List (List Word)) × ((all ≡ found ++ more) × AreCommands at (left text at) more)
  pub within : at ≤ length text

pub all_left : (text : List ℕ) (found : List (List Word)) → found ≡ [] → IsLeft text found 0
unfolding left
all_left text found none = rw none (record { enough = λ more given. given; needed = λ all given. (all, (refl, given)); within = omega arith })
