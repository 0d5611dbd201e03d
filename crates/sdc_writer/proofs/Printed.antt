-- The text of a printable file reads back as the file.
use Rattle.std.proofs.Common.{◌≡◌, ℕ, ◌+◌, true, false, List, [], ◌∷◌, ◌++◌, length, map, Option, Some, None, Ok, refl, sym, ap, ◌∙◌, subst, arith, append_assoc, length-append}
use Rattle.std.proofs.lemmas.Bool.{and_parts}
use Rattle.std.proofs.lemmas.Bool.Decides.{nat_tests}
use Rattle.std.specs.List.{list_all, flat_map, AllByRecursion}
use Rattle.bud_syntax.specs.declared.constraints.SdcCommand.{SdcCommand}
use Rattle.bud_syntax.specs.declared.constraints.SdcFile.{SdcFile}
use Rattle.line_text.specs.Written.{spaced}
use Rattle.tcl_words.specs.Characters.{characters, size, is_byte, is_gap}
use Rattle.tcl_words.specs.Words.AreWords.{none}
use Rattle.tcl_words.specs.Commands.{behind_gap, begins_hash, AreCommands, IsCommand}
use Rattle.tcl_words.specs.Commands.AreCommands.{command as last_command, behind_command}
use Rattle.tcl_words.specs.declared.characters.Character.TheVariants.{Plain}
use Rattle.tcl_words.specs.declared.characters.Scope.TheVariants.{Line}
use Rattle.tcl_words.specs.declared.words.Word.{Word}
use Rattle.tcl_words.proofs.CharacterLemmas.{size-append}
use Rattle.sdc_reader.specs.declared.given.TimeUnit.TheVariants.{Nanoseconds, Picoseconds}
use Rattle.sdc_reader.specs.Brackets.{Forest, opened}
use Rattle.sdc_reader.specs.Files.{file, OpenAll, Reads}
use Rattle.sdc_writer.specs.Texts.{words, line, design_words, command_words, file_text}
use Rattle.sdc_writer.specs.Printable.{is_written_command, is_kept_design, is_printable_file}
use Rattle.sdc_writer.proofs.ClosedTexts.{IsClosed, closed_words, size_characters, plain_on}
use Rattle.sdc_writer.proofs.PlainWords.{is_plain, is_plain_word, name_is_kept, first_of}
use Rattle.sdc_writer.proofs.Rows.{Row, texts, words_at, forest_at, IsFine, IsLine, all_closed, row_words, row_opens}
use Rattle.sdc_writer.proofs.Rows.Row.{nothing, bare, braces, brackets}
use Rattle.sdc_writer.proofs.Commands.{command_row, command_text, command_line, command_read, unit_row, unit_reads, design_row, design_reads}

-- ---- lines
abbrev row_text : List Row → List ℕ
row_text rows = flat_map line (map texts rows)

abbrev commands_at : ℕ → List Row → List (List Word)
commands_at at [] = []
commands_at at (row ∷ rows) = words_at at row ∷ commands_at (at + length (line (texts row))) rows

abbrev forests_at : ℕ → List Row → List Forest
forests_at at [] = []
forests_at at (row ∷ rows) = forest_at at row ∷ forests_at (at + length (line (texts row))) rows

plain_no_gap : (b : ℕ) → is_plain b ≡ true → is_gap Line (Plain b) ≡ false
plain_no_gap b is = grind (arith, nat_tests)

plain_no_hash : (b : ℕ) → is_plain b ≡ true → is_byte 35 (Plain b) ≡ false
plain_no_hash b is = grind (arith, nat_tests)

no_comment : (text others : List ℕ) → is_plain_word text ≡ true → begins_hash (behind_gap Line (characters (text ++ others))) ≡ false
no_comment text others is =
    let first = first_of text others is in
    rw (first.are, plain_no_gap first.first first.is_plain_first) (plain_no_hash first.first first.is_plain_first)

row_command : (at : ℕ) (text : List ℕ) (row : Row) → IsLine (bare text row) → IsCommand at (characters (words (texts (bare text row)))) (words_at at (bare text row))
row_command at text row fine = record { no_comment = no_comment text (flat_map spaced (texts row)) fine.0; are_words = row_words Line at (bare text row) fine }

line_characters : (ws : List (List ℕ)) (rest : List ℕ) → IsClosed (words ws) → characters (line ws ++ rest) ≡ characters (words ws) ++ Plain 10 ∷ characters rest
line_characters ws rest closed =
    ap characters (append_assoc (words ws) (10 ∷ []) rest) ∙ closed.on (10 ∷ rest) ∙ ap (λ cs. characters (words ws) ++ cs) (plain_on 10 rest refl)

line_size : (ws : List (List ℕ)) → size (characters (words ws) ++ Plain 10 ∷ []) ≡ length (line ws)
line_size ws = size-append (characters (words ws)) (Plain 10 ∷ []) ∙ ap (λ n. n + 1) (size_characters (words ws)) ∙ sym (length-append (words ws) (10 ∷ []))

lines_split : (at : ℕ) (rows : List Row) → AllByRecursion IsLine rows → AreCommands at (characters (row_text rows)) (commands_at at rows)
unfolding characters
lines_split at [] all = last_command at [] [] (record { no_comment = refl; are_words = none Line at [] refl })
lines_split at (nothing ∷ rows) all = absurd (all.0)
lines_split at (braces text row ∷ rows) all = absurd (all.0)
lines_split at (brackets inside row ∷ rows) all = absurd (all.0)
lines_split at (bare text row ∷ rows) all =
    let ws = texts (bare text row) in
    let commands = words_at at (bare text row) ∷ commands_at (at + length (line ws)) rows in
    subst (λ cs. AreCommands at cs commands) (sym (line_characters ws (row_text rows) (closed_words ws (all_closed (bare text row) all.0))))
    (behind_command at (characters (words ws)) (characters (row_text rows)) (Plain 10) (words_at at (bare text row)) (commands_at (at + length (line ws)) rows) (row_command at text row all.0) refl
    (subst (λ n. AreCommands (at + n) (characters (row_text rows)) (commands_at (at + length (line ws)) rows)) (sym (line_size ws)) (lines_split (at + length (line ws)) rows all.1)))

line_fine : (row : Row) → IsLine row → IsFine row
line_fine nothing is = absurd (is)
line_fine (bare text row) is = is
line_fine (braces text row) is = absurd (is)
line_fine (brackets inside row) is = absurd (is)

lines_open : (at : ℕ) (rows : List Row) → AllByRecursion IsLine rows → OpenAll (commands_at at rows) (forests_at at rows)
lines_open at [] all = tt
lines_open at (row ∷ rows) all = (row_opens at row (line_fine row all.0), lines_open (at + length (line (texts row))) rows all.1)

-- ---- files
abbrev command_rows : List SdcCommand → List Row
command_rows cs = map command_row cs

abbrev design_rows : Option (List ℕ) → List Row → List Row
design_rows None rows = rows
design_rows (Some name) rows = design_row name ∷ rows

abbrev file_rows : SdcFile → List Row
file_rows f = unit_row ∷ design_rows f.design (command_rows f.commands)

commands_text : (cs : List SdcCommand) → map texts (command_rows cs) ≡ map command_words cs
commands_text [] = refl
commands_text (c ∷ cs) = rw (command_text c, commands_text cs) refl

design_text : (design : Option (List ℕ)) (rows : List Row) (others : List (List (List ℕ))) → map texts rows ≡ others → map texts (design_rows design rows) ≡ design_words design ++ others
design_text None rows others is = is
design_text (Some name) rows others is = ap (λ xs. texts (design_row name) ∷ xs) is

file_rows_text : (f : SdcFile) → row_text (file_rows f) ≡ file_text f
file_rows_text f = ap (λ xs. flat_map line (texts unit_row ∷ xs)) (design_text f.design (command_rows f.commands) (map command_words f.commands) (commands_text f.commands))

commands_lines : (cs : List SdcCommand) → list_all is_written_command cs ≡ true → AllByRecursion IsLine (command_rows cs)
commands_lines [] all = tt
commands_lines (c ∷ cs) all =
    let parts = and_parts (is_written_command c) (list_all is_written_command cs) all in
    (command_line c parts.0, commands_lines cs parts.1)

design_lines : (design : Option (List ℕ)) (rows : List Row) → is_kept_design design ≡ true → AllByRecursion IsLine rows → AllByRecursion IsLine (design_rows design rows)
design_lines None rows kept all = all
design_lines (Some name) rows kept all = ((refl, (name_is_kept name kept, tt)), all)

commands_read : (at : ℕ) (cs : List SdcCommand) → list_all is_written_command cs ≡ true → file Picoseconds (map opened (forests_at at (command_rows cs))) ≡ Ok (record { design = None; commands = cs })
unfolding file
commands_read at [] all = refl
commands_read at (c ∷ cs) all =
    let parts = and_parts (is_written_command c) (list_all is_written_command cs) all in
    rw (command_read c parts.0 at, commands_read (at + length (line (texts (command_row c)))) cs parts.1) refl

design_read : (at : ℕ) (design : Option (List ℕ)) (cs : List SdcCommand) → list_all is_written_command cs ≡ true →
    file Picoseconds (map opened (forests_at at (design_rows design (command_rows cs)))) ≡ Ok (record { design = design; commands = cs })
unfolding file
design_read at None cs all = commands_read at cs all
design_read at (Some name) cs all = rw (design_reads name at, commands_read (at + length (line (texts (design_row name)))) cs all) refl

file_read : (f : SdcFile) → list_all is_written_command f.commands ≡ true → file Nanoseconds (map opened (forests_at 0 (file_rows f))) ≡ Ok f
unfolding file
file_read f all = rw (unit_reads 0, design_read (length (line (texts unit_row))) f.design f.commands all) refl

pub text_reads : (f : SdcFile) → is_printable_file f ≡ true → Reads (file_text f) f
text_reads f printable =
    let parts = and_parts (is_kept_design f.design) (list_all is_written_command f.commands) printable in
    let lines : AllByRecursion IsLine (file_rows f) = ((refl, (refl, (refl, tt))), design_lines f.design (command_rows f.commands) parts.0 (commands_lines f.commands parts.1)) in
    record {
      commands = commands_at 0 (file_rows f);
      splits = subst (λ text. AreCommands 0 (characters text) (commands_at 0 (file_rows f))) (file_rows_text f) (lines_split 0 (file_rows f) lines);
      forests = forests_at 0 (file_rows f);
      open_all = lines_open 0 (file_rows f) lines;
      says = file_read f parts.1;
    }
