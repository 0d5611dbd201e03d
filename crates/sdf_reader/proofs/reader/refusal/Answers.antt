use Rattle.std.proofs.Common.{◌≡◌, Some, sym, subst, refl}
use Rattle.line_text.specs.Parts.{Part}
use Rattle.sdf_lex.specs.Tokens.{tokens}
use Rattle.sdf_lex.specs.Lexemes.{token_of}
use Rattle.sdf_reader.specs.LeftOut.{first_left_out}
use Rattle.sdf_reader.proofs.FileLaws.{whole_part}
use Rattle.sdf_reader.proofs.reader.refusal.Goals as goal

pub returns-in-Ok : goal.returns-in-Ok
returns-in-Ok c =
    let P : Part → Type 0 = λ part. first_left_out (tokens part) ≡ Some (token_of c.in-Some.lexeme) in
    (token_of c.in-Some.lexeme, (subst P (whole_part _ _ _ c.new.ensures.at c.new.ensures.bytes) c.in-Some.ensures, sym c.in-Ok.ensures, refl))
