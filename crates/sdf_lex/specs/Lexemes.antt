-- The tokens that lexemes stand for.
use Rattle.sdf_lex.specs.Tokens.{Token}
use Rattle.sdf_lex.specs.declared.lexemes.Lexeme.{Lexeme}

abbrev pub token_of : Lexeme → Token
token_of lexeme = record { kind = lexeme.kind; at = lexeme.span.at; bytes = lexeme.span.bytes.now }
