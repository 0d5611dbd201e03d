pub mod Tokens
pub mod Words
pub mod Texts
pub mod Lexemes
