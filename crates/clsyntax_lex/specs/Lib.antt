pub mod Tokens
pub mod Words
pub mod Numbers
pub mod Pieces
pub mod Lexing
pub mod Progress
pub mod Spelling
pub mod Printed
