pub mod Joining
pub mod Lists
pub mod WritingLemmas
pub mod PrintedTerms
pub mod PrintedStatements
pub mod PrintedPrograms
pub mod PrintedWords
pub mod PlainPrinted
