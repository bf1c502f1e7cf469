mod PieceLemmas
mod NumberLemmas
mod FitLemmas
mod NameLemmas
mod StepLemmas
mod LexLemmas
mod NumberSpelling
mod SpellingLemmas
mod TableLemmas
mod ReadingLemmas
mod WordPrinting
mod NamePrinting
mod NumberPrinting
pub mod PrintedLemmas
