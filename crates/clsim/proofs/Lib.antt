mod FileLemmas
mod WideLemmas
