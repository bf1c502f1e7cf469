pub mod LeadingLaws
pub mod RegisterValues
pub mod Outcomes
pub mod KeptValues
pub mod Faultless
pub mod WordLemmas
mod QuotientLemmas
