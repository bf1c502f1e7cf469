pub mod Runs
mod Steps
mod TextLaws
mod LineSteps
mod PathSteps
