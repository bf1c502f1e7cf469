pub mod Evaluation
