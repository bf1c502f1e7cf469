pub mod ReaderSteps
pub mod FieldLaws
pub mod Grammar
pub mod Again
pub mod Files
