pub mod Files
pub mod OwnLines
pub mod Plain
pub mod Shows
pub mod Wide
