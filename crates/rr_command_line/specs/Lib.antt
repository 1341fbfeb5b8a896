pub mod Program
pub mod Building
