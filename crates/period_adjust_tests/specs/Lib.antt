pub mod WorkedMany
pub mod Cash
