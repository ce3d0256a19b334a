pub mod Rests
pub mod Fronts
pub mod Choices
