pub mod Halves
pub mod Directories
pub mod Formats
pub mod Shown
pub mod Journals
pub mod Standing
