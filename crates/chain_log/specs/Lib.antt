pub mod Copies
pub mod Loaded
pub mod Pages
pub mod Tails
