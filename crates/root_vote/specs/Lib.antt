pub mod Roots
pub mod Rooted
