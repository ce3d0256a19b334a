pub mod Picks
pub mod Grants
