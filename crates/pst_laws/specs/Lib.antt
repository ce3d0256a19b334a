pub mod Grants
pub mod Kept
pub mod Moves
pub mod Places
pub mod Trails
