pub mod Moved
pub mod Renewed
