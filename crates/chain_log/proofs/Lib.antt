mod Judging
pub mod Octets
mod Programs
mod ReadsThenPrograms
pub mod Spelled
