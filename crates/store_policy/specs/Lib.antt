pub mod Agreement
pub mod Checks
pub mod Codes
pub mod Found
pub mod Plans
pub mod Shown
