pub mod Counted
pub mod Looks
pub mod Replying
pub mod Sendings
pub mod Showing
