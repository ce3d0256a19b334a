mod Copied
mod Entries
pub mod Lying
mod Offsets
mod Ranges
pub mod RangesOn
mod Running
pub mod Shared
mod Spelling
mod Steps
