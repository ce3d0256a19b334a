pub mod Following
pub mod Numbered
mod Rows
pub mod Sending
pub mod Standing
pub mod Tables
