pub mod Heads
mod Rows
