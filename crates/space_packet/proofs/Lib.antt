pub mod Faults
mod Rows
