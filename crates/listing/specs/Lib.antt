pub mod Words
pub mod Rows
pub mod Faults
pub mod Parts
pub mod Lists
