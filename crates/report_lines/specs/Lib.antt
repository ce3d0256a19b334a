pub mod Content
pub mod Counting
pub mod Rows
pub mod Sending
pub mod Times
pub mod Written
