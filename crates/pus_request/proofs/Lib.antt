pub mod Rows
pub mod Viewed
pub mod Wrong
pub mod WrittenItems
