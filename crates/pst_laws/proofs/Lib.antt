pub mod Ahead
pub mod Followed
pub mod Found
pub mod Granted
pub mod Items
mod MoveRows
pub mod Numbered
pub mod Numbers
pub mod Placed
pub mod Ranges
pub mod Without
