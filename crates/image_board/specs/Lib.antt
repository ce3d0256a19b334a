pub mod Counting
pub mod FileBoard
pub mod Image
pub mod Medium
pub mod Reading
pub mod Writing
