pub mod Indexes
pub mod Puts
pub mod Walks
