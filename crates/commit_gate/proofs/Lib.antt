pub mod AreaEntries
pub mod AreaPages
pub mod Buffers
pub mod EntriesRead
pub mod Images
mod PayloadPages
pub mod Spelled
pub mod Stages
