pub mod Plans
pub mod Refusals
pub mod Pools
pub mod Ranges
pub mod Making
pub mod Recording
pub mod Walking
pub mod Staying
