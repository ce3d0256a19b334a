pub mod Carrying
pub mod Working
pub mod Faults
pub mod Reporting
pub mod Arriving
