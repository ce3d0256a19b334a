pub mod Table
pub mod Standing
pub mod Going
pub mod Granting
