mod Rows
pub mod Covering
pub mod Kept
pub mod Order
pub mod Parts
pub mod PatternOctets
pub mod Places
pub mod Standing
pub mod Tested
