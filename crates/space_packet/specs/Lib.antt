pub mod Charge
pub mod Header
pub mod Packet
pub mod View
