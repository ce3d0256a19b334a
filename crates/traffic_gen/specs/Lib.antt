pub mod Lawful
pub mod Lines
pub mod Meaning
pub mod Steps
pub mod Traffic
