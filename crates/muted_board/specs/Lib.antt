pub mod Muted
