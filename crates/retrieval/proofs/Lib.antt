pub mod FirstPicks
pub mod Firsts
pub mod Granted
