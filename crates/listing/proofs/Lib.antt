pub mod Spaced
pub mod ShownWords
pub mod Ones
pub mod Works
pub mod Runs
pub mod Told
pub mod ShownStores
pub mod Places
