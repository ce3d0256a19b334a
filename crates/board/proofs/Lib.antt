mod Histories
pub mod Pages
mod Pushes
pub mod Reading
pub mod Runs
pub mod Shown
mod Stepped
mod Steps
pub mod Stops
pub mod Touching
mod Walks
pub mod Works
