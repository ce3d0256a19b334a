pub mod Choices
pub mod Repairs
mod PageRead
pub mod Rewriting
pub mod RepairStages
pub mod RootStages
