pub mod Half
pub mod HalfBoard
pub mod ShortSource
