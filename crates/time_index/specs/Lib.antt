pub mod TimeIndex
