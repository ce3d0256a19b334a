pub mod Instructions
pub mod Lists
pub mod PatternOctets
pub mod Patterns
