pub mod Filing
pub mod Making
pub mod Printing
pub mod Reports
