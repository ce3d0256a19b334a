pub mod Commands
pub mod Keys
pub mod Reports
pub mod View
