pub mod Blank
pub mod Printed
pub mod Silent
pub mod Filed
pub mod Generated
