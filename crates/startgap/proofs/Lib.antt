pub mod Rows
pub mod Regions
pub mod Writes
pub mod Runs
pub mod Turns
pub mod Lives
pub mod Paid
