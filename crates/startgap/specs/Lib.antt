pub mod Rows
pub mod Regions
pub mod Life
pub mod Theorems
