pub mod Powers
pub mod Refresh
pub mod Life
pub mod Theorems
