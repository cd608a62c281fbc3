pub mod Bytes
pub mod Cells
