pub mod Regions
pub mod Registers
