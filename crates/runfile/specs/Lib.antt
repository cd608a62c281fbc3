pub mod Asks
pub mod Faults
pub mod Layout
pub mod RunFile
pub mod Slots
pub mod Texts
