pub mod OnBytes
pub mod Playing
pub mod Runs
pub mod Texts
