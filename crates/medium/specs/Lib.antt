pub mod Array
pub mod Chain
pub mod Law
pub mod Meaning
pub mod Pile
pub mod Fits
