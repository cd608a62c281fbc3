pub mod Arrays
pub mod Chains
pub mod Layers
pub mod Piles
pub mod Fittings
