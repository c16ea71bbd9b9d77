pub mod Choosing
pub mod Offers
pub mod Stands
pub mod Theorems
pub mod Vectors
