pub mod Faults
pub mod Figures
pub mod Parts
pub mod Pieces
pub mod Readings
pub mod Told
pub mod TryFolds
