pub mod Admits
pub mod Parts
pub mod Passes
pub mod Runs
