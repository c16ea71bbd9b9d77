pub mod Counts
pub mod Cuts
pub mod Entries
