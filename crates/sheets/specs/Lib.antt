pub mod Faults
pub mod Progress
pub mod Records
pub mod Shown
pub mod Slips
pub mod Words
