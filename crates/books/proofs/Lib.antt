pub mod Distinct
pub mod Edits
pub mod Faults
pub mod Laid
pub mod Standing
pub mod Walks
