pub mod Contents
pub mod Entries
pub mod Faulty
pub mod Laid
pub mod Lanes
pub mod Opening
pub mod Totals
