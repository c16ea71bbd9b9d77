pub mod Lanes
pub mod Picks
pub mod Unlawful
