pub mod Input
pub mod Parts
