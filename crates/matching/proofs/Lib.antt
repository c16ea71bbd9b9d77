pub mod Best
pub mod Ones
pub mod Orders
pub mod Sheds
pub mod Wishes
