pub mod Claims
pub mod Lots
pub mod OpenRounds
pub mod Tables
