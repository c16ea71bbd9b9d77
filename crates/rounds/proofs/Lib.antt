pub mod FirstFound
pub mod FormedTables
