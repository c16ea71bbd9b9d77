pub mod Answers
pub mod Complaints
pub mod Cuts
pub mod Numbers
pub mod Questions
pub mod Shown
pub mod Table
pub mod Told
