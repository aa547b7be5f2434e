pub mod Jobs
pub mod Worked
