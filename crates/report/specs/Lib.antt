pub mod Input
pub mod Report
pub mod Outcomes
pub mod Cause
pub mod Views
