pub mod Table
pub mod Findings
pub mod Summary
pub mod Views
