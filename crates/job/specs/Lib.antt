pub mod Faults
pub mod Fields
pub mod First
pub mod Layout
pub mod Records
pub mod Views
