pub mod Answers
pub mod State
pub mod Sheet
pub mod Lists
pub mod Calls
pub mod Views
pub mod Theorem
