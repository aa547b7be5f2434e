pub mod Walk
pub mod Agreement
pub mod Turn
