pub mod Language
pub mod Code
pub mod Numbers
pub mod Machine
pub mod Run
pub mod StackBits
pub mod StackKinds
pub mod Stepped
