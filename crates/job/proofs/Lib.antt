pub mod AllBelow
pub mod ByCases
pub mod FieldFacts
pub mod FirstFacts
pub mod Stacks
