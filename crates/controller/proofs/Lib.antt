pub mod LevelFacts
pub mod SheetFacts
pub mod ListFacts
pub mod Kept
pub mod CallRules
pub mod Pairs
