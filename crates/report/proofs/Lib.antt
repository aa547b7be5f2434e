pub mod Made
pub mod EachFacts
pub mod Rows
pub mod CallFacts
pub mod AfterFacts
pub mod OutcomeFacts
