pub mod StepFacts
pub mod RunFacts
pub mod AdvanceFacts
pub mod NumberFacts
pub mod StackKindsFacts
