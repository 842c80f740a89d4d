pub mod LingerLemmas
pub mod PlaceLemmas
pub mod StepLemmas
pub mod WaitLemmas
