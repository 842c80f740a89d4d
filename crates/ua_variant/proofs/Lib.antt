pub mod Arrays
pub mod DiagnosticSteps
pub mod ExtensionForms
pub mod Made
pub mod NumberSteps
pub mod PlainSteps
pub mod PlainVariants
mod Rows
pub mod Steps
pub mod Unflagged
pub mod Widths
