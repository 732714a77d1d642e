pub mod Answers
pub mod Field
pub mod Format
pub mod Grammar
pub mod Number
pub mod Reading
pub mod Spelling
