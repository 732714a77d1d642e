pub mod Field
pub mod Grammar
pub mod Reading
pub mod Spelling
