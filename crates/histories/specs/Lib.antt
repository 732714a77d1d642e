pub mod History
pub mod Rules
pub mod Promise
