pub mod Series
pub mod SeriesFacts
pub mod Held
pub mod Renumbering
pub mod RenumberingFacts
pub mod Once
pub mod Numbered
