pub mod Motion
pub mod Sets
pub mod Image
pub mod Laws
