pub mod History
pub mod Laws
