pub mod Creation
pub mod Laws
