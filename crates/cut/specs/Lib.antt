pub mod Store
pub mod Cut
pub mod Laws
