pub mod Values
pub mod Margins
pub mod Laws
pub mod Members
pub mod Kinds
