pub mod Units
pub mod Streams
pub mod Origins
pub mod StreamOrigins
