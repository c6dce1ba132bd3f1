-- What holds of reading.
pub mod Laws
