-- What library functions share.
pub mod Arguments
pub mod Lists
