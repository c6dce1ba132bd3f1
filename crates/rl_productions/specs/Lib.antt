pub mod Symbol
