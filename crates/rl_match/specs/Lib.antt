-- The bindings of a pattern on a value, the values in it that `/p` asks, and the variables that a pattern tests.
pub mod Bindings
pub mod Below
pub mod Tests
-- What holds of them.
pub mod Laws
-- Inside: what is made of a pattern by steps for its forms, so that it computes on small ones.
pub mod Folds
