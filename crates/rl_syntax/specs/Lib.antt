-- Where forms stand, where faults do, and what patterns set.
pub mod Declaration
pub mod Statement
pub mod Expression
pub mod Pattern
pub mod Ty
pub mod Fault
pub mod Bound
