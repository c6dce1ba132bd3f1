-- Types and what stands at the top of a module, from what the parts of their phrases say.
pub mod Field
pub mod TypeForm
pub mod Constructor
pub mod Function
pub mod Declaration
pub mod Rule
