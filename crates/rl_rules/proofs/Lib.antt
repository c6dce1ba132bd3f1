pub mod Guards
pub mod Units
pub mod Growth
pub mod More
pub mod Computing
pub mod Computed
pub mod After
pub mod Visited
pub mod Runs
pub mod Nests
pub mod Fronts
pub mod Scopes
mod Counts
mod Ends
mod EndsOfConditions
mod EndsOfCases
mod EndsOfCalls
mod EndsOfForms
pub mod Numbered
pub mod OwnModules
