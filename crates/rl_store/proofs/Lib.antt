pub mod Inner
pub mod JournalLemmas
pub mod LastNotes
pub mod Laying
pub mod SlotsLemmas
pub mod StoreLemmas
pub mod StoreSound
