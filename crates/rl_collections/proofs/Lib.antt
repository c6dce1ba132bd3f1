mod ExtremesLemmas
mod ListsLemmas
mod MapsLemmas
mod RepeatsLemmas
mod SortingLemmas
mod SumsLemmas
mod SizesLemmas
