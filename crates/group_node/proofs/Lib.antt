pub mod Among
mod KeptLemmas
mod LastCut
