mod NodeMarks
mod SharedNode
mod Tallies
