pub mod Lines
pub mod Runs
pub mod Refusals
pub mod Cells
pub mod CellBoard
pub mod Hold
pub mod Tape
