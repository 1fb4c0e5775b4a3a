-- `Pieces`: the pieces of a joined sheet.
pub mod Pieces
