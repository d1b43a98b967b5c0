mod Pieces
mod Walks
mod Ranges
mod Parts
