mod BufferPieces
