mod Pieces
mod Heading
mod Going
mod Turning
mod One
