mod Parts
mod Walks
mod Shipping
mod Above
mod Listed
mod PackWalks
