mod Fields
pub mod ReadBack
mod WorkedTexts
