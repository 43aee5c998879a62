-- Laws of decimal digits and of texts on a page.
pub mod Decimals
pub mod Digits
pub mod Pages
