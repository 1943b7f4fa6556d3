pub mod Decoded
pub mod Positions
pub mod Scanning
pub mod SpelledAgain
pub mod Values
pub mod WholeTexts
