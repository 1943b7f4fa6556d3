-- What the functions of the code answer. Nothing here has to be believed: that it is what `Tokens` says is proved.
pub mod LabelFree
pub mod Next
pub mod Scan
