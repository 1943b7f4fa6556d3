-- What the code's table holds. Nothing here has to be believed: that it agrees with the events is proved.
pub mod Table
