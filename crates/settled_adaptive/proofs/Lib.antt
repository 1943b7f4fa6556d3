pub mod Names
pub mod AdaptiveTurns
pub mod AdaptiveEdges
pub mod AdaptiveMoves
pub mod AdaptiveTails
pub mod AdaptiveSettles
