pub mod OwnFacts
pub mod OwnGuards
pub mod EventMoves
pub mod MoveTraces
