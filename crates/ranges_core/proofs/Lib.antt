mod Asks
pub mod Behind
mod Effects
pub mod Lasting
mod Makes
mod Moves
mod Opens
mod Owners
mod Passes
mod Picks
mod Ready
mod Reserve
pub mod Runs
mod Shown
mod Texts
