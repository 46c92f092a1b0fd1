pub mod NextRun
