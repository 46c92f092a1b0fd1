mod Files
mod Known
mod Two
