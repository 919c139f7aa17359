mod Blocking
mod Standing
