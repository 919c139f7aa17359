mod Laying
mod Oldest
mod Registering
mod Unseeing
mod Lasting
mod Keeping
mod Standing
