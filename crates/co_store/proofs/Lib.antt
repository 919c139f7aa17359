mod Laying
mod Showing
mod Reading
