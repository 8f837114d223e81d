mod Paid
mod Parts
mod Words
mod Expressions
mod Statements
mod Runs
mod Turns
mod Apart
