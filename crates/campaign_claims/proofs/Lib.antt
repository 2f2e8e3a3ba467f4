mod Sums
mod Below
mod Steps
