pub mod Dice
