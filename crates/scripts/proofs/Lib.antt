mod Breaks
mod Numbers
mod Meanings
mod Shown
