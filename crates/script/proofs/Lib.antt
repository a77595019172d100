mod Numbers
mod Quotes
mod Choices
mod Addresses
