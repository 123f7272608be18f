mod Wanting
mod Ends
