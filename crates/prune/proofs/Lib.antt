mod Sets
mod Comparisons
mod Trees
mod KeyRows
mod FileRows
