mod Beginnings
