mod Tabled
