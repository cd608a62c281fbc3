mod Scattered
