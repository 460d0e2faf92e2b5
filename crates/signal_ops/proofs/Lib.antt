mod Chosen
