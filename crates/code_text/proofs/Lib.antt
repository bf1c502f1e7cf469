mod Dumped
