mod Pinless
