mod GivenFiles
