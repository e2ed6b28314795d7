use Rattle.xtest_readme.proofs.counting.counted_search_finds_the_path.Given as goal

abbrev pub ghosts-counted_path : goal.ghosts-counted_path
ghosts-counted_path g a = record { name = a.blank.name; parts = a.blank.parts }
