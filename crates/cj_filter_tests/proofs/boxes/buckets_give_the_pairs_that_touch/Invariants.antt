use Rattle.cj_filter_tests.proofs.boxes.buckets_give_the_pairs_that_touch.Given as goal

abbrev pub ghosts-by_each_pair : goal.ghosts-by_each_pair
ghosts-by_each_pair g a = record { name = a.blank.name; parts = a.blank.parts }
